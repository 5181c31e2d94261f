use Rattle.std.proofs.Common.{◌≡◌, length}
use Rattle.graph.specs.Searches.{Marked}
use Rattle.graph.specs.Finding.{OnlyAt, Covers}
use Rattle.graph.proofs.found.Found.of_starts.Given as goal

abbrev pub invariant-loop-i : goal.invariant-loop-i
invariant-loop-i l = record {
  long : length l.found.marks.now ≡ length l.fn.marks;
  turn : l.found.turn ≡ 0;
  only : OnlyAt (length l.found.marks.now) (Marked l.fn.starts) l.found.marks.now;
  covers : Covers l.i l.fn.starts l.found.marks.now;
}
