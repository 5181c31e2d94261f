use Rattle.lists.proofs.Draining.{Drawing}
use Rattle.lists.proofs.drain.drain.Given as goal

abbrev pub invariant-loop-place : goal.invariant-loop-place
invariant-loop-place g l =
    let sets = g.L.WaitingLists.sets in
    Drawing l.n l.worker l.set (sets l.initial.lists) (sets l.lists) l.initial.taken l.taken l.place-index
