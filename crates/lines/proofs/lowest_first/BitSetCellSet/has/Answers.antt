use Rattle.std.proofs.Common.{sym, ◌∙◌}
use Rattle.lines.specs.Bits.{held}
use Rattle.lines.specs.Digits.{held_within}
use Rattle.lines.specs.Rising.{in_rising}
use Rattle.lines.proofs.lowest_first.BitSetCellSet.has.Goals as goal

pub returns : goal.returns
returns c =
    let ws = c.args.self.now.words in
    c.contains.ensures ∙ held_within ws c.args.self.now.four c.args.self.now.unused c.args.cell ∙ sym (in_rising (held ws) 255 c.args.cell)
