use Rattle.std.proofs.Common.{refl}
use Rattle.lines.specs.Digits.{zero_words}
use Rattle.lines.proofs.bit_set.BitSet.empty.Goals as goal

pub invariant_of-result : goal.invariant_of-result
invariant_of-result c = record { four = refl; unused = zero_words 0 }

pub returns : goal.returns
returns c = zero_words
