use Rattle.std.proofs.Common.{◌≡◌, ◌≢◌, ◌^◌, ◌<◌, length, get_or, sym, subst, arith, rules, tests}
use Rattle.std.specs.List.{AllWithin, HoldsAt}
use Rattle.std.proofs.lemmas.Iterator.{IsFirst-from_position, YieldsList-from_slice}
use Rattle.lines.specs.Bits.{Lowest}
use Rattle.lines.specs.Digits.{none_held, lowest_held}
use Rattle.lines.proofs.bit_set.BitSet.lowest.Goals as goal

pub returns-in_err-first : goal.returns-in_err-first
returns-in_err-first c =
    let ws = c.args.self.now.words in
    let zeros : AllWithin (λ w. w ≡ 0) ws 0 (length ws) =
    IsFirst-from_position _ _ _ (λ w. w ≢ 0) (λ w. w ≡ 0) c.in_err-first.ensures.ran (YieldsList-from_slice ws cc) (λ x q k. search (rules, tests)) (λ x q k. search (rules, tests)) in
    subst (Lowest ws) (sym c.from_residual.ensures) (none_held ws (search rules) (λ i lt. zeros i 0 (omega arith) (search rules)))

pub returns : goal.returns
returns c =
    let ws = c.args.self.now.words in let i = c.in_ok-first.first in
    let found : (i < length ws) × HoldsAt (λ w. w ≢ 0) ws i × AllWithin (λ w. w ≡ 0) ws 0 i =
    IsFirst-from_position _ _ _ (λ w. w ≢ 0) (λ w. w ≡ 0) c.in_ok-first.ensures.ran (YieldsList-from_slice ws cc) (λ x q k. search (rules, tests)) (λ x q k. search (rules, tests)) in
    let small : get_or ws i 0 < 2 ^ 64 = search rules in
    lowest_held ws i (found.1 0) small (λ j lt. found.2 j 0 (omega arith) lt)
