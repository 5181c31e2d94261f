-- The cells that the list names stand in front of the zeros.
use Rattle.std.proofs.Common.{ℕ, List, ◌++◌, drop, replicate, ap, ◌∙◌, arith}
use Rattle.schedule.proofs.Padded.{kept}
use Rattle.schedule.proofs.call.Children.of.Goals as goal

pub returns : goal.returns
returns c =
    let k = c.min-named.result in
    ap (λ (l : List ℕ). record { count = c.args.count; cells = l })
    (ap (λ (ys : List ℕ). ys ++ drop k (replicate 8 0)) c.copy_from_slice.ensures.after
    ∙ kept c.args.count k c.args.cells.now (omega (arith, c.min-named.ensures, c.min.ensures, c.from.ensures)))
