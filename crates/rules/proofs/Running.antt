-- Steps until the worker is idle, as a function; they are Steps in a row.
use Rattle.std.proofs.Common.{◌≡◌, ℕ, zero, suc, Bool, true, false, cond, List, ◌∷◌, Ok, sym, refl, subst}
use Rattle.graph.specs.Nets.{Within}
use Rattle.rules.specs.States.{State, HasWorker, idle}
use Rattle.rules.specs.Rounds.{StepsInRow, more}
use Rattle.rules.specs.Laws.{Told, Moment}
use Rattle.rules.proofs.Keeping.{Good}
use Rattle.rules.proofs.Lawful.{row_good}
use Rattle.rules.proofs.CallsSeen.{steps_led}
use Rattle.rules.proofs.Playing.{next, steps_next}

pub record Played : Type 0 where
  pub trail : List State
  pub end : State

abbrev stop : List State → State → Played
stop trail s = record { trail = trail; end = s }

-- at most so many steps
unfoldable pub played : ℕ → ℕ → State → List State → Played
played zero p s trail = stop trail s
played (suc n) p s trail = cond (idle s p) (stop trail s) (played n p (next s p).store ((next s p).store ∷ trail))

module _ (p : ℕ) (start : State) (ms : List Moment) (t : Told) (g : Good ms t start) where
  abbrev InRow : Played → Type 0
  InRow r = StepsInRow p start r.trail r.end

  either : (b : Bool) (x y : Played) → InRow x → (b ≡ false → InRow y) → InRow (cond b x y)
  either true x y f h = f
  either false x y f h = h refl

  pub in_row : (n : ℕ) (s : State) (trail : List State) → StepsInRow p start trail s → HasWorker s p → InRow (played n p s trail)
  unfolding played
  in_row zero s trail r i = r
  in_row (suc n) s trail r i = either (idle s p) (stop trail s) (played n p (next s p).store ((next s p).store ∷ trail)) r
      (λ e. let a = row_good ms t g r in let h = steps_next s a.shape.sets p i e in
      in_row n (next s p).store ((next s p).store ∷ trail) (more (next s p).label r h)
      (subst (λ (w : ℕ). Within w p) (sym (steps_led s a.shape a.inv p a.apart (Ok (next s p).label) (next s p).store h).crew_n) i))
