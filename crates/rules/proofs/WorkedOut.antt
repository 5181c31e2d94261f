-- The worked example, computed from the definitions.
use Rattle.std.proofs.Common.{◌≡◌, ℕ, zero, suc, ◌<◌, ◌≤◌, Bool, true, false, List, [], ◌∷◌, length, Ok, Err, sym, refl, ◌∙◌, inl, inr, arith}
use Rattle.lists.specs.Sets.{after_fill}
use Rattle.lists.specs.declared.waiting.Set.TheVariants.{Check}
use Rattle.graph.specs.Nets.{stay}
use Rattle.rules.specs.declared.cell.Colour.TheVariants.{White}
use Rattle.rules.specs.declared.refusal.Refusal.TheVariants.{OutsideReach}
use Rattle.rules.specs.declared.worker.Label.TheVariants.{L101}
use Rattle.rules.specs.Cells.{made, with_child}
use Rattle.rules.specs.Workers.{at_label, with_own}
use Rattle.rules.specs.States.{State, cell, worker, with_cell, with_worker, with_sets, HasCell, Reach, opened, idle}
use Rattle.rules.specs.Calls.{add_root, drop_root, one_putoff_more}
use Rattle.rules.specs.Laws.{Event, create, add_child, unprotect, send, begin, run, Moment, moment, told, nothing, after, History, started, then}
use Rattle.rules.specs.Worked.{made_and_left, WorkedExample}
use Rattle.rules.specs.Rounds.{StepsInRow, none}
use Rattle.rules.proofs.Keeping.{none_at}
use Rattle.rules.proofs.Lawful.{good}
use Rattle.rules.proofs.Running.{Played, played, in_row}

abbrev created : State → ℕ → State
created s x = add_root (with_cell s x (made (cell s x) [])) 1 x

abbrev dropped : State → ℕ → State
dropped s x = one_putoff_more (drop_root s 1 x) x

abbrev begun : State → State
begun s = with_sets (with_worker s 2 (at_label (with_own (worker s 2) s.round) L101)) (after_fill s.top s.sets 2 Check s.ncells)

s0 : State
s0 = opened 3 2 1 255

s1 : State
s1 = created s0 1

s2 : State
s2 = created s1 2

s3 : State
s3 = with_cell s2 1 (with_child (cell s2 1) 2)

s4 : State
s4 = dropped s3 2

s6 : State
s6 = dropped s4 1

s7 : State
s7 = begun s6

p8 : Played
p8 = played 64 2 s7 []

s9 : State
s9 = begun p8.end

p10 : Played
p10 = played 64 2 s9 []

reach_1 : Reach s2 1 1
unfolding s2 s1 s0
reach_1 = record { start = 1; inside = (omega arith, omega arith); starts = refl; path = stay }

reach_2 : Reach s2 1 2
unfolding s2 s1 s0
reach_2 = record { start = 2; inside = (omega arith, omega arith); starts = refl; path = stay }

no_reach : Reach s4 2 2 → ⊥
unfolding s4 s3 s2 s1 s0
no_reach r = let e = none_at false 256 r.start in let q = r.starts in let z : ◌≡◌ {A = Bool} false true = sym e ∙ q in grind arith

ms6 : List Moment
ms6 = after (send 2 2 1 (Err OutsideReach) ∷ unprotect 1 2 (Ok tt) ∷ add_child 1 1 2 (Ok true) ∷ create 1 2 (Ok 2) ∷ create 1 1 (Ok 1) ∷ []) (unprotect 1 1 (Ok tt)) [] s6
    (after (unprotect 1 2 (Ok tt) ∷ add_child 1 1 2 (Ok true) ∷ create 1 2 (Ok 2) ∷ create 1 1 (Ok 1) ∷ []) (send 2 2 1 (Err OutsideReach)) [] s4
    (after (add_child 1 1 2 (Ok true) ∷ create 1 2 (Ok 2) ∷ create 1 1 (Ok 1) ∷ []) (unprotect 1 2 (Ok tt)) [] s4
    (after (create 1 2 (Ok 2) ∷ create 1 1 (Ok 1) ∷ []) (add_child 1 1 2 (Ok true)) [] s3
    (after (create 1 1 (Ok 1) ∷ []) (create 1 2 (Ok 2)) [] s2
    (after [] (create 1 1 (Ok 1)) [] s1 (moment nothing s0 ∷ []))))))

h6 : History made_and_left ms6 s6
unfolding ms6 s6 s4 s3 s2 s1 s0
h6 =
    then (unprotect 1 1 (Ok tt)) [] (then (send 2 2 1 (Err OutsideReach)) [] (then (unprotect 1 2 (Ok tt)) [] (then (add_child 1 1 2 (Ok true)) [] (then (create 1 2 (Ok 2)) [] (then (create 1 1 (Ok 1)) []
    (started 3 2 1 255 (omega arith, omega arith) (omega arith) (omega arith, omega arith) (omega arith, omega arith))
    (refl, (((omega arith, omega arith), (refl, ((omega arith, omega arith), (refl, tt)))), (refl, refl))))
    (refl, (((omega arith, omega arith), (refl, ((omega arith, omega arith), (refl, tt)))), (refl, refl))))
    (refl, (((omega arith, omega arith), (refl, (((omega arith, omega arith), (omega arith, omega arith)), ((reach_1, reach_2), tt)))), (refl, refl))))
    (refl, (((omega arith, omega arith), (refl, ((omega arith, omega arith), (refl, tt)))), refl))) (
      refl,
      (
        (
          inr (inr (inr (inl (refl, no_reach)))),
          λ k l.
              (λ _. ((omega arith, omega arith), (omega arith, omega arith)), (λ _. refl, (λ _. (omega arith, omega arith), (λ e. absurd (omega arith), (λ e. absurd (omega arith), (λ e. absurd (omega arith), tt)))))),
        ),
        refl,
      ),
    ))
    (refl, (((omega arith, omega arith), (refl, ((omega arith, omega arith), (refl, tt)))), refl))

abbrev begins : List Event
begins = begin 2 (Ok tt) ∷ made_and_left

h7 : History begins (after made_and_left (begin 2 (Ok tt)) [] s7 ms6) s7
unfolding s7 s6 s4 s3 s2 s1 s0
h7 = then (begin 2 (Ok tt)) [] h6 (refl, (((omega arith, omega arith), (refl, (omega arith, tt))), refl))

abbrev ms7 : List Moment
ms7 = after made_and_left (begin 2 (Ok tt)) [] s7 ms6

length-8 : 40 ≡ length p8.trail
unfolding p8 s7 s6 s4 s3 s2 s1 s0 played
length-8 = refl

idle_8 : idle p8.end 2 ≡ true
unfolding p8 s7 s6 s4 s3 s2 s1 s0 played
idle_8 = refl

crew_7 : (1 ≤ 2) × (2 ≤ s7.nworkers)
unfolding s7 s6 s4 s3 s2 s1 s0
crew_7 = (omega arith, omega arith)

busy_7 : idle s7 2 ≡ false
unfolding s7 s6 s4 s3 s2 s1 s0
busy_7 = refl

row_8 : StepsInRow 2 s7 p8.trail p8.end
unfolding p8
row_8 = in_row 2 s7 ms7 (told begins) (good h7) 64 s7 [] none crew_7

ms8 : List Moment
ms8 = after begins (run 2 1000 (Ok 40)) p8.trail p8.end ms7

h8 : History (run 2 1000 (Ok 40) ∷ begins) ms8 p8.end
unfolding ms8
h8 = then (run 2 1000 (Ok 40)) p8.trail h7 ((crew_7, (busy_7, tt)), row_8, length-8, omega arith, λ _. idle_8)

crew_8 : p8.end.nworkers ≡ 2
unfolding p8 s7 s6 s4 s3 s2 s1 s0 played
crew_8 = refl

round_8 : p8.end.round ≡ 2
unfolding p8 s7 s6 s4 s3 s2 s1 s0 played
round_8 = refl

abbrev again : List Event
again = begin 2 (Ok tt) ∷ run 2 1000 (Ok 40) ∷ begins

abbrev ms9 : List Moment
ms9 = after (run 2 1000 (Ok 40) ∷ begins) (begin 2 (Ok tt)) [] s9 ms8

h9 : History again ms9 s9
unfolding s9
h9 = then (begin 2 (Ok tt)) [] h8 (refl, (((omega arith, (let e = crew_8 in omega arith)), (idle_8, ((let e = round_8 in omega arith), tt))), refl))

crew_9 : (1 ≤ 2) × (2 ≤ s9.nworkers)
unfolding s9
crew_9 = (omega arith, (let e = crew_8 in omega arith))

busy_9 : idle s9 2 ≡ false
unfolding s9 p8 s7 s6 s4 s3 s2 s1 s0 played
busy_9 = refl

row_10 : StepsInRow 2 s9 p10.trail p10.end
unfolding p10
row_10 = in_row 2 s9 ms9 (told again) (good h9) 64 s9 [] none crew_9

length-10 : 24 ≡ length p10.trail
unfolding p10 s9 p8 s7 s6 s4 s3 s2 s1 s0 played
length-10 = refl

idle_10 : idle p10.end 2 ≡ true
unfolding p10 s9 p8 s7 s6 s4 s3 s2 s1 s0 played
idle_10 = refl

cells_10 : p10.end.ncells ≡ 3
unfolding p10 s9 p8 s7 s6 s4 s3 s2 s1 s0 played
cells_10 = refl

round_10 : p10.end.round ≡ 3
unfolding p10 s9 p8 s7 s6 s4 s3 s2 s1 s0 played
round_10 = refl

free_10 : (x : ℕ) → x < 3 → (cell p10.end (suc x)).colour ≡ White
unfolding p10 s9 p8 s7 s6 s4 s3 s2 s1 s0 played
free_10 zero l = refl
free_10 (suc zero) l = refl
free_10 (suc (suc zero)) l = refl
free_10 (suc (suc (suc x))) l = absurd (omega arith)

free_at : (x : ℕ) → HasCell p10.end x → (cell p10.end x).colour ≡ White
free_at zero i = absurd (let a = i.0 in omega arith)
free_at (suc x) i = free_10 x (let a = i.1 in let e = cells_10 in omega arith)

pub worked_example : WorkedExample 40 24
worked_example = record {
  moments = after again (run 2 1000 (Ok 24)) p10.trail p10.end ms9;
  store = p10.end;
  history = then (run 2 1000 (Ok 24)) p10.trail h9 ((crew_9, (busy_9, tt)), row_10, length-10, omega arith, λ _. idle_10);
  cells = cells_10;
  round = round_10;
  free = free_at;
}
