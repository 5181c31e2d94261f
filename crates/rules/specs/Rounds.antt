-- The labelled steps of a round, one by one in the order of a round, and Step and Run. Assumes nothing.
use Rattle.std.specs.Prelude.{◌≡◌, ℕ, ◌+◌, ◌-◌, ◌<◌, ◌≤◌, Bool, true, false, cond, ◌&&◌, List, [], ◌∷◌, length, Some, None, Ok, Err, MatchBool, Option, Result, ◌==◌, nat_le, nat_lt, slice_index, slice_set}
use Rattle.lists.specs.Sets.{Sets, Took, after_fill, cleared, after_put, struck}
use Rattle.lists.specs.declared.waiting.Set.{Set}
use Rattle.lists.specs.declared.waiting.Set.TheVariants.{Check, Start, Follow}
use Rattle.rules.specs.declared.cell.Cell.{Cell}
use Rattle.rules.specs.declared.cell.Colour.{Colour}
use Rattle.rules.specs.declared.cell.Colour.TheVariants.{White, Black, Grey}
use Rattle.rules.specs.declared.cell.Father.{Father}
use Rattle.rules.specs.declared.cell.Father.TheVariants.{Nobody, Source, Under}
use Rattle.rules.specs.declared.refusal.Refusal.{Refusal}
use Rattle.rules.specs.declared.refusal.Refusal.TheVariants.{NoWorker, Idle as WorkerIdle}
use Rattle.rules.specs.declared.worker.Label.{Label}
use Rattle.rules.specs.declared.worker.Label.TheVariants.{Idle, L101, L108, L121, L122, L126, L150, L151, L157, L158, L163, L168, L175, L180, L129, L134, L135, L137}
use Rattle.rules.specs.declared.worker.Worker.{Worker}
use Rattle.rules.specs.Cells.{is_grey, is_source, with_colour, with_father}
use Rattle.rules.specs.Workers.{at_label, holding_x, holding_w, holding_y, at_copy, with_copies, with_stack}
use Rattle.rules.specs.States.{State, cell, worker, with_cell, with_worker, with_sets, with_round, HasWorker, idle}
use Rattle.rules.specs.Calls.{Row, row, Refused, Taken, Settles}

-- in step: the worker's own round equals the round number
abbrev pub in_step : State → ℕ → Bool
in_step s p = (worker s p).own == s.round

-- fresh: the cell's round is the worker's own round + 1
abbrev pub fresh : State → ℕ → ℕ → Bool
fresh s p x = (cell s x).round == (worker s p).own + 1

abbrev pub grey_and_fresh : State → ℕ → ℕ → Bool
grey_and_fresh s p x = is_grey (cell s x).colour && fresh s p x

-- the worker goes to a label
abbrev pub goes : State → ℕ → Label → State
goes s p l = with_worker s p (at_label (worker s p) l)

-- the set is filled with all cells
abbrev pub filled_with_all : State → ℕ → Set → Sets → Sets
filled_with_all s p k t = after_fill s.top t p k s.ncells

-- a step that leaves the store s with the worker p changed and at a label, which is the answer
abbrev pub Becomes : State → ℕ → Worker → Label → Label → State → Type 0
Becomes s p k l next t = (t ≡ with_worker s p (at_label k l)) × (next ≡ l)

-- a step that changes no more of the worker than its label
abbrev pub To : State → ℕ → Label → Label → State → Type 0
To s p l next t = (t ≡ goes s p l) × (next ≡ l)

-- what Take gave is held in a register, and the worker goes to one label; if it gave none, to the other
abbrev pub drawn : (Worker → ℕ → Worker) → State → ℕ → Option ℕ → Label → Label → State
drawn hold s p None l other = goes s p other
drawn hold s p (Some x) l other = with_worker s p (at_label (hold (worker s p) x) l)

abbrev pub next_of : Option ℕ → Label → Label → Label
next_of None l other = other
next_of (Some x) l other = l

-- in step and Take on the set gives a cell: to one label. Else the other. Take is called only in step
abbrev pub Draws : Set → (Worker → ℕ → Worker) → Label → Label → State → ℕ → Label → State → Type 0
Draws k hold l other s p next t =
    MatchBool (in_step s p)
    ((o : Option ℕ) × (Took s.sets p k o t.sets × (t ≡ with_sets (drawn hold s p o l other) t.sets) × (next ≡ next_of o l other)))
    (To s p other next t)

-- 108: if x's round is own round, it becomes own round + 1, first count becomes arity, black becomes grey, and father becomes 0 for a
-- source count above 0, else -1

abbrev pub greyed : Colour → Colour
greyed White = White
greyed Black = Grey
greyed Grey = Grey

abbrev pub scanned : Cell → ℕ → Cell
scanned c own = record c { first = c.arity; round = own + 1; colour = greyed c.colour; father = cond (nat_lt 0 c.sources) Source Nobody }

abbrev pub scanning : State → ℕ → ℕ → State
scanning s p x = cond ((cell s x).round == (worker s p).own) (with_cell s x (scanned (cell s x) (worker s p).own)) s

-- 150: x is struck from check, follow becomes x alone, the worker's stack is emptied

abbrev pub following_alone : State → ℕ → ℕ → Sets
following_alone s p x = after_put s.top (cleared (struck s.sets p Check x) p Follow) p Follow x

-- 157: if w is grey and fresh, places 1 to first count are copied, w is stacked, j is 1. The stack has room for every cell; the laws
-- say that its limit is never met

abbrev pub stacked : Worker → ℕ → Worker
stacked k x = cond (nat_lt k.depth 255) (with_stack k (k.depth + 1) (slice_set k.stack k.depth x)) k

abbrev pub copying : State → Worker → Worker
copying s k = at_copy (with_copies (stacked k k.w) (cell s k.w).first (cell s k.w).places) 1

-- 158: in step and j at most the number copied: y is copy j

abbrev pub copy_left : State → ℕ → Bool
copy_left s p = in_step s p && nat_le (worker s p).j (worker s p).copied

abbrev pub copy : Worker → ℕ
copy k = slice_index k.copies (k.j - 1)

abbrev pub looked : State → ℕ → Bool → State
looked s p true = with_worker s p (at_label (holding_y (worker s p) (copy (worker s p))) L163)
looked s p false = with_worker s p (at_label (at_copy (holding_y (worker s p) (copy (worker s p))) ((worker s p).j + 1)) L158)

-- 163: if y is grey and fresh with father -1 or w, its father becomes w, y is put in follow and struck from check. In each case j rises by 1

abbrev pub unclaimed : ℕ → Father → Bool
unclaimed w Nobody = true
unclaimed w Source = false
unclaimed w (Under v) = v == w

abbrev pub claims : State → ℕ → Bool
claims s p = grey_and_fresh s p (worker s p).y && unclaimed (worker s p).w (cell s (worker s p).y).father

abbrev pub claimed : State → ℕ → ℕ → State
claimed s p y =
    with_sets (with_cell s y (with_father (cell s y) (Under (worker s p).w))) (struck (after_put s.top s.sets p Follow y) p Check y)

-- 168: in step and the stack not empty: its top comes off as y

abbrev pub stack_left : State → ℕ → Bool
stack_left s p = in_step s p && nat_lt 0 (worker s p).depth

abbrev pub unstacked : Worker → Worker
unstacked k = with_stack (holding_y k (slice_index k.stack (k.depth - 1))) (k.depth - 1) k.stack

-- 175: if y is grey and fresh, its put-off count is taken from its source count and becomes 0, and y turns black

abbrev pub painted : Cell → Cell
painted c = record c { sources = c.sources - c.putoff; putoff = 0; colour = Black }

-- what the label where p stands does, and the next label

abbrev pub StepsAt : Label → State → ℕ → Label → State → Type 0
StepsAt Idle s p next t = ⊥
-- 101: in step and Take on check gives x: to 108. Else 121
StepsAt L101 s p next t = Draws Check holding_x L108 L121 s p next t
-- 108: scan x; to 101
StepsAt L108 s p next t = To (scanning s p (worker s p).x) p L101 next t
-- 121: check and start are filled; to 122
StepsAt L121 s p next t = To (with_sets s (filled_with_all s p Start (filled_with_all s p Check s.sets))) p L122 next t
-- 122: in step and Take on start gives x: to 126. Else 129
StepsAt L122 s p next t = Draws Start holding_x L126 L129 s p next t
-- 126: if x's father is 0: to 150. Else 122
StepsAt L126 s p next t = To s p (cond (is_source (cell s (worker s p).x).father) L150 L122) next t
-- 150: start the walk at x; to 151
StepsAt L150 s p next t = Becomes (with_sets s (following_alone s p (worker s p).x)) p (with_stack (worker s p) 0 (worker s p).stack) L151 next t
-- 151: in step and Take on follow gives w: to 157. Else 168
StepsAt L151 s p next t = Draws Follow holding_w L157 L168 s p next t
-- 157: if w is grey and fresh, copy and stack it; to 158. Else 151
StepsAt L157 s p next t = MatchBool (grey_and_fresh s p (worker s p).w) (Becomes s p (copying s (worker s p)) L158 next t) (To s p L151 next t)
-- 158: in step and a copy left: if it is in check to 163, else j rises by 1 and to 158. Otherwise 151
StepsAt L158 s p next t =
    MatchBool (copy_left s p)
    ((t ≡ looked s p (s.sets p Check (copy (worker s p)))) × (next ≡ cond (s.sets p Check (copy (worker s p))) L163 L158))
    (To s p L151 next t)
-- 163: claim y if it is free to claim; j rises by 1; to 158
StepsAt L163 s p next t = Becomes (cond (claims s p) (claimed s p (worker s p).y) s) p (at_copy (worker s p) ((worker s p).j + 1)) L158 next t
-- 168: in step and the stack not empty: its top comes off as y; to 175. Else 180
StepsAt L168 s p next t = MatchBool (stack_left s p) (Becomes s p (unstacked (worker s p)) L175 next t) (To s p L180 next t)
-- 175: paint y if it is grey and fresh; to 168
StepsAt L175 s p next t = To (cond (grey_and_fresh s p (worker s p).y) (with_cell s (worker s p).y (painted (cell s (worker s p).y))) s) p L168 next t
-- 180: to 122
StepsAt L180 s p next t = To s p L122 next t
-- 129: in step and Take on check gives x: to 134. Else 135
StepsAt L129 s p next t = Draws Check holding_x L134 L135 s p next t
-- 134: if x is grey and fresh it turns white; to 129
StepsAt L134 s p next t = To (cond (grey_and_fresh s p (worker s p).x) (with_cell s (worker s p).x (with_colour (cell s (worker s p).x) White)) s) p L129 next t
-- 135: in step, the round number rises by 1. To 137
StepsAt L135 s p next t = To (cond (in_step s p) (with_round s (s.round + 1)) s) p L137 next t
-- 137: idle
StepsAt L137 s p next t = To s p Idle next t

-- Step(p) does the label where p stands, and answers the next label

abbrev pub step_rows : State → ℕ → List Row
step_rows s p = row NoWorker (HasWorker s p) ∷ row WorkerIdle (idle s p ≡ false) ∷ []

abbrev pub Steps : State → ℕ → Result Label Refusal → State → Type 0
Steps s p = Settles (step_rows s p) s (λ next t. StepsAt (worker s p).label s p next t)

-- accepted Steps of p in a row, with the stores after each, the newest first
pub data StepsInRow (p : ℕ) : State → List State → State → Type 0 where
  none : {s : State} → StepsInRow p s [] s
  more : {s t u : State} {trail : List State} (next : Label) → StepsInRow p s trail t → Steps t p (Ok next) u → StepsInRow p s (u ∷ trail) u

-- Run(p, n) does Steps until p is idle or n are made, and answers the number made
abbrev pub Runs : State → ℕ → ℕ → Result ℕ Refusal → List State → State → Type 0
Runs s p n (Err e) trail t = (trail ≡ []) × Refused (step_rows s p) e × (t ≡ s)
Runs s p n (Ok made) trail t = Taken (step_rows s p) × StepsInRow p s trail t × (made ≡ length trail) × (made ≤ n) × (made < n → idle t p ≡ true)
