-- Open and the eleven calls: what is asked of each, in the order of the refusals' numbers, what it answers, and what it does.
-- Assumes nothing.
use Rattle.std.specs.Prelude.{◌≡◌, ℕ, ◌+◌, ◌<◌, ◌≤◌, Bool, true, false, cond, ◌⊎◌, List, [], ◌∷◌, length, Ok, Err, Result, ◌≢◌, nat_lt, slice_set}
use Rattle.lists.specs.Sets.{after_fill}
use Rattle.lists.specs.declared.waiting.Set.TheVariants.{Check}
use Rattle.graph.specs.Nets.{Within}
use Rattle.rules.specs.declared.cell.Colour.TheVariants.{White}
use Rattle.rules.specs.declared.refusal.Refusal.{Refusal}
use Rattle.rules.specs.declared.refusal.Refusal.TheVariants.{Cells, Workers, FirstRound, NoWorker, NotIdle, ListLength, NoCell, OutsideReach, NotWhite, AlreadyRoot, NotRoot, BoxFull, BoxEmpty, SourcesFull, LastRound}
use Rattle.rules.specs.declared.worker.Label.TheVariants.{L101}
use Rattle.rules.specs.Refusals.{number}
use Rattle.rules.specs.Cells.{place, within, with_sources, with_putoff, with_child, made}
use Rattle.rules.specs.Workers.{at_label, with_own, with_roots, with_boxes}
use Rattle.rules.specs.States.{State, cell, worker, with_cell, with_worker, with_sets, HasCell, HasWorker, idle, root, boxed, Reach, opened}

-- a row of the table of refusals: what is asked, and the refusal where it does not hold
pub record Row : Type 1 where
  pub refusal : Refusal
  pub asked : Type 0

abbrev pub row : Refusal → Type 0 → Row
row e a = record { refusal = e; asked = a }

-- the cause of this number holds: what its row asks does not
abbrev pub Fails : List Row → ℕ → Type 0
Fails [] k = ⊥
Fails (r ∷ rs) k = ((k ≡ number r.refusal) × (r.asked → ⊥)) ⊎ Fails rs k

-- the cause of this number does not hold
abbrev pub Meets : List Row → ℕ → Type 0
Meets [] k = Unit {0}
Meets (r ∷ rs) k = (k ≡ number r.refusal → r.asked) × Meets rs k

-- the cause of this refusal holds, and none of a smaller number
abbrev pub Refused : List Row → Refusal → Type 0
Refused rows e = Fails rows (number e) × ((k : ℕ) → k < number e → Meets rows k)

-- no cause holds
abbrev pub Taken : List Row → Type 0
Taken [] = Unit {0}
Taken (r ∷ rs) = r.asked × Taken rs

-- a refused call alters nothing; one that is taken does what it should
abbrev pub Settles : {A : Type 0} → List Row → State → (A → State → Type 0) → Result A Refusal → State → Type 0
Settles rows s does (Err e) t = Refused rows e × (t ≡ s)
Settles rows s does (Ok a) t = Taken rows × does a t

-- Open(cells, workers, first round): a newly opened store

abbrev pub open_rows : State → ℕ → ℕ → ℕ → List Row
open_rows s n w first =
    row Cells (Within 255 n × (n ≤ s.top))
    ∷ row Workers (Within 8 w)
    ∷ row FirstRound (Within 4294967294 first)
    ∷ []

abbrev pub Opens : State → ℕ → ℕ → ℕ → Result (Unit {0}) Refusal → State → Type 0
Opens s n w first = Settles (open_rows s n w first) s (λ _ t. t ≡ opened n w first s.top)

-- what is asked of each member of a list
abbrev pub Each : (ℕ → Type 0) → List ℕ → Type 0
Each P [] = Unit {0}
Each P (x ∷ xs) = P x × Each P xs

-- x becomes a root of p
abbrev pub add_root : State → ℕ → ℕ → State
add_root s p x = with_worker s p (with_roots (worker s p) (slice_set (worker s p).roots x true))

-- x is a root of p no more
abbrev pub drop_root : State → ℕ → ℕ → State
drop_root s p x = with_worker s p (with_roots (worker s p) (slice_set (worker s p).roots x false))

-- the box from p to r holds x
abbrev pub fill_box : State → ℕ → ℕ → ℕ → State
fill_box s p r x = with_worker s p (with_boxes (worker s p) (slice_set (worker s p).boxes r x))

-- the source count of x rises by 1
abbrev pub one_source_more : State → ℕ → State
one_source_more s x = with_cell s x (with_sources (cell s x) ((cell s x).sources + 1))

-- a count of at most 65,535 rises by 1; the laws say that the limit is never met
abbrev pub risen : ℕ → ℕ
risen n = cond (nat_lt n 65535) (n + 1) n

-- the put-off count of x rises by 1
abbrev pub one_putoff_more : State → ℕ → State
one_putoff_more s x = with_cell s x (with_putoff (cell s x) (risen (cell s x).putoff))

-- Create(p, x): x becomes black, arity 0, source count 1, a root of p; it answers x

abbrev pub create_rows : State → ℕ → ℕ → List Row
create_rows s p x =
    row NoWorker (HasWorker s p)
    ∷ row NotIdle (idle s p ≡ true)
    ∷ row NoCell (HasCell s x)
    ∷ row NotWhite ((cell s x).colour ≡ White)
    ∷ []

abbrev pub Creates : State → ℕ → ℕ → Result ℕ Refusal → State → Type 0
Creates s p x = Settles (create_rows s p x) s (λ a t. (a ≡ x) × (t ≡ add_root (with_cell s x (made (cell s x) [])) p x))

-- AddChild(p, x, y): below arity 8, y takes the next place and the answer is yes; at arity 8 it is no and nothing alters

abbrev pub add_child_rows : State → ℕ → ℕ → ℕ → List Row
add_child_rows s p x y =
    row NoWorker (HasWorker s p)
    ∷ row NotIdle (idle s p ≡ true)
    ∷ row NoCell (HasCell s x × HasCell s y)
    ∷ row OutsideReach (Reach s p x × Reach s p y)
    ∷ []

abbrev pub AddsChild : State → ℕ → ℕ → ℕ → Result Bool Refusal → State → Type 0
AddsChild s p x y =
    Settles (add_child_rows s p x y) s
    (λ a t. (a ≡ nat_lt (cell s x).arity 8) × (t ≡ cond (nat_lt (cell s x).arity 8) (with_cell s x (with_child (cell s x) y)) s))

-- GetChild(p, x, j): the child in place j, or 0 if j is 0 or above the arity

abbrev pub get_child_rows : State → ℕ → ℕ → List Row
get_child_rows s p x =
    row NoWorker (HasWorker s p)
    ∷ row NotIdle (idle s p ≡ true)
    ∷ row NoCell (HasCell s x)
    ∷ row OutsideReach (Reach s p x)
    ∷ []

abbrev pub GetsChild : State → ℕ → ℕ → ℕ → Result ℕ Refusal → State → Type 0
GetsChild s p x j = Settles (get_child_rows s p x) s (λ a t. (a ≡ cond (within (cell s x).arity j) (place (cell s x) j) 0) × (t ≡ s))

-- Make(p, x, list): Create with 1 to 8 children, in the list's order

abbrev pub make_rows : State → ℕ → ℕ → List ℕ → List Row
make_rows s p x list =
    row NoWorker (HasWorker s p)
    ∷ row NotIdle (idle s p ≡ true)
    ∷ row ListLength (Within 8 (length list))
    ∷ row NoCell (HasCell s x × Each (HasCell s) list)
    ∷ row OutsideReach (Each (Reach s p) list)
    ∷ row NotWhite ((cell s x).colour ≡ White)
    ∷ []

abbrev pub Makes : State → ℕ → ℕ → List ℕ → Result ℕ Refusal → State → Type 0
Makes s p x list = Settles (make_rows s p x list) s (λ a t. (a ≡ x) × (t ≡ add_root (with_cell s x (made (cell s x) list)) p x))

-- Protect(p, x): x becomes a root and its source count rises by 1

abbrev pub protect_rows : State → ℕ → ℕ → List Row
protect_rows s p x =
    row NoWorker (HasWorker s p)
    ∷ row NotIdle (idle s p ≡ true)
    ∷ row NoCell (HasCell s x)
    ∷ row OutsideReach (Reach s p x)
    ∷ row AlreadyRoot (root s p x ≡ false)
    ∷ row SourcesFull ((cell s x).sources < 65535)
    ∷ []

abbrev pub Protects : State → ℕ → ℕ → Result (Unit {0}) Refusal → State → Type 0
Protects s p x = Settles (protect_rows s p x) s (λ _ t. t ≡ one_source_more (add_root s p x) x)

-- UnProtect(p, x): x is a root no more and its put-off count rises by 1

abbrev pub unprotect_rows : State → ℕ → ℕ → List Row
unprotect_rows s p x =
    row NoWorker (HasWorker s p)
    ∷ row NotIdle (idle s p ≡ true)
    ∷ row NoCell (HasCell s x)
    ∷ row NotRoot (root s p x ≡ true)
    ∷ []

abbrev pub UnProtects : State → ℕ → ℕ → Result (Unit {0}) Refusal → State → Type 0
UnProtects s p x = Settles (unprotect_rows s p x) s (λ _ t. t ≡ one_putoff_more (drop_root s p x) x)

-- Send(p, x, r): the box from p to r holds x, whose source count rises by 1

abbrev pub send_rows : State → ℕ → ℕ → ℕ → List Row
send_rows s p x r =
    row NoWorker (HasWorker s p × HasWorker s r)
    ∷ row NotIdle (idle s p ≡ true)
    ∷ row NoCell (HasCell s x)
    ∷ row OutsideReach (Reach s p x)
    ∷ row BoxFull (boxed s p r ≡ 0)
    ∷ row SourcesFull ((cell s x).sources < 65535)
    ∷ []

abbrev pub Sends : State → ℕ → ℕ → ℕ → Result (Unit {0}) Refusal → State → Type 0
Sends s p x r = Settles (send_rows s p x r) s (λ _ t. t ≡ one_source_more (fill_box s p r x) x)

-- Receive(p, r): the box from r to p is emptied; its cell becomes a root of p and is the answer. If it was a root already, its
-- put-off count rises by 1

abbrev pub receive_rows : State → ℕ → ℕ → List Row
receive_rows s p r =
    row NoWorker (HasWorker s p × HasWorker s r)
    ∷ row NotIdle (idle s p ≡ true)
    ∷ row BoxEmpty (boxed s r p ≢ 0)
    ∷ []

abbrev pub received : State → ℕ → ℕ → ℕ → State
received s p r x = cond (root s p x) (one_putoff_more (fill_box s r p 0) x) (add_root (fill_box s r p 0) p x)

abbrev pub Receives : State → ℕ → ℕ → Result ℕ Refusal → State → Type 0
Receives s p r = Settles (receive_rows s p r) s (λ a t. (a ≡ boxed s r p) × (t ≡ received s p r (boxed s r p)))

-- Begin(p) does label 100: own round becomes the round number, check is filled with all cells; to 101

abbrev pub begin_rows : State → ℕ → List Row
begin_rows s p =
    row NoWorker (HasWorker s p)
    ∷ row NotIdle (idle s p ≡ true)
    ∷ row LastRound (s.round < 4294967294)
    ∷ []

abbrev pub Begins : State → ℕ → Result (Unit {0}) Refusal → State → Type 0
Begins s p =
    Settles (begin_rows s p) s
    (λ _ t. t ≡ with_sets (with_worker s p (at_label (with_own (worker s p) s.round) L101)) (after_fill s.top s.sets p Check s.ncells))
