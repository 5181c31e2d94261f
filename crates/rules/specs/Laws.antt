-- The three laws, over every history of calls from a newly opened store. Roots, boxes and children are told by the calls and
-- their answers alone; colours, counts and the round number are those that the store holds. Assumes nothing.
use Rattle.std.specs.Prelude.{◌≡◌, ℕ, zero, suc, ◌+◌, ◌≤◌, Bool, true, false, cond, ◌⊎◌, List, [], ◌∷◌, ◌++◌, length, Ok, Err, Result, ◌==◌}
use Rattle.graph.specs.Nets.{Within}
use Rattle.rules.specs.declared.cell.Colour.TheVariants.{White}
use Rattle.rules.specs.declared.refusal.Refusal.{Refusal}
use Rattle.rules.specs.declared.worker.Label.{Label}
use Rattle.rules.specs.States.{State, cell, HasCell, opened}
use Rattle.rules.specs.Calls.{Creates, AddsChild, GetsChild, Makes, Protects, UnProtects, Sends, Receives, Begins}
use Rattle.rules.specs.Rounds.{Steps, Runs}

-- a call with its answer
pub data Event : Type 0 where
  create : (p x : ℕ) → Result ℕ Refusal → Event
  add_child : (p x y : ℕ) → Result Bool Refusal → Event
  get_child : (p x j : ℕ) → Result ℕ Refusal → Event
  make : (p x : ℕ) (list : List ℕ) → Result ℕ Refusal → Event
  protect unprotect : (p x : ℕ) → Result (Unit {0}) Refusal → Event
  send : (p x r : ℕ) → Result (Unit {0}) Refusal → Event
  receive : (p r : ℕ) → Result ℕ Refusal → Event
  begin : (p : ℕ) → Result (Unit {0}) Refusal → Event
  step : (p : ℕ) → Result Label Refusal → Event
  run : (p n : ℕ) → Result ℕ Refusal → Event

-- what the calls tell: which cells are roots of which worker, what the boxes hold, and the children of each cell
pub record Told : Type 0 where
  pub roots : ℕ → ℕ → Bool
  pub boxes : ℕ → ℕ → ℕ
  pub children : ℕ → List ℕ

-- f with v at k
abbrev pub at : {A : Type 0} → (ℕ → A) → ℕ → A → ℕ → A
at f k v z = cond (z == k) v (f z)

-- before the first call
abbrev pub nothing : Told
nothing = record { roots = λ _ _. false; boxes = λ _ _. 0; children = λ _. [] }

abbrev pub told_root : Told → ℕ → ℕ → Bool → Told
told_root t p x b = record { roots = at t.roots p (at (t.roots p) x b); boxes = t.boxes; children = t.children }

abbrev pub told_box : Told → ℕ → ℕ → ℕ → Told
told_box t p r x = record { roots = t.roots; boxes = at t.boxes p (at (t.boxes p) r x); children = t.children }

abbrev pub told_children : Told → ℕ → List ℕ → Told
told_children t x ys = record { roots = t.roots; boxes = t.boxes; children = at t.children x ys }

-- what a call adds: Create and Make add x to p's roots and give it just the children listed; AddChild with yes adds y; Protect adds x
-- to the roots, UnProtect removes it; Send fills the box, Receive moves its cell to p's roots. All else leaves them
abbrev pub tell : Event → Told → Told
tell (create p x (Ok a)) t = told_children (told_root t p x true) x []
tell (create p x (Err e)) t = t
tell (add_child p x y (Ok true)) t = told_children t x (t.children x ++ y ∷ [])
tell (add_child p x y (Ok false)) t = t
tell (add_child p x y (Err e)) t = t
tell (get_child p x j a) t = t
tell (make p x list (Ok a)) t = told_children (told_root t p x true) x list
tell (make p x list (Err e)) t = t
tell (protect p x (Ok a)) t = told_root t p x true
tell (protect p x (Err e)) t = t
tell (unprotect p x (Ok a)) t = told_root t p x false
tell (unprotect p x (Err e)) t = t
tell (send p x r (Ok a)) t = told_box t p r x
tell (send p x r (Err e)) t = t
tell (receive p r (Ok x)) t = told_root (told_box t r p 0) p x true
tell (receive p r (Err e)) t = t
tell (begin p a) t = t
tell (step p a) t = t
tell (run p n a) t = t

-- what the calls tell, the newest call first
abbrev pub told : List Event → Told
told [] = nothing
told (e ∷ es) = tell e (told es)

abbrev pub Member : ℕ → List ℕ → Type 0
Member z [] = ⊥
Member z (x ∷ xs) = (z ≡ x) ⊎ Member z xs

-- live: some path of children leads there from a root or a box of a worker
pub data Live (workers : ℕ) (t : Told) : ℕ → Type 0 where
  by_root : {x : ℕ} (p : ℕ) → Within workers p → t.roots p x ≡ true → Live workers t x
  by_box : {x : ℕ} (p r : ℕ) → Within workers p → Within workers r → t.boxes p r ≡ x → 1 ≤ x → Live workers t x
  by_child : {x z : ℕ} → Live workers t x → Member z (t.children x) → Live workers t z

-- a moment: what is told by then, and the store
pub record Moment : Type 0 where
  pub known : Told
  pub store : State

abbrev pub moment : Told → State → Moment
moment t s = record { known = t; store = s }

abbrev pub LiveAt : Moment → ℕ → Type 0
LiveAt m x = Live m.store.nworkers m.known x

-- dead: a cell of the store that is not live
abbrev pub DeadAt : Moment → ℕ → Type 0
DeadAt m x = HasCell m.store x × (LiveAt m x → ⊥)

abbrev pub FreeAt : Moment → ℕ → Type 0
FreeAt m x = (cell m.store x).colour ≡ White

-- no free cell is live
abbrev pub NoFreeCellLive : Moment → Type 0
NoFreeCellLive m = (x : ℕ) → LiveAt m x → FreeAt m x → ⊥

abbrev pub one : Bool → ℕ
one b = cond b 1 0

-- f at 1 to n, added up
abbrev pub sum : (ℕ → ℕ) → ℕ → ℕ
sum f zero = 0
sum f (suc n) = sum f n + f (suc n)

-- how many of so many workers have x as a root
abbrev pub roots_of : ℕ → Told → ℕ → ℕ
roots_of n t x = sum (λ p. one (t.roots p x)) n

-- how many of their boxes hold x
abbrev pub boxes_of : ℕ → Told → ℕ → ℕ
boxes_of n t x = sum (λ p. sum (λ r. one (t.boxes p r == x)) n) n

-- a cell's source count is its put-off count plus the workers that hold it as a root plus the boxes that hold it
abbrev pub CountsBalance : Moment → Type 0
CountsBalance m =
    (x : ℕ) → HasCell m.store x
    → (cell m.store x).sources ≡ (cell m.store x).putoff + (roots_of m.store.nworkers m.known x + boxes_of m.store.nworkers m.known x)

-- the moments, the newest first; the oldest has number 0
pub data AtMoment : List Moment → ℕ → Moment → Type 0 where
  here : {m : Moment} {ms : List Moment} → AtMoment (m ∷ ms) (length ms) m
  before : {m k : Moment} {ms : List Moment} {i : ℕ} → AtMoment ms i m → AtMoment (k ∷ ms) i m

-- x is free at some moment from i to k
pub record FreedBetween (ms : List Moment) (i k x : ℕ) : Type 0 where
  pub when : ℕ
  pub then : Moment
  pub is : AtMoment ms when then
  pub from : i ≤ when
  pub by : when ≤ k
  pub free : FreeAt then x

-- it holds at every moment
abbrev pub AtEveryMoment : (Moment → Type 0) → List Moment → Type 0
AtEveryMoment P ms = (i : ℕ) (m : Moment) → AtMoment ms i m → P m

-- a cell dead at one moment has been free since, once the round number has risen so often
abbrev pub FreedAfterRises : ℕ → List Moment → Type 0
FreedAfterRises rises ms =
    (i k : ℕ) (m n : Moment) → AtMoment ms i m → AtMoment ms k n → i ≤ k
    → (x : ℕ) → DeadAt m x → m.store.round + rises ≤ n.store.round → FreedBetween ms i k x

-- what a call does, with the stores at its inner moments, of which only a Run has any
abbrev pub Does : State → Event → List State → State → Type 0
Does s (create p x a) trail t = (trail ≡ []) × Creates s p x a t
Does s (add_child p x y a) trail t = (trail ≡ []) × AddsChild s p x y a t
Does s (get_child p x j a) trail t = (trail ≡ []) × GetsChild s p x j a t
Does s (make p x list a) trail t = (trail ≡ []) × Makes s p x list a t
Does s (protect p x a) trail t = (trail ≡ []) × Protects s p x a t
Does s (unprotect p x a) trail t = (trail ≡ []) × UnProtects s p x a t
Does s (send p x r a) trail t = (trail ≡ []) × Sends s p x r a t
Does s (receive p r a) trail t = (trail ≡ []) × Receives s p r a t
Does s (begin p a) trail t = (trail ≡ []) × Begins s p a t
Does s (step p a) trail t = (trail ≡ []) × Steps s p a t
Does s (run p n a) trail t = Runs s p n a trail t

-- the moments of a Run's Steps, and the moment after the call
abbrev pub during : Told → List State → List Moment → List Moment
during t [] ms = ms
during t (s ∷ trail) ms = moment t s ∷ during t trail ms

abbrev pub after : List Event → Event → List State → State → List Moment → List Moment
after es e trail t ms = moment (told (e ∷ es)) t ∷ during (told es) trail ms

-- a store since it was opened with numbers that Open takes: its calls, its moments, and what it is now
pub data History : List Event → List Moment → State → Type 0 where
  started : (n w first top : ℕ) → Within 255 n → n ≤ top → Within 8 w → Within 4294967294 first
      → History [] (moment nothing (opened n w first top) ∷ []) (opened n w first top)
  then : {es : List Event} {ms : List Moment} {s t : State} (e : Event) (trail : List State)
      → History es ms s → Does s e trail t → History (e ∷ es) (after es e trail t ms) t

-- it holds of the moments of every history
abbrev pub InEveryHistory : (List Moment → Type 0) → Type 0
InEveryHistory P = (es : List Event) (ms : List Moment) (s : State) → History es ms s → P ms
