-- A call or a step that leads from one model to the next, as the theory sees it.
use Rattle.std.proofs.Common.{◌≡◌, ℕ, sym, refl, subst}
use Rattle.rules.specs.States.{State}
use Rattle.rules.proofs.Seen.{view}
use Rattle.rules.specs.Laws.{Told}
use Rattle.rules.proofs.Shape.{Shape}
use Rattle.rules.proofs.Moves.{View, Move}
use Rattle.rules.proofs.Copies.{copies}

-- what the tables tell
abbrev pub tables : View → Told
tables s = record { roots = s.roots; boxes = s.box; children = λ x. copies (s.cells.place x) 1 (s.cells.arity x) }

pub data Leads (n w : ℕ) (s : View) : View → Type 0 where
  stays : Leads n w s s
  moves : {t : View} → Move n w s t → Leads n w s t

pub record Led (f : Told → Told) (m m' : State) : Type 0 where
  pub shape : Shape m'
  pub cells_n : m'.ncells ≡ m.ncells
  pub crew_n : m'.nworkers ≡ m.nworkers
  pub leads : Leads m.ncells m.nworkers (view m) (view m')
  pub telling : tables (view m') ≡ f (tables (view m))

pub led_same : (m m' : State) → Shape m → m' ≡ m → Led (λ t. t) m m'
led_same m m' s e = subst (λ (k : State). Led (λ t. t) m k) (sym e) (record { shape = s; cells_n = refl; crew_n = refl; leads = stays; telling = refl })
