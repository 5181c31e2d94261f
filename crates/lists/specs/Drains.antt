-- What filling a set and taking until none is left gives. Assumes nothing.
use Rattle.std.specs.Prelude.{◌≡◌, ℕ, ◌+◌, Bool, true, false, cond, List, [], ◌∷◌, take, drop, ◌==◌}
use Rattle.lists.specs.declared.waiting.Set.{Set}
use Rattle.lists.specs.Sets.{Sets, takes, in_range, cleared}

-- 1 for yes, 0 for no.
abbrev pub one : Bool → ℕ
one b = cond b 1 0

-- How often c stands in a list.
abbrev pub times : ℕ → List ℕ → ℕ
times c [] = 0
times c (x ∷ l) = one (c == x) + times c l

-- The set is empty, and every other as it was; nothing alters where Fill answers no.
abbrev pub after_drain : ℕ → Sets → ℕ → Set → ℕ → Sets
after_drain top s w k n = cond (takes top w n) (cleared s w k) s

-- The first n bytes are 1 to n, each once, and the later ones as they were; all are where the answer is no.
abbrev pub Drained : Bool → ℕ → List ℕ → List ℕ → Type 0
Drained true n old new = ((c : ℕ) → times c (take n new) ≡ one (in_range c n)) × (drop n new ≡ drop n old)
Drained false n old new = new ≡ old
