-- What a search that wipes the first bytes of a strip leaves of the whole strip.
use Rattle.std.proofs.Common.{◌≡◌, ℕ, List, ◌++◌, length, drop, ◌∙◌, arith}
use Rattle.std.proofs.lemmas.List.{get_or_append_left, drop_at}
use Rattle.graph.specs.Searches.{Zeros, Wiped}

-- the strip once its first n bytes are wiped
pub wiped : (n : ℕ) (before part later : List ℕ) → later ≡ drop n before → length part ≡ n → Zeros part → Wiped n before (part ++ later)
wiped n before part later e l z = record {
  zeros = λ k h. get_or_append_left part later 0 k (omega arith) ∙ z k (omega arith);
  later = drop_at part later n l ∙ e;
}
