-- The order in which the members of one set will be taken, as a line whose head is next. A kind of set is told by where a newcomer joins.
-- Assumes nothing.
use Rattle.std.specs.Prelude.{ℕ, zero, suc, Bool, true, false, cond, not, ◌&&◌, ◌||◌, List, [], ◌∷◌, ◌++◌, Some, None, filter, Option, ◌==◌, nat_lt}
use Rattle.lines.specs.Numbers.{in_range}

-- Does c stand in the line?
abbrev pub in_line : ℕ → List ℕ → Bool
in_line c [] = false
in_line c (x ∷ l) = c == x || in_line c l

-- Every number in the line is from 1 to n and stands in it once.
abbrev pub orderly : ℕ → List ℕ → Bool
orderly n [] = true
orderly n (x ∷ l) = (in_range x n && not (in_line x l)) && orderly n l

-- Where a newcomer joins a line.
abbrev pub Joining : Type 0
Joining = List ℕ → ℕ → List ℕ

-- The queue: at the end, so that the one put first is next.
abbrev pub at_end : Joining
at_end l x = l ++ x ∷ []

-- The pile: at the head, so that the one put last is next.
abbrev pub at_head : Joining
at_head l x = x ∷ l

-- The bit map: before the first higher number, so that the lowest is next.
abbrev pub by_number : Joining
by_number [] x = x ∷ []
by_number (y ∷ l) x = cond (nat_lt x y) (x ∷ y ∷ l) (y ∷ by_number l x)

-- The line with x in it: who stands in it already keeps the place.
abbrev pub joined : Joining → List ℕ → ℕ → List ℕ
joined joins l x = cond (in_line x l) l (joins l x)

-- The line after Put: with x in it, if x is one of 1 to top.
abbrev pub after_put_line : Joining → ℕ → List ℕ → ℕ → List ℕ
after_put_line joins top l x = cond (in_range x top) (joined joins l x) l

-- The line after Fill: 1, 2, up to n were put in turn.
abbrev pub counted : Joining → ℕ → List ℕ
counted joins zero = []
counted joins (suc n) = joined joins (counted joins n) (suc n)

-- The line after Strike: x has left it, the others stand as they stood.
abbrev pub without : List ℕ → ℕ → List ℕ
without l x = filter (λ y. not (y == x)) l

-- Who is next.
abbrev pub first : List ℕ → Option ℕ
first [] = None
first (x ∷ l) = Some x

-- The line after Take: the others, in their order.
abbrev pub rest : List ℕ → List ℕ
rest [] = []
rest (x ∷ l) = l

-- The numbers from 1 to n that pass, the lowest first.
unfoldable pub rising : (ℕ → Bool) → ℕ → List ℕ
rising f zero = []
rising f (suc n) = rising f n ++ cond (f (suc n)) (suc n ∷ []) []
