-- Which cell numbers a set can carry. Assumes nothing.
use Rattle.std.specs.Prelude.{ℕ, ◌≤◌, Bool, ◌&&◌, nat_le}
use Rattle.std.proofs.Common.{lit≤}

-- Is c one of 1 to n?
abbrev pub in_range : ℕ → ℕ → Bool
in_range c n = nat_le 1 c && nat_le c n

-- A kind's highest number is from 1 to 255.
abbrev pub Bounded : ℕ → Type 0
Bounded top = (1 ≤ top) × (top ≤ 255)

-- 255 and 100 are such numbers.
pub bounded_255 : Bounded 255
bounded_255 = (lit≤ tt, lit≤ tt)

pub bounded_100 : Bounded 100
bounded_100 = (lit≤ tt, lit≤ tt)
