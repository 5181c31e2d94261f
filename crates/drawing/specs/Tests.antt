-- Tests that answer yes or no. Assumes nothing.
use Rattle.std.specs.Prelude.{ℕ, Bool, ◌&&◌, nat_le}

-- whether x is one of the numbers 1 to n
abbrev pub within : ℕ → ℕ → Bool
within n x = nat_le 1 x && nat_le x n
