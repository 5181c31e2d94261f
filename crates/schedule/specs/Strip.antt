-- What a strip of bytes holds after bytes were written into it. Assumes nothing.
use Rattle.std.specs.Prelude.{ℕ, ◌+◌, List, ◌++◌, length, take, drop}

-- the strip `old` with the bytes bs from place `at` on: all else stays
unfoldable pub put : ℕ → List ℕ → List ℕ → List ℕ
put at bs old = take at old ++ (bs ++ drop (at + length bs) old)
