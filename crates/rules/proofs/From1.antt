-- A list whose elements are numbered from 1, seen as a function.
use Rattle.std.proofs.Common.{ℕ, zero, suc, List, get_or}

-- numbered from 1: nothing stands at 0
abbrev pub from1 : {A : Type 0} → List A → A → ℕ → A
from1 xs d zero = d
from1 xs d (suc k) = get_or xs k d
