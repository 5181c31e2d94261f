-- The words in which a call is shown. Assumes nothing.
use Rattle.std.specs.Prelude.{ℕ, min, List, ◌++◌, take, codes, decimal}
use Rattle.std.specs.List.{flat_map}
use Rattle.schedule.specs.declared.call.Call.{Call}
use Rattle.schedule.specs.declared.call.Call.TheVariants.{Create, AddChild, GetChild, Make, Protect, UnProtect, Send, Receive, Begin, Step, Run}

-- a number with a space before it
abbrev pub spaced : ℕ → List ℕ
spaced x = codes " " ++ decimal x

abbrev pub by : ℕ → List ℕ → List ℕ
by w text = codes "worker " ++ (decimal w ++ text)

-- the worker, the name of the call and its fields
abbrev pub in_words : Call → List ℕ
in_words (Create w x) = by w (codes " create cell " ++ decimal x)
in_words (AddChild w x y) = by w (codes " addchild cell " ++ (decimal x ++ (codes " child " ++ decimal y)))
in_words (GetChild w x j) = by w (codes " getchild cell " ++ (decimal x ++ (codes " place " ++ decimal j)))
in_words (Make w x l) = by w (codes " make cell " ++ (decimal x ++ (codes " of" ++ flat_map spaced (take (min 8 l.count) l.cells))))
in_words (Protect w x) = by w (codes " protect cell " ++ decimal x)
in_words (UnProtect w x) = by w (codes " unprotect cell " ++ decimal x)
in_words (Send w x r) = by w (codes " send cell " ++ (decimal x ++ (codes " to worker " ++ decimal r)))
in_words (Receive w r) = by w (codes " receive from worker " ++ decimal r)
in_words (Begin w) = by w (codes " begin")
in_words (Step w) = by w (codes " step")
in_words (Run w n) = by w (codes " run " ++ decimal n)

-- a record's line
abbrev pub line : ℕ → ℕ → Call → List ℕ
line n place c = codes "record " ++ (decimal n ++ (codes " byte " ++ (decimal place ++ (codes ": " ++ in_words c))))
