-- A worker, what stands past the end of the table, and what is changed of a worker at a time. Assumes nothing.
use Rattle.std.specs.Prelude.{ℕ, Bool, false, List, [], replicate}
use Rattle.rules.specs.declared.worker.Label.{Label}
use Rattle.rules.specs.declared.worker.Label.TheVariants.{Idle, L101, L108, L121, L122, L126, L150, L151, L157, L158, L163, L168, L175, L180, L129, L134, L135, L137}
use Rattle.rules.specs.declared.worker.Worker.{Worker}

-- the number of each label; 0 for idle
abbrev pub label_number : Label → ℕ
label_number Idle = 0
label_number L101 = 101
label_number L108 = 108
label_number L121 = 121
label_number L122 = 122
label_number L126 = 126
label_number L150 = 150
label_number L151 = 151
label_number L157 = 157
label_number L158 = 158
label_number L163 = 163
label_number L168 = 168
label_number L175 = 175
label_number L180 = 180
label_number L129 = 129
label_number L134 = 134
label_number L135 = 135
label_number L137 = 137

-- what stands past the end of a table of workers
abbrev pub no_worker : Worker
no_worker = record { label = Idle; own = 0; x = 0; w = 0; y = 0; j = 0; copied = 0; copies = []; depth = 0; stack = []; roots = []; boxes = [] }

-- a worker of a newly opened store: idle, without roots, boxes 0
abbrev pub resting : Worker
resting = record { label = Idle; own = 0; x = 0; w = 0; y = 0; j = 0; copied = 0; copies = replicate 8 0; depth = 0; stack = replicate 256 0; roots = replicate 256 false; boxes = replicate 9 0 }

abbrev pub at_label : Worker → Label → Worker
at_label k l = record k { label = l }

abbrev pub with_own : Worker → ℕ → Worker
with_own k n = record k { own = n }

abbrev pub holding_x : Worker → ℕ → Worker
holding_x k n = record k { x = n }

abbrev pub holding_w : Worker → ℕ → Worker
holding_w k n = record k { w = n }

abbrev pub holding_y : Worker → ℕ → Worker
holding_y k n = record k { y = n }

abbrev pub at_copy : Worker → ℕ → Worker
at_copy k n = record k { j = n }

-- so many of these places copied
abbrev pub with_copies : Worker → ℕ → List ℕ → Worker
with_copies k n cells = record k { copied = n; copies = cells }

abbrev pub with_stack : Worker → ℕ → List ℕ → Worker
with_stack k n cells = record k { depth = n; stack = cells }

abbrev pub with_roots : Worker → List Bool → Worker
with_roots k cells = record k { roots = cells }

abbrev pub with_boxes : Worker → List ℕ → Worker
with_boxes k cells = record k { boxes = cells }
