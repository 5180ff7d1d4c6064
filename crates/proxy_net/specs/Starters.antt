-- What is known of the program that started this one.
use Rattle.std.specs.Prelude.{ℕ, nat_eq, ◌&&◌, Bool, true, false, List, [], ◌∷◌, Option, Some, None}
use Rattle.std.specs.List.{list_any}
use Rattle.std.specs.declared.io.ErrorKind.{ErrorKind}
use Rattle.proxy_net.specs.declared.reports.Report.{Report}
use Rattle.proxy_net.specs.declared.starters.Starter.{Starter}
use Rattle.proxy_net.specs.declared.starters.Starter.TheVariants.{Absent, Waiting, Told, Gone}
use Rattle.proxy_net.specs.SystemCalls.{SystemCall, bind, await_clients, accept, connect, watch, read, write, close, wait, identify, remove, open_starter, notify_starter, answered}

-- the number that the starter's pipe is reported by
abbrev pub starter_number : ℕ
starter_number = 0x300000000

-- a report says that the reading end of the starter's pipe is closed
abbrev pub reports_end : Report → Bool
reports_end report = nat_eq report.number starter_number && report.closed

abbrev pub is_gone : Starter → Bool
is_gone Absent = false
is_gone Waiting = false
is_gone Told = false
is_gone Gone = true

-- there is or was one
abbrev pub is_present : Starter → Bool
is_present Absent = false
is_present Waiting = true
is_present Told = true
is_present Gone = true

abbrev pub is_waiting : Starter → Bool
is_waiting Absent = false
is_waiting Waiting = true
is_waiting Told = false
is_waiting Gone = false

-- a starter that is there is gone from now on
abbrev pub left : Starter → Starter
left Absent = Absent
left Waiting = Gone
left Told = Gone
left Gone = Gone

abbrev pub left_if : Bool → Starter → Starter
left_if true starter = left starter
left_if false starter = starter

abbrev pub after_reports : List Report → Starter → Starter
after_reports reports starter = left_if (list_any reports_end reports) starter

-- after the byte was written, or could not be written
abbrev pub after_notice : Option ErrorKind → Starter → Starter
after_notice None Absent = Absent
after_notice None Waiting = Told
after_notice None Told = Told
after_notice None Gone = Gone
after_notice (Some kind) starter = left starter

-- after one call of the system
abbrev pub after_call : SystemCall → Starter → Starter
after_call (wait reports nanos fault) starter = after_reports reports starter
after_call (notify_starter fault) starter = after_notice fault starter
after_call (open_starter descriptor fault) starter = starter
after_call (bind number path fault) starter = starter
after_call (await_clients number fault) starter = starter
after_call (accept listener number fault) starter = starter
after_call (connect number path fault) starter = starter
after_call (watch number writable fault) starter = starter
after_call (read number answer) starter = starter
after_call (write number answer) starter = starter
after_call (close number) starter = starter
after_call (identify path found) starter = starter
after_call (remove path) starter = starter
after_call (answered entry) starter = starter

-- after calls of the system, of which the newest is the first
abbrev pub after_calls : List SystemCall → Starter → Starter
after_calls [] starter = starter
after_calls (call ∷ before) starter = after_call call (after_calls before starter)

-- after a prepare that answered `Ok`
abbrev pub after_prepare : Option ℕ → Starter → Starter
after_prepare None starter = starter
after_prepare (Some descriptor) starter = Waiting
