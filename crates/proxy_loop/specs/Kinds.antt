-- Kinds of entries of a journal, and what a journal has of them.
use Rattle.std.specs.Prelude.{ℕ, nat_eq, Bool, true, false, ◌&&◌, ◌||◌, [], ◌∷◌, Option, Some, None, if◌then◌else◌}
use Rattle.link_traits.specs.Journals.{Journal, same_link}
use Rattle.link_traits.specs.Answers.{client_link, bus_link}
use Rattle.link_traits.specs.Entries.{Entry, listened, ready, accepted, connected, read, finished, wrote, not_ready, failed, refused, shut}
use Rattle.link_traits.specs.declared.links.Link.{Link}
use Rattle.link_traits.specs.declared.links.Call.{Call}
use Rattle.link_traits.specs.declared.links.Call.TheVariants.{Listen, Accept, Connect, Read, Write}

-- ---- entries of a link

-- an answer of a write to a link
abbrev pub write_call : Link → Call → Bool
write_call link (Write at) = same_link link at
write_call link (Read at) = false
write_call link (Connect session) = false
write_call link (Accept listener) = false
write_call link Listen = false

abbrev pub is_write : Link → Entry → Bool
is_write link (wrote at bytes) = same_link link at
is_write link (not_ready call) = write_call link call
is_write link (failed call) = write_call link call
is_write link (read at bytes) = false
is_write link (finished at) = false
is_write link (refused call) = false
is_write link (listened listener path) = false
is_write link (ready answer) = false
is_write link (accepted listener session) = false
is_write link (connected session path) = false
is_write link (shut at) = false

-- a write to a link that took bytes
abbrev pub is_taken : Link → Entry → Bool
is_taken link (wrote at bytes) = same_link link at
is_taken link (not_ready call) = false
is_taken link (failed call) = false
is_taken link (read at bytes) = false
is_taken link (finished at) = false
is_taken link (refused call) = false
is_taken link (listened listener path) = false
is_taken link (ready answer) = false
is_taken link (accepted listener session) = false
is_taken link (connected session path) = false
is_taken link (shut at) = false

-- an answer of a read of a link
abbrev pub read_call : Link → Call → Bool
read_call link (Read at) = same_link link at
read_call link (Write at) = false
read_call link (Connect session) = false
read_call link (Accept listener) = false
read_call link Listen = false

abbrev pub is_read : Link → Entry → Bool
is_read link (read at bytes) = same_link link at
is_read link (finished at) = same_link link at
is_read link (not_ready call) = read_call link call
is_read link (failed call) = read_call link call
is_read link (wrote at bytes) = false
is_read link (refused call) = false
is_read link (listened listener path) = false
is_read link (ready answer) = false
is_read link (accepted listener session) = false
is_read link (connected session path) = false
is_read link (shut at) = false

-- a read that gave bytes
abbrev pub gave_bytes : Entry → Bool
gave_bytes (read at bytes) = true
gave_bytes (finished at) = false
gave_bytes (not_ready call) = false
gave_bytes (failed call) = false
gave_bytes (wrote at bytes) = false
gave_bytes (refused call) = false
gave_bytes (listened listener path) = false
gave_bytes (ready answer) = false
gave_bytes (accepted listener session) = false
gave_bytes (connected session path) = false
gave_bytes (shut at) = false

-- an entry after which nothing more is written to a link: its end was read, or one of its calls failed
abbrev pub gone_call : Link → Call → Bool
gone_call link (Read at) = same_link link at
gone_call link (Write at) = same_link link at
gone_call link (Connect session) = same_link link (bus_link session)
gone_call link (Accept listener) = false
gone_call link Listen = false

abbrev pub gone_by : Link → Entry → Bool
gone_by link (finished at) = same_link link at
gone_by link (failed call) = gone_call link call
gone_by link (read at bytes) = false
gone_by link (wrote at bytes) = false
gone_by link (not_ready call) = false
gone_by link (refused call) = false
gone_by link (listened listener path) = false
gone_by link (ready answer) = false
gone_by link (accepted listener session) = false
gone_by link (connected session path) = false
gone_by link (shut at) = false

-- ---- entries of a session

-- a write to either link
abbrev pub writes_of : ℕ → Entry → Bool
writes_of n entry = is_write (client_link n) entry || is_write (bus_link n) entry

-- a call on either link
abbrev pub call_about : ℕ → Call → Bool
call_about n (Read at) = nat_eq at.session n
call_about n (Write at) = nat_eq at.session n
call_about n (Connect session) = nat_eq session n
call_about n (Accept listener) = false
call_about n Listen = false

abbrev pub about : ℕ → Entry → Bool
about n (read at bytes) = nat_eq at.session n
about n (finished at) = nat_eq at.session n
about n (wrote at bytes) = nat_eq at.session n
about n (shut at) = nat_eq at.session n
about n (not_ready call) = call_about n call
about n (failed call) = call_about n call
about n (refused call) = call_about n call
about n (connected session path) = nat_eq session n
about n (accepted listener session) = false
about n (listened listener path) = false
about n (ready answer) = false

-- ---- in a journal

unfoldable pub all_are : (Entry → Bool) → Journal → Bool
all_are test [] = true
all_are test (entry ∷ before) = test entry && all_are test before

-- each write to a link took bytes but the newest, which alone may not have been ready or have failed
abbrev pub only_newest_stops : Link → Journal → Bool
only_newest_stops link [] = true
only_newest_stops link (newest ∷ before) = all_are (is_taken link) before

-- some entry passes a test
unfoldable pub some_of : (Entry → Bool) → Journal → Bool
some_of test [] = false
some_of test (entry ∷ before) = test entry || some_of test before

-- the newest answer of a write to a link
abbrev pub first_of : Bool → Entry → Option Entry → Option Entry
first_of here entry others = if here then Some entry else others

unfoldable pub last_write : Link → Journal → Option Entry
last_write link [] = None
last_write link (entry ∷ before) = first_of (is_write link entry) entry (last_write link before)
