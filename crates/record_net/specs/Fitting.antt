-- The limits of an entry's record.
use Rattle.std.specs.Prelude.{ℕ, ◌^◌, Bool, true, ◌&&◌, nat_lt, nat_le, length}
use Rattle.link_traits.specs.Entries.{Entry, listened, ready, accepted, connected, read, finished, wrote, not_ready, failed, refused, shut}
use Rattle.link_traits.specs.declared.links.Call.{Call}
use Rattle.link_traits.specs.declared.links.Call.TheVariants.{Listen, Accept, Connect, Read, Write}
use Rattle.record_net.specs.declared.TheConstants.{READ_LIMIT}

-- a session number that fits into four bytes
abbrev pub is_short : ℕ → Bool
is_short session = nat_lt session (2 ^ 32)

abbrev pub call_fits : Call → Bool
call_fits (Read link) = is_short link.session
call_fits (Write link) = is_short link.session
call_fits (Connect session) = is_short session
call_fits (Accept listener) = true
call_fits Listen = true

-- The session of each entry with a record is a number of four bytes, and a read gave at most as many bytes as one read
-- is passed on with. The number of an accepted session is above 0.
abbrev pub entry_fits : Entry → Bool
entry_fits (read link bytes) = is_short link.session && nat_le (length bytes) READ_LIMIT
entry_fits (finished link) = is_short link.session
entry_fits (failed call) = call_fits call
entry_fits (accepted listener session) = nat_lt 0 session
entry_fits (listened listener path) = true
entry_fits (ready answer) = true
entry_fits (connected session path) = true
entry_fits (wrote link bytes) = true
entry_fits (not_ready call) = true
entry_fits (refused call) = true
entry_fits (shut link) = true
