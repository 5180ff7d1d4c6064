-- The number of replies that are owed to a sender's calls with a serial.
use Rattle.std.specs.Prelude.{◌≡◌, ◌+◌, ◌-◌, ◌==◌, ◌&&◌, ℕ, zero, suc, Bool, Option, Some, None, bytes_eq, if◌then◌else◌}
use Rattle.std.specs.Option.{unwrap_or}
use Rattle.std.specs.Ordering.{nat_cmp}
use Rattle.std.specs.Cmp.Lexicographic.{slice_cmp}
use Rattle.std.specs.FinMap.{FinMap, empty, get, insert, len, remove}
use Rattle.dbus_names.specs.Texts.{Text}

-- the serials of a sender's calls, each with the number of owed replies
abbrev pub Serials : Type 0
Serials = FinMap nat_cmp ℕ

-- the senders, each with its calls
abbrev pub Replies : Type 0
Replies = FinMap (slice_cmp nat_cmp) Serials

abbrev pub count_in : Serials → ℕ → ℕ
count_in calls n = unwrap_or (get calls n) 0

abbrev pub calls_of : Replies → Text → Serials
calls_of owed s = unwrap_or (get owed s) empty

-- the number of replies that are owed to a sender's calls with a serial
abbrev pub count_of : Replies → Text → ℕ → ℕ
count_of owed s n = count_in (calls_of owed s) n

-- two pairs of a sender and a serial are equal
abbrev pub is_pair : Text → ℕ → Text → ℕ → Bool
is_pair s n t m = bytes_eq s t && n == m

-- ---- nothing is kept of what isn't owed

-- there is a call, and to each a reply is owed
pub record IsKept (calls : Serials) : Type 0 where
  pub some : calls ≡ empty → ⊥
  pub positive : (n : ℕ) → get calls n ≡ Some 0 → ⊥

pub record KeepsOwedAlone (owed : Replies) : Type 0 where
  pub each : (s : Text) (calls : Serials) → get owed s ≡ Some calls → IsKept calls

-- ---- one more, and one less

abbrev pub one_more_in : Serials → ℕ → Serials
one_more_in calls n = insert calls n (count_in calls n + 1)

-- a serial with this number of replies: it is absent at 0
abbrev pub with_count : Serials → ℕ → ℕ → Serials
with_count calls n zero = remove calls n
with_count calls n (suc k) = insert calls n (suc k)

abbrev pub left_in : Serials → ℕ → Option ℕ → Serials
left_in calls n None = calls
left_in calls n (Some count) = with_count calls n (count - 1)

abbrev pub one_less_in : Serials → ℕ → Serials
one_less_in calls n = left_in calls n (get calls n)

-- one more reply is owed to a sender's call
abbrev pub one_more : Replies → Text → ℕ → Replies
one_more owed s n = insert owed s (one_more_in (calls_of owed s) n)

-- a sender with these calls, or without the sender if there are none
abbrev pub with_calls : Replies → Text → Serials → Replies
with_calls owed s calls = if len calls == 0 then remove owed s else insert owed s calls

-- one reply less is owed to it, if one was owed
abbrev pub one_less : Replies → Text → ℕ → Replies
one_less owed s n = if count_of owed s n == 0 then owed else with_calls owed s (one_less_in (calls_of owed s) n)
