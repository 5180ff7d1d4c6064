-- The counts of a session with what happens next in it.
use Rattle.std.proofs.Common.{◌≡◌, ◌≤◌, ◌<◌, ◌+◌, ◌-◌, ◌^◌, ℕ, List, [], ◌∷◌, ◌++◌, Option, Some, None, refl, ap, sym, ◌∙◌, arith, length, length-append, min}
use Rattle.std.specs.List.{sum_by}
use Rattle.std.specs.Option.{option_or}
use Rattle.std.proofs.lemmas.List.Sums.{sum_by-le-sum_by, sum_by_push}
use Rattle.recording.specs.declared.Side.TheVariants.{Client, Bus}
use Rattle.recording.specs.Recording.{Bytes, Finished}
use Rattle.recording.specs.Sessions.{What, Happened, Stopped}
use Rattle.recording.specs.SessionsSeen.{what_size}
use Rattle.session_files.specs.Counting.{Counted, IsCountable}
use Rattle.session_files.specs.Listing.{bus_len, client_len, end_number, first_end, or_else}
use Rattle.session_files.specs.declared.counting.Counts.{Counts}

-- ---- the first End

or-none : (o : Option ℕ) → o ≡ or_else o None
or-none None = refl
or-none (Some n) = refl

pub or-is : (a b : Option ℕ) → option_or a b ≡ or_else a b
or-is None b = refl
or-is (Some n) b = refl

or-assoc : (a b c : Option ℕ) → or_else a (or_else b c) ≡ or_else (or_else a b) c
or-assoc None b c = refl
or-assoc (Some n) b c = refl

first-end-last : (ws : List What) (w : What) → first_end (ws ++ w ∷ []) ≡ or_else (first_end ws) (end_number w)
first-end-last [] w = sym (or-none (end_number w))
first-end-last (x ∷ ws) w = ap (or_else (end_number x)) (first-end-last ws w) ∙ or-assoc (end_number x) (first_end ws) (end_number w)

-- ---- no count grows past what the records count

client-within : (w : What) → client_len w ≤ what_size w
client-within (Happened (Bytes Client bytes)) = omega arith
client-within (Happened (Bytes Bus bytes)) = omega arith
client-within (Happened (Finished side)) = omega arith
client-within (Stopped end) = omega arith

bus-within : (w : What) → bus_len w ≤ what_size w
bus-within (Happened (Bytes Client bytes)) = omega arith
bus-within (Happened (Bytes Bus bytes)) = omega arith
bus-within (Happened (Finished side)) = omega arith
bus-within (Stopped end) = omega arith

-- a count with one more term, if the sum has room
added : (f : What → ℕ) (ws : List What) (w : What) (old new : ℕ) → ((x : What) → f x ≤ what_size x) → sum_by what_size (ws ++ w ∷ []) < 2 ^ 64 →
    old ≡ sum_by f ws → new ≡ min (old + f w) (2 ^ 64 - 1) → new ≡ sum_by f (ws ++ w ∷ [])
added f ws w old new within small was is =
    let next : sum_by f (ws ++ w ∷ []) ≡ sum_by f ws + f w = sum_by_push f ws w in
    let room : sum_by f (ws ++ w ∷ []) ≤ sum_by what_size (ws ++ w ∷ []) = sum_by-le-sum_by f what_size (ws ++ w ∷ []) within in
    omega (arith, next, room, small, was, is)

one-more : (ws : List What) (w : What) (old new : ℕ) → length (ws ++ w ∷ []) < 2 ^ 64 → old ≡ length ws → new ≡ min (old + 1) (2 ^ 64 - 1) → new ≡ length (ws ++ w ∷ [])
one-more ws w old new few was is = omega (arith, few, was, is, length-append ws (w ∷ []))

pub counted-on : (ws : List What) (w : What) (old new : Counts) → Counted ws old → IsCountable (ws ++ w ∷ []) →
    new.client ≡ min (old.client + client_len w) (2 ^ 64 - 1) → new.bus ≡ min (old.bus + bus_len w) (2 ^ 64 - 1) → new.events ≡ min (old.events + 1) (2 ^ 64 - 1) →
    new.end ≡ or_else old.end (end_number w) → Counted (ws ++ w ∷ []) new
counted-on ws w old new counted countable client bus events end = record {
  client = added client_len ws w old.client new.client client-within countable.small counted.client client;
  bus = added bus_len ws w old.bus new.bus bus-within countable.small counted.bus bus;
  events = one-more ws w old.events new.events countable.few counted.events events;
  end = end ∙ ap (λ o. or_else o (end_number w)) counted.end ∙ sym (first-end-last ws w);
}
