-- How many bytes a file has.
use Rattle.std.proofs.Common.{◌≡◌, ℕ, ◌+◌, ◌<◌, ◌≤◌, List, ◌∷◌, ◌++◌, length, take, get_or, map, refl, ap, ◌∙◌, arith}
use Rattle.std.specs.List.{flat_map}
use Rattle.std.proofs.lemmas.List.{take_all}
use Rattle.std.proofs.lemmas.List.Folds.{flat_map-map, length-flat_map-take}
use Rattle.recording.specs.declared.Side.TheVariants.{Client, Bus}
use Rattle.recording.specs.declared.Event.{Event as DeclaredEvent}
use Rattle.recording.specs.declared.Recording.{Recording as DeclaredRecording}
use Rattle.recording.specs.Recording.{magic, auth_byte, Event, Bytes, Finished, Recording, spelled_event, spelled_recording}
use Rattle.recording.specs.Seen.{seen, recording_seen, size_of}

pub length-spelled_event : (e : Event) → length (spelled_event e) ≡ 5 + size_of e
length-spelled_event (Bytes Client bytes) = omega arith
length-spelled_event (Bytes Bus bytes) = omega arith
length-spelled_event (Finished Client) = refl
length-spelled_event (Finished Bus) = refl

pub length-spelled_recording : (r : Recording) → length (spelled_recording r) ≡ 6 + length (flat_map spelled_event r.events)
unfolding spelled_recording
length-spelled_recording r = omega arith

-- the records of the events so far and of the next are within those of all
pub next-within : (events : List DeclaredEvent) (i : ℕ) (d : DeclaredEvent) → i < length events →
    length (flat_map spelled_event (map seen (take i events))) + (5 + size_of (seen (get_or events i d))) ≤ length (flat_map spelled_event (map seen events))
next-within events i d lt = omega (
  arith,
  length-flat_map-take (λ e. spelled_event (seen e)) events i d lt,
  ap length (flat_map-map spelled_event seen (take i events)),
  ap length (flat_map-map spelled_event seen events),
  length-spelled_event (seen (get_or events i d)),
)

pub whole : (r : DeclaredRecording) (i : ℕ) (file : List ℕ) → length r.events.items ≤ i →
    file ≡ magic ++ 1 ∷ auth_byte r.auth ∷ flat_map spelled_event (map seen (take i r.events.items)) → file ≡ spelled_recording (recording_seen r)
unfolding spelled_recording
whole r i file le e = e ∙ ap (λ (es : List DeclaredEvent). magic ++ 1 ∷ auth_byte r.auth ∷ flat_map spelled_event (map seen es)) (take_all i r.events.items le)
