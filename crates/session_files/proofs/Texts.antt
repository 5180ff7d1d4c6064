-- The lines of the sessions one after the other.
use Rattle.std.proofs.Common.{◌≡◌, ℕ, List, [], ◌∷◌, ◌++◌, refl, ap, sym, ◌∙◌, subst, append-nil}
use Rattle.std.specs.Prelude.{flat_map}
use Rattle.std.specs.List.{AllByRecursion}
use Rattle.std.specs.BTreeMap.{BTreeMap}
use Rattle.std.specs.Map.{keys_of}
use Rattle.dbus_names.specs.Texts.{Text}
use Rattle.recording.specs.Sessions.{SessionEvent, Sessions}
use Rattle.replay.proofs.Ascending.{each-entry}
use Rattle.session_files.specs.Counting.{AllCounted, Counted, CountedAt}
use Rattle.session_files.specs.Listing.{listing_of, session_line, sessions_in}
use Rattle.session_files.specs.OneSession.{happened_in}
use Rattle.session_files.specs.declared.counting.Counts.{Counts}

-- the lines of the sessions that these entries count
abbrev pub lines_of : List SessionEvent → List (ℕ × Counts) → Text
lines_of events entries = flat_map (λ (entry : ℕ × Counts). session_line entry.0 (happened_in entry.0 events)) entries

-- each entry counts its own session
abbrev pub AreCounts : List SessionEvent → List (ℕ × Counts) → Type 0
AreCounts events entries = AllByRecursion (λ (entry : ℕ × Counts). Counted (happened_in entry.0 events) entry.1) entries

pub are-counts : (events : List SessionEvent) (sessions : List ℕ) (m : BTreeMap ℕ Counts) → AllCounted events sessions m → AreCounts events m.entries
are-counts events sessions m all = each-entry (λ entry. Counted (happened_in entry.0 events) entry.1) m all.ordered (λ k v is. subst (λ o. CountedAt events k o) is (all.each k))

by-keys : (events : List SessionEvent) (entries : List (ℕ × Counts)) → lines_of events entries ≡ flat_map (λ session. session_line session (happened_in session events)) (keys_of entries)
by-keys events [] = refl
by-keys events (e ∷ entries) = ap (λ t. session_line e.0 (happened_in e.0 events) ++ t) (by-keys events entries)

pub listing-is : (s : Sessions) (m : BTreeMap ℕ Counts) → AllCounted s.events (sessions_in s) m → lines_of s.events m.entries ≡ listing_of s
listing-is s m all = by-keys s.events m.entries ∙ ap (flat_map (λ session. session_line session (happened_in session s.events))) all.keys_are

-- the lines so far are all of them
pub listed-all : (s : Sessions) (m : BTreeMap ℕ Counts) (text : Text) (first left : List (ℕ × Counts)) → AllCounted s.events (sessions_in s) m → first ≡ m.entries → left ≡ [] →
    text ++ lines_of s.events left ≡ lines_of s.events first → text ≡ listing_of s
listed-all s m text first left all are none so_far =
    sym (append-nil text) ∙ ap (λ es. text ++ lines_of s.events es) (sym none) ∙ so_far ∙ ap (lines_of s.events) are ∙ listing-is s m all
