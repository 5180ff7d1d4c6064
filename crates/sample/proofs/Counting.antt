-- What is taken from a session is counted, and at last all that its history gives out is.
use Rattle.std.proofs.Common.{◌≡◌, ◌≤◌, ◌+◌, ◌++◌, [], ◌∷◌, ℕ, List, Bool, true, false, if◌then◌else◌, refl, ap, ap₂, sym, ◌∙◌, subst, arith, length, take, append-nil}
use Rattle.std.specs.Prelude.{count_by, ◌%◌, ◌^◌, OnOk, Result, Ok, Err}
use Rattle.std.proofs.lemmas.List.{length-append, length-take-le}
use Rattle.std.proofs.lemmas.List.Sums.{sum_by_push}
use Rattle.policy_args.specs.Policy.{Policy}
use Rattle.policy_view.specs.History.{Event as SessionEvent, history}
use Rattle.policy_view.specs.Notes.{Note, notes}
use Rattle.policy_view.specs.Past.{History}
use Rattle.policy_view.specs.declared.Decision.{Decision}
use Rattle.policy_view.specs.declared.Mode.{Mode}
use Rattle.proxy_core.specs.Sessions.{Holds, SessionView, StandsFor, Taken, is_memory}
use Rattle.recording.specs.Recording.{Event, Bytes}
use Rattle.replay_output.specs.Explained.{with_log}
use Rattle.replay_output.specs.Output.{event_of, events_of, mode_of}
use Rattle.replay_output.proofs.Events.{events-last}
use Rattle.recording.specs.declared.Side.TheVariants.{Client}
use Rattle.sample.specs.Made.{asked_events}
use Rattle.sample.specs.Playing.{Counted, Played, with_decision}
use Rattle.sample.specs.Sample.{draws, opening, sample}
use Rattle.sample.specs.Summary.{counts_in, counts_of, is_hidden, is_instead, is_passed, is_pinged, is_shown, sample_history, sample_options}
use Rattle.sample.specs.declared.counts.Counts.{Counts}
use Rattle.sample.specs.declared.draws.Made.{Made}
use Rattle.sample.specs.declared.playing.Play.{Play}
use Rattle.sample.specs.declared.playing.TheConstants.{MODE}

-- ---- a note

count_last : (test : Decision → Bool) (ns : List Note) (note : Note) →
    count_by (λ (n : Note). test n.decision) (ns ++ note ∷ []) ≡ count_by (λ (n : Note). test n.decision) ns + (if test note.decision then 1 else 0)
count_last test ns note = sum_by_push (λ (n : Note). if test n.decision then 1 else 0) ns note

counts_last : (ns : List Note) (to_bus to_client : List ℕ) (note : Note) → with_decision note.decision (counts_of ns to_bus to_client) ≡ counts_of (ns ++ note ∷ []) to_bus to_client
counts_last ns to_bus to_client note =
    let items = length-append ns (note ∷ []) in
    let passed = count_last is_passed ns note in
    let pings = count_last is_pinged ns note in
    let shown = count_last is_shown ns note in
    let instead = count_last is_instead ns note in
    let hidden = count_last is_hidden ns note in
    cc

pub note_counted : (policy : Policy) (events : List Event) (old new : Play) (note : Note) → Counted policy events old →
    ((taken : Taken) → StandsFor policy old.session (events_of events) taken → StandsFor policy new.session (events_of events) (record taken { notes = taken.notes ++ note ∷ [] })) →
    new.session.mode ≡ old.session.mode → new.counts ≡ with_decision note.decision old.counts → Counted policy events new
note_counted policy events old new note counted stands mode counts = record {
  taken = record (counted.taken) { notes = counted.taken.notes ++ note ∷ [] };
  mode = mode ∙ counted.mode;
  stands = stands counted.taken counted.stands;
  counts = counts ∙ ap (with_decision note.decision) counted.counts ∙ counts_last counted.taken.notes counted.taken.bus_side counted.taken.client_side note;
}

-- and the session is the same but for its notes
pub left_step : (start old new : SessionView) (rest : List Note) → new ≡ record old { notes = rest } → old ≡ record start { notes = old.notes } → new ≡ record start { notes = new.notes }
left_step start old new rest next left = next ∙ ap (λ (v : SessionView). record v { notes = rest }) left ∙ ap (λ (v : SessionView). record start { notes = v.notes }) (sym next)

-- ---- bytes

length_behind : (one two : List ℕ) (n k count : ℕ) → n ≡ length two → k ≡ length one → count ≡ k + n → count ≡ length (one ++ take n two)
length_behind one two n k count whole so_far more =
    let le : n ≤ length two = omega arith in
    let last : length (take n two) ≡ n = length-take-le n two le in
    let both : length (one ++ take n two) ≡ length one + length (take n two) = length-append one (take n two) in
    omega arith

pub bus_counted : (policy : Policy) (events : List Event) (old : Play) (new : SessionView) (n count : ℕ) → n ≡ length old.session.bus_side → count ≡ old.counts.to_bus + n →
    new.mode ≡ old.session.mode →
    ((taken : Taken) → StandsFor policy old.session (events_of events) taken → StandsFor policy new (events_of events) (record taken { bus_side = taken.bus_side ++ take n old.session.bus_side })) →
    Counted policy events old → Counted policy events (record old { session = new; counts = record (old.counts) { to_bus = count } })
bus_counted policy events old new n count whole more mode stands counted =
    let t = counted.taken in
    record {
      taken = record t { bus_side = t.bus_side ++ take n old.session.bus_side };
      mode = mode ∙ counted.mode;
      stands = stands t counted.stands;
      counts = ap (λ (c : Counts). record c { to_bus = count }) counted.counts
          ∙ ap (λ k. record (counts_of t.notes t.bus_side t.client_side) { to_bus = k })
          (length_behind t.bus_side old.session.bus_side n old.counts.to_bus count whole (ap (λ (c : Counts). c.to_bus) counted.counts) more);
    }

pub client_counted : (policy : Policy) (events : List Event) (old : Play) (new : SessionView) (n count : ℕ) → n ≡ length old.session.client_side → count ≡ old.counts.to_client + n →
    new.mode ≡ old.session.mode →
    ((taken : Taken) → StandsFor policy old.session (events_of events) taken → StandsFor policy new (events_of events) (record taken { client_side = taken.client_side ++ take n old.session.client_side })) →
    Counted policy events old → Counted policy events (record old { session = new; counts = record (old.counts) { to_client = count } })
client_counted policy events old new n count whole more mode stands counted =
    let t = counted.taken in
    record {
      taken = record t { client_side = t.client_side ++ take n old.session.client_side };
      mode = mode ∙ counted.mode;
      stands = stands t counted.stands;
      counts = ap (λ (c : Counts). record c { to_client = count }) counted.counts
          ∙ ap (λ k. record (counts_of t.notes t.bus_side t.client_side) { to_client = k })
          (length_behind t.client_side old.session.client_side n old.counts.to_client count whole (ap (λ (c : Counts). c.to_client) counted.counts) more);
    }

-- ---- all that waits

-- two facts of a call that went well
pub both_ok : {T E P Q R : Type 0} (r : Result T E) → OnOk r P → OnOk r Q → (P → Q → R) → OnOk r R
both_ok (Ok x) p q f = f p q
both_ok (Err e) p q f = tt

-- the notes were counted, then the bytes for the bus, and then those for the client
pub all_left : (policy : Policy) (events : List Event) (a b c d : Play) → b.session ≡ record (a.session) { notes = [] } → c.session ≡ record (b.session) { bus_side = [] } →
    d.session ≡ record (c.session) { client_side = [] } → Counted policy events d → Played policy events d
all_left policy events a b c d notes for_bus for_client counted =
    let no_notes : c.session.notes ≡ [] = ap (λ (v : SessionView). v.notes) for_bus ∙ ap (λ (v : SessionView). v.notes) notes in
    record {
      counted = counted;
      notes = ap (λ (v : SessionView). v.notes) for_client ∙ no_notes;
      for_bus = ap (λ (v : SessionView). v.bus_side) for_client ∙ ap (λ (v : SessionView). v.bus_side) for_bus;
      for_client = ap (λ (v : SessionView). v.client_side) for_client;
    }

-- ---- messages

-- a message came, and nothing of what it gives out is counted yet
pub came : (policy : Policy) (events : List Event) (event : Event) (old : Play) (new : SessionView) → new.mode ≡ old.session.mode →
    ((before : List SessionEvent) (taken : Taken) → StandsFor policy old.session before taken → StandsFor policy new (event_of event ∷ before) taken) →
    Counted policy events old → Counted policy (events ++ event ∷ []) (record old { session = new })
came policy events event old new mode stands counted = record {
  taken = counted.taken;
  mode = mode ∙ counted.mode;
  stands = subst (λ es. StandsFor policy new es counted.taken) (sym (events-last events event)) (stands (events_of events) counted.taken counted.stands);
  counts = counted.counts;
}

-- a draw has a message of the client or none
pub one_asked : (m : Made) (bytes : List ℕ) → m.asked ≡ true → bytes ≡ m.client.items → Bytes Client bytes ∷ [] ≡ asked_events m
one_asked m bytes asked is = ap (λ b. Bytes Client b ∷ []) is ∙ ap (λ a. if a then Bytes Client m.client.items ∷ [] else []) (sym asked)

pub none_asked : (m : Made) → m.asked ≡ false → [] ≡ asked_events m
none_asked m asked = ap (λ a. if a then Bytes Client m.client.items ∷ [] else []) (sym asked)

-- ---- the whole

-- the sample's events, in their order
pub sample_events : (n seed : ℕ) (events : List Event) → events ≡ draws n 1 (seed % 2 ^ 31) 2 4 → opening ++ events ≡ (sample n seed).events
unfolding sample
sample_events n seed events e = ap (λ es. opening ++ es) e

-- nothing is to come
pub all_came : (so_far whole : List Event) (left i x client_serial bus_serial : ℕ) → left ≡ 0 → so_far ++ draws left i x client_serial bus_serial ≡ whole → so_far ≡ whole
all_came so_far whole left i x client_serial bus_serial none split =
    sym (append-nil so_far) ∙ ap (λ n. so_far ++ draws n i x client_serial bus_serial) (sym none) ∙ split

sample_mode : (n seed : ℕ) → MODE ≡ mode_of (with_log sample_options) (sample n seed)
unfolding sample
sample_mode n seed = refl

-- what was counted of a session that holds a history, once nothing waits
all_counted : (policy : Policy) (play : Play) (h : History) (t : Taken) → play.session.mode ≡ MODE → play.session.notes ≡ [] → play.session.bus_side ≡ [] → play.session.client_side ≡ [] →
    Holds policy play.session h t → counts_of t.notes t.bus_side t.client_side ≡ counts_in policy h
all_counted policy play h t mode no_notes no_bus no_client holds =
    let noted : t.notes ≡ notes policy h = sym (append-nil t.notes) ∙ ap (λ ns. t.notes ++ ns) (sym no_notes) ∙ holds.noted
    ∙ ap (λ (m : Mode). if m.notes then notes policy h else []) mode in
    let for_bus = sym (append-nil t.bus_side) ∙ ap (λ bytes. t.bus_side ++ bytes) (sym no_bus) ∙ holds.for_bus in
    let for_client = sym (append-nil t.client_side) ∙ ap (λ bytes. t.client_side ++ bytes) (sym no_client) ∙ holds.for_client in
    ap (λ ns. counts_of ns t.bus_side t.client_side) noted ∙ ap₂ (counts_of (notes policy h)) for_bus for_client

pub at_end : (n seed : ℕ) (play : Play) → Played sample_options.policy (sample n seed).events play → is_memory play.session.ended ≡ false →
    play.counts ≡ counts_in sample_options.policy (sample_history n seed)
at_end n seed play played running =
    let policy = sample_options.policy in
    let h = history policy play.session.mode (events_of (sample n seed).events) in
    played.counted.counts
    ∙ all_counted policy play h played.counted.taken played.counted.mode played.notes played.for_bus played.for_client (played.counted.stands.holds running)
    ∙ ap (λ (m : Mode). counts_in policy (history policy m (events_of (sample n seed).events))) (played.counted.mode ∙ sample_mode n seed)
