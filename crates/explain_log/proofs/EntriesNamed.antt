-- The entries that the notes of a history speak of are entries of the policy.
use Rattle.std.proofs.Common.{rules, ◌≡◌, ◌≤◌, ℕ, ◌+◌, Bool, true, false, List, [], ◌∷◌, length, Option, Some, None, refl, subst, arith, if◌then◌else◌}
use Rattle.std.specs.Prelude.{All, find}
use Rattle.std.proofs.lemmas.List.Elements.{All-append, All-cons}
use Rattle.dbus_names.specs.Texts.{Text}
use Rattle.dbus_header.specs.Message.{Message, spell, first_text, three_texts, text_list, reply_serial, sender, member}
use Rattle.dbus_header.specs.Kinds.{Kind, Call, Return, Error, Signal, Other, expects_reply, kind_of}
use Rattle.dbus_header.specs.declared.Instead.{Instead}
use Rattle.dbus_header.specs.declared.Instead.TheVariants.{AccessDenied, NameHasNoOwner, False}
use Rattle.policy_args.specs.Levels.{applies_to, entries, numbers_where}
use Rattle.policy_args.specs.Policy.{Policy, at_least}
use Rattle.policy_args.specs.declared.entry.Entry.{Entry}
use Rattle.policy_args.specs.declared.fact.Fact.{Fact}
use Rattle.policy_args.specs.declared.Level.{Level}
use Rattle.policy_args.specs.declared.Level.TheVariants.{None as Hidden, See, Talk, Own}
use Rattle.policy_view.specs.Knowledge.{Knowledge, knowledge}
use Rattle.policy_view.specs.Notes.{Note, decision_on, numbered, with_note_of}
use Rattle.policy_view.specs.Past.{Item, Line, Msg, Raw, Ended, judged, past}
use Rattle.policy_view.specs.Sent.{Past, Told, answered}
use Rattle.policy_view.specs.Shown.{BusRole, NoRole, Unexpected, MatchAnswer, OwnerAnswer, NamesAnswer, PingAnswer, NameList, HelloAnswer, OtherAnswer, CallIn, OwnerChange, SignalIn, BroadcastIn, bus_role, may_broadcast, on_names, on_owner_change, sees_change, showing, showing_at, shown}
use Rattle.policy_view.specs.Verdicts.{ClientRole, OfUnknownType, Reply, Broadcast, SignalTo, StandardBusCall, OtherBusCall, BusCall, CallTo, Demand, Free, OnText, Unlisted, TextDemand, NoEavesdrop, SeenOwner, SeenName, Startable, Ownable, client_role, demand_of, entry_passes, first_or_0, has_refused_field, on_argument, on_bus_call, on_call, on_ruled_call, on_seen_call, on_signal, on_start, on_text, on_unknown_field, refused, rules_calls, text_or_empty, verdict, verdict_at}
use Rattle.policy_view.specs.declared.Reason.{Reason}
use Rattle.policy_view.specs.declared.Reason.TheVariants.{NotVisible, OnlySee, NoRule, BusMember, BusInterface, ArgNotVisible, ArgNotTalk, ArgNotOwn, Eavesdrop, NotOutstanding, BadArgument, SenderNotTalk, NameHidden, UnknownField}
use Rattle.policy_view.specs.declared.Showing.{Showing}
use Rattle.policy_view.specs.declared.Showing.TheVariants.{Whole, Hide}
use Rattle.policy_view.specs.declared.Side.{Side}
use Rattle.policy_view.specs.declared.Side.TheVariants.{Client, Bus}
use Rattle.policy_view.specs.declared.Verdict.{Verdict}
use Rattle.policy_view.specs.declared.Verdict.TheVariants.{Pass, Ping, Drop}
use Rattle.explain_log.proofs.EntryWords.{line_stands}
use Rattle.explain_log.specs.Laws.{SpeakOf, SpeaksOf}
use Rattle.explain_log.specs.Lines.{decision_entry, reason_entry, showing_entry, verdict_entry}

-- ---- numbers of entries

-- each is at most the bound
abbrev AreWithin : ℕ → List ℕ → Type 0
AreWithin most [] = Unit
AreWithin most (n ∷ ns) = (n ≤ most) × AreWithin most ns

numbers_within : (test : Entry → Bool) (n most : ℕ) (es : List Entry) → n + length es ≤ most + 1 → AreWithin most (numbers_where test n es)
numbers_within test n most [] fits = tt
numbers_within test n most (e ∷ es) fits =
    let first : n ≤ most = omega arith in
    let later : AreWithin most (numbers_where test (n + 1) es) = numbers_within test (n + 1) most es (omega arith) in
    elim (test e) as (λ (b : Bool). AreWithin most (if b then n ∷ numbers_where test (n + 1) es else numbers_where test (n + 1) es)) [
      | true ↦ (first, later)
      | false ↦ later
    ]

first_within : (most : ℕ) (ns : List ℕ) → AreWithin most ns → first_or_0 ns ≤ most
first_within most [] within = omega arith
first_within most (n ∷ ns) within = within.0

-- the one that is found
found_within : (most : ℕ) (test : ℕ → Bool) (ns : List ℕ) (n : ℕ) → AreWithin most ns → find test ns ≡ Some n → n ≤ most
found_within most test [] n within e = absurd cc
found_within most test (k ∷ ns) n within e =
    elim (test k) as (λ (b : Bool). (if b then Some k else find test ns) ≡ Some n → n ≤ most) [
      | true ↦ λ is. let same : k ≡ n = cc in subst (λ x. x ≤ most) same within.0
      | false ↦ λ is. found_within most test ns n within.1 is
    ] e

-- ---- verdicts

abbrev IsWithin : ℕ → Verdict → Type 0
IsWithin most v = verdict_entry v ≤ most

either_within : (most : ℕ) (b : Bool) (v w : Verdict) → IsWithin most v → IsWithin most w → IsWithin most (if b then v else w)
either_within most true v w first second = first
either_within most false v w first second = second

refused_within : (most : ℕ) (m : Message) (what : Instead) (reason : Reason) → reason_entry reason ≤ most → IsWithin most (refused m what reason)
refused_within most m what reason within = either_within most (expects_reply m) (Ping what reason) (Drop reason) within within

-- a reason that rests on no entry
none_within : (most : ℕ) (m : Message) (what : Instead) (reason : Reason) → reason_entry reason ≡ 0 → IsWithin most (refused m what reason)
none_within most m what reason none = refused_within most m what reason (omega arith)

seen_call_within : (most : ℕ) (policy : Policy) (m : Message) (ns : List ℕ) → AreWithin most ns → IsWithin most (on_seen_call policy m ns)
seen_call_within most policy m ns within =
    either_within most _ Pass (on_ruled_call m (find (entry_passes policy rules_calls) ns) ns) (omega arith) (by (find (entry_passes policy rules_calls) ns) refl)
  where
    by : (o : Option ℕ) → find (entry_passes policy rules_calls) ns ≡ o → IsWithin most (on_ruled_call m o ns)
    by None e = refused_within most m AccessDenied (OnlySee (first_or_0 ns)) (first_within most ns within)
    by (Some n) e = refused_within most m AccessDenied (NoRule n) (found_within most (entry_passes policy rules_calls) ns n within e)

call_within : (most : ℕ) (policy : Policy) (m : Message) (name : Text) (ns : List ℕ) (level : Level) → AreWithin most ns → IsWithin most (on_call policy m name ns level)
call_within most policy m name ns Hidden within = none_within most m _ NotVisible refl
call_within most policy m name ns See within = seen_call_within most policy m ns within
call_within most policy m name ns Talk within = omega arith
call_within most policy m name ns Own within = omega arith

signal_within : (most : ℕ) (ns : List ℕ) (level : Level) → AreWithin most ns → IsWithin most (on_signal ns level)
signal_within most ns Hidden within = omega arith
signal_within most ns See within = first_within most ns within
signal_within most ns Talk within = omega arith
signal_within most ns Own within = omega arith

start_within : (most : ℕ) (policy : Policy) (m : Message) (numbers : List ℕ) (level : Level) → IsWithin most (on_start policy m numbers level)
start_within most policy m numbers Hidden = none_within most m _ ArgNotTalk refl
start_within most policy m numbers See = either_within most _ Pass (refused m AccessDenied ArgNotTalk) (omega arith) (none_within most m AccessDenied ArgNotTalk refl)
start_within most policy m numbers Talk = omega arith
start_within most policy m numbers Own = omega arith

text_within : (most : ℕ) (policy : Policy) (m : Message) (demand : TextDemand) (text : Text) (numbers : List ℕ) (level : Level) → IsWithin most (on_text policy m demand text numbers level)
text_within most policy m NoEavesdrop text numbers level = either_within most _ (refused m AccessDenied Eavesdrop) Pass (none_within most m AccessDenied Eavesdrop refl) (omega arith)
text_within most policy m SeenOwner text numbers level = either_within most _ Pass (refused m NameHasNoOwner ArgNotVisible) (omega arith) (none_within most m NameHasNoOwner ArgNotVisible refl)
text_within most policy m SeenName text numbers level = either_within most _ Pass (refused m False ArgNotVisible) (omega arith) (none_within most m False ArgNotVisible refl)
text_within most policy m Startable text numbers level = start_within most policy m numbers level
text_within most policy m Ownable text numbers level = either_within most _ Pass (refused m AccessDenied ArgNotOwn) (omega arith) (none_within most m AccessDenied ArgNotOwn refl)

argument_within : (most : ℕ) (policy : Policy) (known : Knowledge) (m : Message) (demand : TextDemand) (text : Option Text) → IsWithin most (on_argument policy known m demand text)
argument_within most policy known m demand None = none_within most m AccessDenied BadArgument refl
argument_within most policy known m demand (Some text) = text_within most policy m demand text (known.entries text) (known.level text)

bus_call_within : (most : ℕ) (policy : Policy) (known : Knowledge) (m : Message) (demand : Demand) → IsWithin most (on_bus_call policy known m demand)
bus_call_within most policy known m Free = omega arith
bus_call_within most policy known m (OnText demand) = argument_within most policy known m demand (first_text m)
bus_call_within most policy known m Unlisted = none_within most m AccessDenied BusMember refl

role_within : (most : ℕ) (policy : Policy) (known : Knowledge) (m : Message) (role : ClientRole) → ((name : Text) → AreWithin most (known.entries name)) →
    IsWithin most (verdict_at policy known m role)
role_within most policy known m OfUnknownType within = omega arith
role_within most policy known m Reply within = either_within most _ Pass (Drop NotOutstanding) (omega arith) (omega arith)
role_within most policy known m Broadcast within = omega arith
role_within most policy known m (SignalTo name) within = signal_within most (known.entries name) (known.level name) (within name)
role_within most policy known m StandardBusCall within = omega arith
role_within most policy known m OtherBusCall within = none_within most m AccessDenied BusInterface refl
role_within most policy known m BusCall within = bus_call_within most policy known m (demand_of (text_or_empty (member m)))
role_within most policy known m (CallTo name) within = call_within most policy m name (known.entries name) (known.level name) (within name)

entries_within : (policy : Policy) (facts : List Fact) (name : Text) → AreWithin (length policy.entries) (entries policy facts name)
unfolding entries
entries_within policy facts name = numbers_within (applies_to facts name) 1 (length policy.entries) policy.entries (omega arith)

judged_within : (policy : Policy) (told : Told) (m : Message) → IsWithin (length policy.entries) (judged policy told m)
unfolding judged verdict knowledge
judged_within policy told m =
    either_within (length policy.entries) (has_refused_field policy m) (on_unknown_field (kind_of m) m) (verdict_at policy (knowledge policy told) m (client_role m))
    (field_within (kind_of m))
    (role_within (length policy.entries) policy (knowledge policy told) m (client_role m) (entries_within policy told.facts))
  where
    field_within : (k : Kind) → IsWithin (length policy.entries) (on_unknown_field k m)
    field_within Call = none_within (length policy.entries) m AccessDenied UnknownField refl
    field_within Return = omega arith
    field_within Error = omega arith
    field_within Signal = omega arith
    field_within Other = omega arith

-- ---- what the client is shown rests on no entry

abbrev RestsOnNone : Showing → Type 0
RestsOnNone s = showing_entry s ≡ 0

either_on_none : (b : Bool) (s t : Showing) → RestsOnNone s → RestsOnNone t → RestsOnNone (if b then s else t)
either_on_none true s t first second = first
either_on_none false s t first second = second

names_on_none : (serial : ℕ) (names : Option (List Text)) → RestsOnNone (on_names serial names)
names_on_none serial None = refl
names_on_none serial (Some names) = refl

owner_change_on_none : (sloppy : Bool) (known : Knowledge) (texts : Option (Text × Text × Text)) → RestsOnNone (on_owner_change sloppy known texts)
owner_change_on_none sloppy known None = refl
owner_change_on_none sloppy known (Some texts) = either_on_none (sees_change sloppy known texts.0) Whole (Hide NameHidden) refl refl

showing_on_none : (policy : Policy) (known : Knowledge) (m : Message) (role : BusRole) → RestsOnNone (showing_at policy known m role)
showing_on_none policy known m NoRole = refl
showing_on_none policy known m Unexpected = refl
showing_on_none policy known m MatchAnswer = refl
showing_on_none policy known m (OwnerAnswer name) = refl
showing_on_none policy known m NamesAnswer = refl
showing_on_none policy known m (PingAnswer serial order what) = refl
showing_on_none policy known m (NameList serial) = names_on_none serial (text_list m)
showing_on_none policy known m (HelloAnswer serial) = refl
showing_on_none policy known m (OtherAnswer serial) = refl
showing_on_none policy known m CallIn = refl
showing_on_none policy known m OwnerChange = owner_change_on_none policy.sloppy known (three_texts m)
showing_on_none policy known m SignalIn = refl
showing_on_none policy known m BroadcastIn = either_on_none (may_broadcast policy known m (sender m)) Whole (Hide SenderNotTalk) refl refl

shown_on_none : (policy : Policy) (before : Past) (m : Message) → RestsOnNone (shown policy before m)
unfolding shown showing
shown_on_none policy before m = showing_on_none policy (knowledge policy before.told) m (bus_role (answered before (reply_serial m)) m)

-- ---- notes

decision_within : (policy : Policy) (before : Past) (side : Side) (m : Message) → decision_entry (decision_on policy before side m) ≤ length policy.entries
decision_within policy before Client m = judged_within policy before.told m
decision_within policy before Bus m = let none : showing_entry (shown policy before m) ≡ 0 = shown_on_none policy before m in omega arith

within_speaks : (policy : Policy) (note : Note) → decision_entry note.decision ≤ length policy.entries → SpeaksOf policy note
within_speaks policy note within = record { within = within; told = line_stands policy note within }

notes_of_one : (policy : Policy) (before : Past) (item : Item) (so_far : List Note × ℕ) → All (SpeaksOf policy) so_far.0 →
    All (SpeaksOf policy) (with_note_of policy before item so_far).0
notes_of_one policy before (Msg side m) so_far all =
    let note : Note = record { number = so_far.1 + 1; side = side; frame = spell m; decision = decision_on policy before side m } in
    All-append (SpeaksOf policy) so_far.0 (note ∷ []) all (All-cons (SpeaksOf policy) note [] (within_speaks policy note (decision_within policy before side m)) (search rules))
notes_of_one policy before (Line side bytes) so_far all = all
notes_of_one policy before (Raw side bytes) so_far all = all
notes_of_one policy before (Ended end) so_far all = all

pub all_speak : (policy : Policy) (items : List Item) → SpeakOf policy items
unfolding numbered
all_speak policy [] = search rules
all_speak policy (item ∷ before) = notes_of_one policy (past policy before) item (numbered policy before) (all_speak policy before)
