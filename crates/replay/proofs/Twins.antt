-- Two recordings compared: what the elements that were given of them tell of their visible parts.
use Rattle.std.proofs.Common.{◌≡◌, ◌<◌, ◌+◌, ℕ, List, [], ◌∷◌, ◌++◌, Option, Some, None, true, false, refl, ap, sym, ◌∙◌, subst, append_assoc, arith, length, take, drop, map}
use Rattle.std.specs.Prelude.{slice_get, is_some, IfOk, Result, Ok, Err, option_to_list}
use Rattle.std.specs.List.{AllByRecursion}
use Rattle.std.proofs.lemmas.List.{length-append, length-map, take-append-le}
use Rattle.std.proofs.lemmas.Bool.{false≢true}
use Rattle.std.proofs.lemmas.Option.{slice_get_past}
use Rattle.std.proofs.Math.Seq.{take-append_seam, take-length}
use Rattle.policy_args.specs.Policy.{Policy}
use Rattle.policy_view.specs.Elements.{BringsBytes, DifferAsGiven, DifferFirst, TellThePart, element_of, elements}
use Rattle.policy_view.specs.History.{Event, end_of, history}
use Rattle.policy_view.specs.Laws.{HiddenChangesNothing, OnlyGrows, SameOnBothSides}
use Rattle.policy_view.specs.Past.{History}
use Rattle.policy_view.specs.Visible.{Closed, part}
use Rattle.policy_view.specs.declared.Mode.{Mode}
use Rattle.policy_view.specs.declared.visible.Visible.{Visible as Element}
use Rattle.proxy_core.specs.Sessions.{elements_given}
use Rattle.proxy_core.proofs.Fronts.{visible_front}
use Rattle.recording.specs.Recording.{Recording}
use Rattle.replay_output.specs.Output.{events_of, history_of, mode_of, output_of_recording}
use Rattle.replay.specs.Twins.{Compares, ComparesEnds, compared_under, part_of_recording}
use Rattle.replay.specs.Watching.{Gave, GaveAll, GaveNext}
use Rattle.replay.specs.declared.comparing.TwinAnswer.{TwinAnswer}
use Rattle.replay.specs.declared.comparing.TwinAnswer.TheVariants.{Same, Differ}
use Rattle.replay.specs.declared.watching.Watched.{Watched}
use Rattle.replay.proofs.Parts.{at-front, at-length, differ-before, differ-behind, differ-there, part-front}

-- ---- the laws on which an answer rests

abbrev pub Grow : Type 0
Grow = (policy : Policy) (mode : Mode) (more events : List Event) → OnlyGrows policy mode more events

abbrev pub Tell : Type 0
Tell = (policy : Policy) (mode : Mode) (events : List Event) → AllByRecursion BringsBytes events → TellThePart policy (history policy mode events)

abbrev pub DifferSo : Type 0
DifferSo = (policy : Policy) (one_mode other_mode : Mode) (one other : List Event) → AllByRecursion BringsBytes one → AllByRecursion BringsBytes other →
    DifferAsGiven policy (history policy one_mode one) (history policy other_mode other)

-- ---- one recording

abbrev mode_under : Policy → Recording → Mode
mode_under policy recording = mode_of (compared_under policy) recording

abbrev so_far : Policy → Recording → List Event → History
so_far policy recording events = history policy (mode_under policy recording) events

-- These elements were given for events that bring bytes, and the next is this one or there is none. Up to there the
-- part of these events is that of the recording.
record Fixed (policy : Policy) (recording : Recording) (given : List Element) (next : Option Element) : Type 0 where
  events : List Event
  bytes : AllByRecursion BringsBytes events
  given_is : take (length given) (elements policy (so_far policy recording events)) ≡ given
  next_is : slice_get (elements policy (so_far policy recording events)) (length given) ≡ next
  before : take (length given) (part policy (so_far policy recording events)) ≡ take (length given) (part_of_recording policy recording)
  there : slice_get (part policy (so_far policy recording events)) (length given) ≡ slice_get (part_of_recording policy recording) (length given)

-- an element after others, of which it is known that the part goes on with it
fixed-some : (policy : Policy) (recording : Recording) (given rest : List Element) (element : Element) (k : ℕ) → Grow → Tell →
    AllByRecursion BringsBytes (events_of (take k recording.events)) →
    given ++ element ∷ rest ≡ elements policy (so_far policy recording (events_of (take k recording.events))) → Fixed policy recording given (Some element)
fixed-some policy recording given rest element k grow tell bytes is =
    let mode = mode_under policy recording in
    let events = events_of (take k recording.events) in
    let front = part-front policy mode recording.events k (grow policy mode (events_of (drop k recording.events)) events) in
    let h = history policy mode events in
    let n = length given in
    let told : length (part policy h) ≡ length (elements policy h) + length (map Closed (option_to_list (end_of h))) =
    ap length (tell policy mode events bytes) ∙ length-append (map element_of (elements policy h)) _ ∙ ap (λ (j : ℕ). j + length (map Closed (option_to_list (end_of h)))) (length-map (elements policy h) element_of) in
    let long : length (elements policy h) ≡ n + length (element ∷ rest) = ap length (sym is) ∙ length-append given (element ∷ rest) in
    let within : n < length (part policy h) = omega arith in
    record {
      events = events;
      bytes = bytes;
      given_is = ap (take n) (sym is) ∙ take-append_seam given (element ∷ rest);
      next_is = ap (λ es. slice_get es n) (sym is) ∙ at-length given element rest;
      before = sym (take-append-le n (part policy h) front.0 (omega arith)) ∙ ap (take n) front.1;
      there = sym (at-front (part policy h) front.0 n within) ∙ ap (λ vs. slice_get vs n) front.1;
    }

fixed-none : (policy : Policy) (recording : Recording) (watched : Watched) (given : List Element) → GaveAll policy recording watched given → Fixed policy recording given None
fixed-none policy recording watched given gave = record {
  events = events_of recording.events;
  bytes = gave.bytes;
  given_is = ap (take (length given)) gave.all ∙ take-length given;
  next_is = ap (λ es. slice_get es (length given)) gave.all ∙ slice_get_past given (length given) (omega arith);
  before = refl;
  there = refl;
}

fixed : (policy : Policy) (recording : Recording) (watched : Watched) (given : List Element) (next : Option Element) → Grow → Tell → GaveNext policy recording watched given next →
    Fixed policy recording given next
fixed policy recording watched given None grow tell gave = fixed-none policy recording watched given gave
fixed policy recording watched given (Some element) grow tell gave =
    let events = events_of (take watched.played recording.events) in
    let front = visible_front policy watched.session events gave.taken gave.stands in
    let rest = watched.session.visible ++ front.rest in
    fixed-some policy recording given rest element watched.played grow tell gave.bytes
    (sym (append_assoc given (element ∷ []) rest) ∙ sym (append_assoc (given ++ element ∷ []) watched.session.visible front.rest)
    ∙ ap (λ es. (es ++ watched.session.visible) ++ front.rest) (sym gave.visible) ∙ front.is
    ∙ ap (λ watches. elements_given watches policy (history policy watched.session.mode events)) gave.watches
    ∙ ap (λ (mode : Mode). elements policy (history policy mode events)) gave.mode)

-- ---- both

-- the next elements differ
differ : (policy : Policy) (one other : Recording) (given : List Element) (next against : Option Element) → DifferSo → Fixed policy one given next → Fixed policy other given against →
    (next ≡ against → ⊥) → DifferFirst (length given + 1) (part_of_recording policy one) (part_of_recording policy other)
differ policy one other given next against so first second apart =
    let n = length given in
    let as_given = so policy (mode_under policy one) (mode_under policy other) first.events second.events first.bytes second.bytes in
    let parts = as_given.at_element (n + 1) (differ-behind n _ _ (first.given_is ∙ sym second.given_is) (λ same. apart (sym first.next_is ∙ same ∙ second.next_is))) in
    differ-behind n _ _
    (sym first.before ∙ differ-before n _ _ parts ∙ second.before)
    (λ same. differ-there n _ _ parts (first.there ∙ same ∙ sym second.there))

-- all elements are equal, and so the Ends decide
ends-decide : (policy : Policy) (one other : Recording) (first second : Watched) (given : List Element) (answer : TwinAnswer) → DifferSo →
    GaveAll policy one first given → GaveAll policy other second given → ComparesEnds first.session.ended second.session.ended (length given + 1) answer →
    Compares (part_of_recording policy one) (part_of_recording policy other) answer
ends-decide policy one other first second given Same so gave_one gave_other ends =
    let as_given = so policy (mode_under policy one) (mode_under policy other) (events_of one.events) (events_of other.events) gave_one.bytes gave_other.bytes in
    as_given.same (gave_one.all ∙ sym gave_other.all) (sym gave_one.ended ∙ ends ∙ gave_other.ended)
ends-decide policy one other first second given (Differ at) so gave_one gave_other ends =
    let as_given = so policy (mode_under policy one) (mode_under policy other) (events_of one.events) (events_of other.events) gave_one.bytes gave_other.bytes in
    subst (λ (p : ℕ). DifferFirst p (part_of_recording policy one) (part_of_recording policy other))
    (ap (λ es. length es + 1) gave_one.all ∙ sym ends.0)
    (as_given.at_end (gave_one.all ∙ sym gave_other.all) (λ same. ends.1 (gave_one.ended ∙ same ∙ sym gave_other.ended)))

-- ---- as they are compared

-- both gave the same elements, this many
pub record GaveBoth (policy : Policy) (one other : Recording) (first second : Watched) (n : ℕ) : Type 0 where
  pub given : List Element
  pub count : length given ≡ n
  pub of_one : Gave policy one first given
  pub of_other : Gave policy other second given

-- and this one next
pub both-next : (policy : Policy) (one other : Recording) (first second : Watched) (given : List Element) (n : ℕ) (next against : Option Element) → length given ≡ n →
    GaveNext policy one first given next → GaveNext policy other second given against → next ≡ against → is_some next ≡ true → GaveBoth policy one other first second (n + 1)
both-next policy one other first second given n None against count gave_one gave_other same some = absurd (false≢true some)
both-next policy one other first second given n (Some element) against count gave_one gave_other same some = record {
  given = given ++ element ∷ [];
  count = length-append given (element ∷ []) ∙ ap (λ (k : ℕ). k + 1) count;
  of_one = gave_one;
  of_other = subst (λ o. GaveNext policy other second given o) (sym same) gave_other;
}

-- they gave different ones next
pub both-differ : (policy : Policy) (one other : Recording) (first second : Watched) (given : List Element) (n : ℕ) (next against : Option Element) → Grow → Tell → DifferSo → length given ≡ n →
    GaveNext policy one first given next → GaveNext policy other second given against → (next ≡ against → ⊥) → DifferFirst (n + 1) (part_of_recording policy one) (part_of_recording policy other)
both-differ policy one other first second given n next against grow tell so count gave_one gave_other apart =
    subst (λ (k : ℕ). DifferFirst (k + 1) (part_of_recording policy one) (part_of_recording policy other)) count
    (differ policy one other given next against so (fixed policy one first given next grow tell gave_one) (fixed policy other second given against grow tell gave_other) apart)

-- neither gave another one
pub both-end : (policy : Policy) (one other : Recording) (first second : Watched) (given : List Element) (n : ℕ) (next against : Option Element) (answer : TwinAnswer) → DifferSo → length given ≡ n →
    GaveNext policy one first given next → GaveNext policy other second given against → next ≡ against → is_some next ≡ false →
    ComparesEnds first.session.ended second.session.ended (n + 1) answer → Compares (part_of_recording policy one) (part_of_recording policy other) answer
both-end policy one other first second given n None against answer so count gave_one gave_other same none ends =
    ends-decide policy one other first second given answer so gave_one (subst (λ o. GaveNext policy other second given o) (sym same) gave_other)
    (subst (λ (k : ℕ). ComparesEnds first.session.ended second.session.ended (k + 1) answer) (sym count) ends)
both-end policy one other first second given n (Some element) against answer so count gave_one gave_other same none ends = absurd (false≢true (sym none))

-- ---- equal parts, equal output

same-output : (policy : Policy) (one other : Recording) → SameOnBothSides policy (history_of (compared_under policy) one) (history_of (compared_under policy) other) →
    output_of_recording (compared_under policy) one ≡ output_of_recording (compared_under policy) other
unfolding output_of_recording
same-output policy one other same = cc

pub equal-outputs : {E : Type 0} (policy : Policy) (one other : Recording) (result : Result TwinAnswer E) →
    HiddenChangesNothing policy (mode_under policy one) (mode_under policy other) (events_of one.events) (events_of other.events) →
    IfOk result (λ answer. Compares (part_of_recording policy one) (part_of_recording policy other) answer) →
    IfOk result (λ answer. answer ≡ Same → output_of_recording (compared_under policy) one ≡ output_of_recording (compared_under policy) other)
equal-outputs policy one other (Ok answer) hidden compares = λ is.
    same-output policy one other (hidden refl refl (subst (λ a. Compares (part_of_recording policy one) (part_of_recording policy other) a) is compares))
equal-outputs policy one other (Err error) hidden compares = tt
