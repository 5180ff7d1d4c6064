-- The elements that a recording gives, as its events are played and as they are taken.
use Rattle.std.proofs.Common.{◌≡◌, ◌≤◌, ◌+◌, ℕ, List, [], ◌∷◌, ◌++◌, Option, Some, None, false, refl, ap, sym, ◌∙◌, subst, append-nil, arith, length, take, drop}
use Rattle.std.specs.Prelude.{IfNone, IfOk, IfSome, Result, Ok, Err, option_to_list}
use Rattle.std.specs.List.{AllByRecursion}
use Rattle.std.proofs.lemmas.List.{drop_all, take_all}
use Rattle.policy_args.specs.Policy.{Policy}
use Rattle.policy_view.specs.Elements.{BringsBytes, elements}
use Rattle.policy_view.specs.History.{Event, end_of, history}
use Rattle.policy_view.specs.declared.End.{End}
use Rattle.policy_view.specs.declared.Mode.{Mode}
use Rattle.policy_view.specs.declared.visible.Visible.{Visible as Element}
use Rattle.proxy_core.specs.Sessions.{SessionView, StandsFor, Taken, elements_given, is_memory, nothing, watching_at_start}
use Rattle.proxy_core.specs.Steps.{IsLight}
use Rattle.recording.specs.Recording.{Event as Recorded, Recording}
use Rattle.replay_output.specs.Output.{event_of, events_of, mode_of}
use Rattle.replay.specs.Twins.{compared_under}
use Rattle.replay.specs.Watching.{Gave, GaveAll, GaveNext, GaveWaiting, NothingWaits}
use Rattle.replay.specs.declared.watching.Watched.{Watched}

-- nothing was played
pub gave-start : (policy : Policy) (recording : Recording) (session : SessionView) → session ≡ watching_at_start recording.auth → StandsFor policy session [] nothing →
    Gave policy recording (record { session = session; played = 0 }) []
gave-start policy recording session start stands = record {
  taken = nothing;
  mode = ap (λ (v : SessionView). v.mode) start;
  watches = ap (λ (v : SessionView). v.watches) start;
  stands = stands;
  bytes = tt;
  visible = refl;
}

-- an event was played
pub gave-played : (policy : Policy) (recording : Recording) (old : Watched) (session : SessionView) (event : Recorded) (n : ℕ) (given : List Element) →
    events_of (take (old.played + 1) recording.events) ≡ event_of event ∷ events_of (take old.played recording.events) → BringsBytes (event_of event) → IsLight policy n old.session session →
    ((events : List Event) (taken : Taken) → StandsFor policy old.session events taken → StandsFor policy session (event_of event ∷ events) taken) →
    Gave policy recording old given → Gave policy recording (record { session = session; played = old.played + 1 }) given
gave-played policy recording old session event n given next brings light stands gave = record {
  taken = gave.taken;
  mode = light.mode ∙ gave.mode;
  watches = light.watches ∙ gave.watches;
  stands = subst (λ events. StandsFor policy session events gave.taken) (sym next) (stands _ gave.taken gave.stands);
  bytes = subst (λ events. AllByRecursion BringsBytes events) (sym next) (brings, gave.bytes);
  visible = gave.visible;
}

-- all bytes that waited were taken
pub stands-let-go : (policy : Policy) (old between new : SessionView) (n m : ℕ) → n ≡ length old.bus_side → m ≡ length between.client_side → between ≡ record old { bus_side = drop n old.bus_side } →
    ((events : List Event) (taken : Taken) → StandsFor policy old events taken → StandsFor policy between events (record taken { bus_side = taken.bus_side ++ take n old.bus_side })) →
    ((events : List Event) (taken : Taken) → StandsFor policy between events taken → StandsFor policy new events (record taken { client_side = taken.client_side ++ take m between.client_side })) →
    (events : List Event) (taken : Taken) → StandsFor policy old events taken →
    StandsFor policy new events (record taken { bus_side = taken.bus_side ++ old.bus_side; client_side = taken.client_side ++ old.client_side })
stands-let-go policy old between new n m n_is m_is bus by_bus by_client events taken stands =
    let bus_all : take n old.bus_side ≡ old.bus_side = take_all n old.bus_side (omega (arith, n_is)) in
    let client_all : take m between.client_side ≡ old.client_side = take_all m between.client_side (omega (arith, m_is)) ∙ ap (λ (v : SessionView). v.client_side) bus in
    subst (λ t. StandsFor policy new events (record taken { bus_side = taken.bus_side ++ t; client_side = taken.client_side ++ old.client_side })) bus_all
    (subst (λ t. StandsFor policy new events (record taken { bus_side = taken.bus_side ++ take n old.bus_side; client_side = taken.client_side ++ t })) client_all
    (by_client _ _ (by_bus events taken stands)))

pub view-let-go : (old between new : SessionView) (n m : ℕ) → n ≡ length old.bus_side → m ≡ length between.client_side → between ≡ record old { bus_side = drop n old.bus_side } →
    new ≡ record between { client_side = drop m between.client_side } → new ≡ record old { bus_side = []; client_side = [] }
view-let-go old between new n m n_is m_is bus client = client
    ∙ ap (λ t. record between { client_side = t }) (drop_all m between.client_side (omega (arith, m_is)))
    ∙ ap (λ (v : SessionView). record v { client_side = [] }) bus
    ∙ ap (λ t. record old { bus_side = t; client_side = [] }) (drop_all n old.bus_side (omega (arith, n_is)))

pub none_waits : (old new : SessionView) → new ≡ record old { bus_side = []; client_side = [] } → NothingWaits new
none_waits old new view = record { for_bus = ap (λ (v : SessionView). v.bus_side) view; for_client = ap (λ (v : SessionView). v.client_side) view }

pub gave-let-go : (policy : Policy) (recording : Recording) (old : Watched) (session : SessionView) (given : List Element) → session ≡ record (old.session) { bus_side = []; client_side = [] } →
    ((events : List Event) (taken : Taken) → StandsFor policy old.session events taken →
    StandsFor policy session events (record taken { bus_side = taken.bus_side ++ old.session.bus_side; client_side = taken.client_side ++ old.session.client_side })) →
    Gave policy recording old given → Gave policy recording (record old { session = session }) given
gave-let-go policy recording old session given view stands gave = record {
  taken = record (gave.taken) { bus_side = gave.taken.bus_side ++ old.session.bus_side; client_side = gave.taken.client_side ++ old.session.client_side };
  mode = ap (λ (v : SessionView). v.mode) view ∙ gave.mode;
  watches = ap (λ (v : SessionView). v.watches) view ∙ gave.watches;
  stands = stands _ gave.taken gave.stands;
  bytes = gave.bytes;
  visible = gave.visible;
}

-- the element that waited next was taken
pub gave-waiting : (policy : Policy) (recording : Recording) (old : Watched) (session : SessionView) (given : List Element) (next : Option Element) →
    IfNone next ((old.session.visible ≡ []) × (session ≡ old.session)) →
    IfSome next (λ element. (rest : List Element) × (old.session.visible ≡ element ∷ rest) × (session ≡ record (old.session) { visible = rest })) →
    ((events : List Event) (taken : Taken) → StandsFor policy old.session events taken → StandsFor policy session events (record taken { visible = taken.visible ++ option_to_list next })) →
    Gave policy recording old given → GaveWaiting policy recording (record old { session = session }) given next
gave-waiting policy recording old session given None none some stands gave = (
  record {
    taken = gave.taken;
    mode = ap (λ (v : SessionView). v.mode) none.1 ∙ gave.mode;
    watches = ap (λ (v : SessionView). v.watches) none.1 ∙ gave.watches;
    stands = subst (λ (v : SessionView). StandsFor policy v (events_of (take old.played recording.events)) gave.taken) (sym none.1) gave.stands;
    bytes = gave.bytes;
    visible = gave.visible;
  },
  ap (λ (v : SessionView). v.visible) none.1 ∙ none.0,
)
gave-waiting policy recording old session given (Some element) none some stands gave = record {
  taken = record (gave.taken) { visible = gave.taken.visible ++ element ∷ [] };
  mode = ap (λ (v : SessionView). v.mode) some.2 ∙ gave.mode;
  watches = ap (λ (v : SessionView). v.watches) some.2 ∙ gave.watches;
  stands = stands _ gave.taken gave.stands;
  bytes = gave.bytes;
  visible = ap (λ es. es ++ element ∷ []) gave.visible;
}

-- all events were played, and no element waits
all-given : (policy : Policy) (recording : Recording) (watched : Watched) (given : List Element) → length recording.events ≤ watched.played → is_memory watched.session.ended ≡ false →
    Gave policy recording watched given × (watched.session.visible ≡ []) → GaveAll policy recording watched given
all-given policy recording watched given all running (gave, none) =
    let played : take watched.played recording.events ≡ recording.events = take_all watched.played recording.events all in
    let holds = gave.stands.holds running in
    let so_far = λ (mode : Mode) (es : List Recorded). history policy mode (events_of es) in
    let whole : so_far watched.session.mode (take watched.played recording.events) ≡ so_far (mode_of (compared_under policy) recording) recording.events =
    ap (so_far watched.session.mode) played ∙ ap (λ (mode : Mode). so_far mode recording.events) gave.mode in
    record {
      bytes = subst (λ es. AllByRecursion BringsBytes (events_of es)) played gave.bytes;
      all = sym (sym gave.visible ∙ sym (append-nil gave.taken.visible) ∙ ap (λ es. gave.taken.visible ++ es) (sym none) ∙ holds.watched
          ∙ ap (λ watches. elements_given watches policy (so_far watched.session.mode (take watched.played recording.events))) gave.watches ∙ ap (elements policy) whole);
      ended = holds.end_is ∙ ap end_of whole;
    }

-- and so there is no next one, unless memory was refused
pub none-next : {E : Type 0} (policy : Policy) (recording : Recording) (watched : Watched) (given : List Element) (ended : Option End) (result : Result (Option Element) E) →
    length recording.events ≤ watched.played → Gave policy recording watched given × (watched.session.visible ≡ []) → ended ≡ watched.session.ended →
    IfOk result (λ next. (next ≡ None) × (is_memory ended ≡ false)) → IfOk result (λ next. GaveNext policy recording watched given next)
none-next policy recording watched given ended (Ok next) all gave is (none, running) =
    subst (λ o. GaveNext policy recording watched given o) (sym none) (all-given policy recording watched given all (ap is_memory (sym is) ∙ running) gave)
none-next policy recording watched given ended (Err error) all gave is refused = tt
