-- A session that is alone in a recording of version 2: its events, what it gives out, and its log.
use Rattle.std.proofs.Common.{◌≡◌, ℕ, List, [], ◌∷◌, ◌++◌, cond, refl, ap, ap₂, sym, ◌∙◌, append_assoc, append-nil, arith, if◌then◌else◌, length, drop, map, reverse, Equal, Bool, true, false, not}
use Rattle.std.specs.Prelude.{flat_map}
use Rattle.std.specs.Cmp.{nat_cmp_is}
use Rattle.std.specs.List.{filter}
use Rattle.std.specs.Ordering.{match_ordering}
use Rattle.std.proofs.lemmas.Bool.{eq-eqb}
use Rattle.std.proofs.lemmas.List.{drop_all, drop_at, map-append, reverse-append}
use Rattle.explain_log.specs.Lines.{log, log_line}
use Rattle.policy_args.specs.Policy.{Policy}
use Rattle.policy_args.specs.Words.{PolicyOptions}
use Rattle.policy_view.specs.History.{Event, history, new_in}
use Rattle.policy_view.specs.Laws.{IsPrefixOf, OnlyGrows}
use Rattle.policy_view.specs.Notes.{Note, notes, numbered}
use Rattle.policy_view.specs.Outputs.{bus_bytes, client_bytes}
use Rattle.policy_view.specs.declared.Mode.{Mode}
use Rattle.recording.specs.Recording.{Event as Recorded, Recording}
use Rattle.recording.specs.Sessions.{SessionEvent, sessions_named}
use Rattle.replay.specs.declared.session_notes.SessionNote.{SessionNote}
use Rattle.replay.specs.OneSession.{as_version_2, in_one}
use Rattle.replay_output.specs.Output.{event_of, events_of, history_of, mode_of}
use Rattle.replay.specs.SessionsOutput.{noted_in, event_by, in_session, is_of, log_of_sessions, output_of_sessions, outputs, own_events, session_history, session_log, session_output, sessions_noted}

-- ---- its events

own-events-go : (k : ℕ) (es : List Recorded) → map (λ (e : SessionEvent). event_by e.what) (filter (is_of k) (map (in_one k) es)) ≡ map event_of es
own-events-go k [] = refl
own-events-go k (e ∷ es) =
    ap (λ b. map (λ (x : SessionEvent). event_by x.what) (cond b (in_one k e ∷ filter (is_of k) (map (in_one k) es)) (filter (is_of k) (map (in_one k) es)))) (eq-eqb k k refl)
    ∙ ap (λ t. event_of e ∷ t) (own-events-go k es)

own-one : (k : ℕ) (es : List Recorded) → own_events k (map (in_one k) es) ≡ events_of es
own-one k es = ap reverse (own-events-go k es)

named-one : (k : ℕ) (es : List Recorded) → sessions_named (k ∷ []) (map (in_one k) es) ≡ k ∷ []
named-one k [] = refl
named-one k (e ∷ es) =
    ap (λ o. sessions_named (match_ordering o (k ∷ k ∷ []) (k ∷ []) (k ∷ k ∷ [])) (map (in_one k) es)) (sym (nat_cmp_is k k Equal refl)) ∙ named-one k es

-- ---- what it gives out

outputs-one : (policy : Policy) (mode : Mode) (k : ℕ) (es : List Recorded) → outputs policy mode (map (in_one k) es) ≡ session_output policy k (history policy mode (events_of es))
unfolding history bus_bytes client_bytes
outputs-one policy mode k [] = refl
outputs-one policy mode k (e ∷ es) =
    let f : ℕ → List ℕ = λ number. session_output policy number (session_history policy mode number (map (in_one k) (e ∷ es))) in
    ap (flat_map f) (named-one k es) ∙ append-nil (f k) ∙ ap (λ xs. session_output policy k (history policy mode xs)) (own-one k (e ∷ es))

pub one-output : (options : PolicyOptions) (r : Recording) (k : ℕ) → output_of_sessions options (as_version_2 k r) ≡ session_output options.policy k (history_of options r)
unfolding output_of_sessions
one-output options r k = outputs-one options.policy (mode_of options r) k r.events

-- ---- its log

abbrev pub NotesGrow : Type 0
NotesGrow = (policy : Policy) (mode : Mode) (more events : List Event) → OnlyGrows policy mode more events

abbrev noted_of : Policy → Mode → List Recorded → List Note
noted_of policy mode es = notes policy (history policy mode (events_of es))

events-append : (xs ys : List Recorded) → events_of (xs ++ ys) ≡ events_of ys ++ events_of xs
events-append xs ys = ap reverse (map-append event_of xs ys) ∙ reverse-append (map event_of xs) (map event_of ys)

noted-grow : NotesGrow → (policy : Policy) (mode : Mode) (xs ys : List Recorded) → IsPrefixOf (noted_of policy mode xs) (noted_of policy mode (xs ++ ys))
noted-grow grow policy mode xs ys =
    let (rest, is) = (grow policy mode (events_of ys) (events_of xs)).noted in
    (rest, is ∙ ap (λ es. notes policy (history policy mode es)) (sym (events-append xs ys)))

-- what is new in two steps
new-twice : (a b c : List Note) → IsPrefixOf a b → IsPrefixOf b c → new_in a b ++ new_in b c ≡ new_in a c
new-twice a b c (x, ab) (y, bc) =
    let first : new_in a b ≡ x = ap (drop (length a)) (sym ab) ∙ drop_at a x (length a) refl in
    let second : new_in b c ≡ y = ap (drop (length b)) (sym bc) ∙ drop_at b y (length b) refl in
    let whole : c ≡ a ++ (x ++ y) = sym bc ∙ ap (λ t. t ++ y) (sym ab) ∙ append_assoc a x y in
    ap₂ (λ s t. s ++ t) first second ∙ sym (ap (drop (length a)) whole ∙ drop_at a (x ++ y) (length a) refl)

none-new : (a b : List Note) → b ≡ a → new_in a b ≡ []
none-new a b is = drop_all (length a) b (omega (arith, ap length is))

noted-one : NotesGrow → (policy : Policy) (mode : Mode) (k : ℕ) (earlier es : List Recorded) →
    sessions_noted policy mode (map (in_one k) earlier) (map (in_one k) es) ≡ map (in_session k) (new_in (noted_of policy mode earlier) (noted_of policy mode (earlier ++ es)))
noted-one grow policy mode k earlier [] = ap (map (in_session k)) (sym (none-new _ _ (ap (noted_of policy mode) (append-nil earlier))))
noted-one grow policy mode k earlier (e ∷ es) =
    let next = earlier ++ e ∷ [] in
    let at : map (in_one k) next ≡ map (in_one k) earlier ++ in_one k e ∷ [] = map-append (in_one k) earlier (e ∷ []) in
    let own : List SessionEvent → List Note = λ xs. notes policy (session_history policy mode k xs) in
    let before : own (map (in_one k) earlier) ≡ noted_of policy mode earlier = ap (λ xs. notes policy (history policy mode xs)) (own-one k earlier) in
    let after : own (map (in_one k) earlier ++ in_one k e ∷ []) ≡ noted_of policy mode next = ap own (sym at) ∙ ap (λ xs. notes policy (history policy mode xs)) (own-one k next) in
    let all : noted_of policy mode (next ++ es) ≡ noted_of policy mode (earlier ++ e ∷ es) = ap (noted_of policy mode) (append_assoc earlier (e ∷ []) es) in
    ap₂ (λ s t. map (in_session k) s ++ t) (ap₂ new_in before after)
    (ap (λ xs. sessions_noted policy mode xs (map (in_one k) es)) (sym at) ∙ noted-one grow policy mode k next es)
    ∙ sym (map-append (in_session k) (new_in (noted_of policy mode earlier) (noted_of policy mode next)) (new_in (noted_of policy mode next) (noted_of policy mode (next ++ es))))
    ∙ ap (map (in_session k)) (new-twice _ _ _ (noted-grow grow policy mode earlier (e ∷ [])) (noted-grow grow policy mode next es) ∙ ap (new_in (noted_of policy mode earlier)) all)

none-before : (policy : Policy) (mode : Mode) → noted_of policy mode [] ≡ []
unfolding history numbered
none-before policy mode = refl

lines-one : (k : ℕ) (ns : List Note) → session_log (map (in_session k) ns) ≡ log k ns
lines-one k [] = refl
lines-one k (n ∷ ns) = ap (λ t. log_line k n ++ t) (lines-one k ns)

not-asked : (asked : Bool) (ns : List SessionNote) → session_log (if not asked then [] else ns) ≡ (if asked then session_log ns else [])
not-asked true ns = refl
not-asked false ns = refl

pub one-log : NotesGrow → (options : PolicyOptions) (r : Recording) (k : ℕ) →
    log_of_sessions options (as_version_2 k r) ≡ (if options.log then log k (notes options.policy (history_of options r)) else [])
unfolding log_of_sessions noted_in
one-log grow options r k =
    let mode = mode_of options r in
    not-asked options.log _
    ∙ ap (λ (t : List ℕ). if options.log then t else []) (ap session_log (noted-one grow options.policy mode k [] r.events
    ∙ ap (λ ns. map (in_session k) (new_in ns (noted_of options.policy mode r.events))) (none-before options.policy mode))
    ∙ lines-one k (noted_of options.policy mode r.events))
