-- What a wait asks of the system, one call after the other.
use Rattle.std.proofs.Common.{ℕ, ◌≡◌, ◌≤◌, ◌+◌, ◌-◌, ◌*◌, ◌/◌, ◌%◌, ◌^◌, ◌||◌, inl, inr, ap₂, length, length-append, take, nat_eq, Bool, true, false, List, [], ◌∷◌, ◌++◌, Option, Some, None, is_some, refl, sym, ap, subst, ◌∙◌, arith}
use Rattle.std.specs.BTreeMap as tree
use Rattle.std.specs.Option.{option_map}
use Rattle.std.specs.Ordering.{nat_cmp}
use Rattle.std.specs.String.{string_bytes}
use Rattle.std.specs.declared.io.ErrorKind.{ErrorKind}
use Rattle.std.proofs.lemmas.Bool.Decides.{nat_tests}
use Rattle.std.proofs.lemmas.List.Folds.{list_any-append}
use Rattle.link_traits.specs.Numbers.{number_of}
use Rattle.link_traits.specs.declared.links.Link.{Link}
use Rattle.link_traits.specs.declared.links.Side.TheVariants.{Client, Bus}
use Rattle.link_traits.specs.declared.links.Wishes.{Wishes}
use Rattle.proxy_net.specs.Answers.{answers_by, answers_in}
use Rattle.proxy_net.specs.Connecting.{tried_path}
use Rattle.proxy_net.specs.Registering.{is_registered_by}
use Rattle.link_traits.specs.declared.links.Ready.{Ready}
use Rattle.link_traits.specs.declared.links.Ready.TheVariants.{Listener as IsListener, Link as IsLink, Quiet, Failed as WaitFailed}
use Rattle.proxy_net.specs.Sockets.{GoesOn, HasLink, IsTriedTo, IsWished, is_link_registered}
use Rattle.proxy_net.specs.Starters.{after_call, after_calls, after_notice, after_reports}
use Rattle.proxy_net.specs.Steps.{Steps, IsSilent, IsNoted, IsWatched, IsRetryIn, IsNoteCall, AreNoteCalls, IsWaitCall, AreWaitCalls, AreWaits, IsFailure, IsNotice, IsNoticed, IsWait, is_failed}
use Rattle.proxy_net.specs.SystemCalls.{SystemCall, bind, await_clients, accept, connect, watch, read, write, close, wait, identify, remove, open_starter, notify_starter, answered, is_failed_wait, has_failed_wait}
use Rattle.proxy_net.specs.declared.link_sockets.Connection.{Connection}
use Rattle.proxy_net.specs.declared.link_sockets.Connection.TheVariants.{Open, Pending, Failed}
use Rattle.proxy_net.specs.declared.link_sockets.LinkSocket.{LinkSocket}
use Rattle.proxy_net.specs.declared.reports.Report.{Report}
use Rattle.proxy_net.specs.declared.sockets.SocketSet.{SocketSet}
use Rattle.proxy_net.specs.declared.starters.Starter.{Starter}
use Rattle.proxy_net.specs.declared.starters.Starter.TheVariants.{Absent, Waiting, Told, Gone}
use Rattle.proxy_net.proofs.Telling.{steps_weaker, steps_through}

-- a watch for reading alone, by whether it was made
pub watch_noted : (has_stream : Bool) (number : ℕ) (made : Bool) (calls : List SystemCall) → IsWatched has_stream number false made calls → IsNoted number calls
watch_noted true number true calls is = inr (None, is)
watch_noted true number false calls is = inr (Some is.0, is.1)
watch_noted false number true calls is = inl is
watch_noted false number false calls is = absurd is

module _ (Own : ℕ → Type 0) (To : ℕ → List ℕ → Type 0) where
  pub noted_waits : (number : ℕ) → Own number → (calls : List SystemCall) → IsNoted number calls → AreNoteCalls Own To calls
  noted_waits number own calls is = elim is [
    | inl none ↦ subst (AreNoteCalls Own To) (sym none) tt
    | inr watched ↦ subst (AreNoteCalls Own To) (sym watched.1) (own, tt)
  ]

  waits_join : (first second : List SystemCall) → AreNoteCalls Own To first → AreNoteCalls Own To second → AreNoteCalls Own To (second ++ first)
  waits_join first [] f s = f
  waits_join first (call ∷ second) f s = (s.0, waits_join first second f s.1)

  pub waits_through : {a b c : Option (List SystemCall)} → Steps (AreNoteCalls Own To) a b → Steps (AreNoteCalls Own To) b c → Steps (AreNoteCalls Own To) a c
  waits_through p q = steps_through (λ first second f s. waits_join first second f s) p q

  silent_call : (call : SystemCall) → IsNoteCall Own To call → answers_by call ≡ []
  silent_call (wait reports nanos fault) is = absurd is
  silent_call (identify path found) is = absurd is
  silent_call (open_starter descriptor fault) is = absurd is
  silent_call (notify_starter fault) is = absurd is
  silent_call (watch number writable fault) is = refl
  silent_call (connect number path fault) is = refl
  silent_call (bind number path fault) is = refl
  silent_call (await_clients number fault) is = refl
  silent_call (accept listener number fault) is = refl
  silent_call (read number answer) is = refl
  silent_call (write number answer) is = refl
  silent_call (close number) is = refl
  silent_call (remove path) is = refl
  silent_call (answered entry) is = absurd is

  pub waits_silent : (calls : List SystemCall) → AreNoteCalls Own To calls → IsSilent calls
  waits_silent [] are = refl
  waits_silent (call ∷ calls) are = ap (λ (answers : _). answers ++ answers_in calls) (silent_call call are.0) ∙ waits_silent calls are.1

-- what is said of fewer links and paths is said of more
module _ (Own More : ℕ → Type 0) (To Also : ℕ → List ℕ → Type 0) (own : (number : ℕ) → Own number → More number) (to : (number : ℕ) (path : List ℕ) → To number path → Also number path) where
  call_weaker : (call : SystemCall) → IsNoteCall Own To call → IsNoteCall More Also call
  call_weaker (wait reports nanos fault) is = is
  call_weaker (identify path found) is = is
  call_weaker (open_starter descriptor fault) is = is
  call_weaker (notify_starter fault) is = is
  call_weaker (watch number true fault) is = is
  call_weaker (watch number false fault) is = own number is
  call_weaker (connect number path fault) is = to number path is
  call_weaker (bind number path fault) is = is
  call_weaker (await_clients number fault) is = is
  call_weaker (accept listener number fault) is = is
  call_weaker (read number answer) is = is
  call_weaker (write number answer) is = is
  call_weaker (close number) is = is
  call_weaker (remove path) is = is
  call_weaker (answered entry) is = is

  pub waits_weaker : (calls : List SystemCall) → AreNoteCalls Own To calls → AreNoteCalls More Also calls
  waits_weaker [] are = tt
  waits_weaker (call ∷ calls) are = (call_weaker call are.0, waits_weaker calls are.1)

some_mapped : {A B : Type 0} (f : A → B) (o : Option A) → is_some (option_map f o) ≡ is_some o
some_mapped f None = refl
some_mapped f (Some a) = refl

numbered_link : (number : ℕ) → (link : Link) × (number_of link ≡ number)
numbered_link number = by (nat_eq (number % 2) 0) refl
  where
    by : (even : Bool) → nat_eq (number % 2) 0 ≡ even → (link : Link) × (number_of link ≡ number)
    by true e = (record { session = number / 2; side = Client }, let zero : number % 2 ≡ 0 = grind (arith, nat_tests, e) in let same : number / 2 * 2 + 0 ≡ number = omega (arith, zero) in same)
    by false e = (record { session = number / 2; side = Bus }, let one : number % 2 ≡ 1 = grind (arith, nat_tests, e) in let same : number / 2 * 2 + 1 ≡ number = omega (arith, one) in same)

module _ {T L : Type 0} (a b : SocketSet T L) (goes : GoesOn a b) where
  -- a link that is there was there before
  link_before : (number : ℕ) → HasLink b number → HasLink a number
  link_before number there =
      let link = numbered_link number in
      let at = λ (s : SocketSet T L). sym (some_mapped (λ (socket : LinkSocket _). socket.wishes) (tree.get nat_cmp s.links (number_of link.0))) in
      let same : is_some (tree.get nat_cmp a.links (number_of link.0)) ≡ is_some (tree.get nat_cmp b.links (number_of link.0)) =
      at a ∙ ap (λ (o : Option Wishes). is_some o) (sym (goes.wishes link.0)) ∙ sym (at b) in
      subst (λ n. is_some (tree.get nat_cmp a.links n) ≡ true) link.1 (same ∙ subst (λ n. is_some (tree.get nat_cmp b.links n) ≡ true) (sym link.1) there)

  -- what is asked later is said of what was there before
  pub waits_before : {i j : Option (List SystemCall)} → Steps (AreNoteCalls (HasLink b) (IsTriedTo b)) i j → Steps (AreNoteCalls (HasLink a) (IsTriedTo a)) i j
  waits_before s = steps_weaker (waits_weaker (HasLink b) (HasLink a) (IsTriedTo b) (IsTriedTo a) link_before goes.paths) s

  pub registered_after : ((number : ℕ) → is_link_registered a number ≡ true) → (number : ℕ) → is_link_registered b number ≡ true
  registered_after own number = goes.link_tokens number (own number)

-- a connect that is tried again is one to the link's path
pub retried_waits : {T : Type 0} (Own : ℕ → Type 0) (To : ℕ → List ℕ → Type 0) (connection : Connection T) (number : ℕ) → is_registered_by number connection ≡ true → ((path : List ℕ) → tried_path connection ≡ Some path → To number path)
    → (calls : List SystemCall) → IsRetryIn connection calls → AreNoteCalls Own To calls
retried_waits Own To (Open stream) number own to calls is = subst (AreNoteCalls Own To) (sym is) tt
retried_waits Own To Failed number own to calls is = subst (AreNoteCalls Own To) (sym is) tt
retried_waits Own To (Pending retry) number own to calls is = elim is [
  | inl none ↦ subst (AreNoteCalls Own To) (sym none) tt
  | inr tried ↦
      let same : retry.token ≡ number = grind (arith, nat_tests, own) in
      subst (AreNoteCalls Own To) (sym tried.1) (subst (λ n. To n (string_bytes retry.path)) (sym same) (to (string_bytes retry.path) refl), tt)
]

-- what is known of the starter after calls, one after the other
pub after_append : (second first : List SystemCall) (starter : Starter) → after_calls (second ++ first) starter ≡ after_calls second (after_calls first starter)
after_append [] first starter = refl
after_append (call ∷ second) first starter = ap (after_call call) (after_append second first starter)

none_failed : (second first : List SystemCall) → has_failed_wait first ≡ false → has_failed_wait second ≡ false → has_failed_wait (second ++ first) ≡ false
none_failed second first f s = list_any-append is_failed_wait second first ∙ ap₂ (λ (x y : Bool). x || y) s f

failure_then : (failed : Bool) (second first : List SystemCall) → has_failed_wait first ≡ false → IsFailure failed second → IsFailure failed (second ++ first)
failure_then false second first f s = none_failed second first f s
failure_then true [] first f s = elim s [
  | inl last ↦ absurd (let no : false ≡ true = last in cc)
  | inr many ↦ absurd (omega (arith, many))
]
failure_then true (call ∷ second) first f s = elim s [
  | inl last ↦ inl last
  | inr many ↦ inr (omega (arith, many, length-append (call ∷ second) first))
]

module _ (Own : ℕ → Type 0) (To : ℕ → List ℕ → Type 0) where
  notes_wait : (calls : List SystemCall) → AreNoteCalls Own To calls → AreWaitCalls Own To calls
  notes_wait [] are = tt
  notes_wait (call ∷ calls) are = (inl are.0, notes_wait calls are.1)

  note_succeeds : (call : SystemCall) → IsNoteCall Own To call → is_failed_wait call ≡ false
  note_succeeds (wait reports nanos fault) is = absurd is
  note_succeeds (watch number writable fault) is = refl
  note_succeeds (connect number path fault) is = refl
  note_succeeds (bind number path fault) is = refl
  note_succeeds (await_clients number fault) is = refl
  note_succeeds (accept listener number fault) is = refl
  note_succeeds (read number answer) is = refl
  note_succeeds (write number answer) is = refl
  note_succeeds (close number) is = refl
  note_succeeds (identify path found) is = refl
  note_succeeds (remove path) is = refl
  note_succeeds (open_starter descriptor fault) is = refl
  note_succeeds (notify_starter fault) is = refl
  note_succeeds (answered entry) is = refl

  note_keeps : (call : SystemCall) (starter : Starter) → IsNoteCall Own To call → after_call call starter ≡ starter
  note_keeps (wait reports nanos fault) starter is = absurd is
  note_keeps (notify_starter fault) starter is = absurd is
  note_keeps (watch number writable fault) starter is = refl
  note_keeps (connect number path fault) starter is = refl
  note_keeps (bind number path fault) starter is = refl
  note_keeps (await_clients number fault) starter is = refl
  note_keeps (accept listener number fault) starter is = refl
  note_keeps (read number answer) starter is = refl
  note_keeps (write number answer) starter is = refl
  note_keeps (close number) starter is = refl
  note_keeps (identify path found) starter is = refl
  note_keeps (remove path) starter is = refl
  note_keeps (open_starter descriptor fault) starter is = refl
  note_keeps (answered entry) starter is = refl

  notes_succeed : (calls : List SystemCall) → AreNoteCalls Own To calls → has_failed_wait calls ≡ false
  notes_succeed [] are = refl
  notes_succeed (call ∷ calls) are = ap₂ (λ (x y : Bool). x || y) (note_succeeds call are.0) (notes_succeed calls are.1)

  notes_keep : (calls : List SystemCall) (starter : Starter) → AreNoteCalls Own To calls → after_calls calls starter ≡ starter
  notes_keep [] starter are = refl
  notes_keep (call ∷ calls) starter are = ap (after_call call) (notes_keep calls starter are.1) ∙ note_keeps call starter are.0

  -- what is asked for reports is asked by a wait, which doesn't fail by it
  pub notes_are_waits : (starter : Starter) (calls : List SystemCall) → AreNoteCalls Own To calls → AreWaits Own To starter starter false calls
  notes_are_waits starter calls are = record { each = notes_wait calls are; starter = sym (notes_keep calls starter are); failure = notes_succeed calls are }

  all_wait : (second first : List SystemCall) → AreWaitCalls Own To first → AreWaitCalls Own To second → AreWaitCalls Own To (second ++ first)
  all_wait [] first f s = f
  all_wait (call ∷ second) first f s = (s.0, all_wait second first f s.1)

  pub waits_then : {before between after : Starter} (failed : Bool) (first second : List SystemCall) → AreWaits Own To before between false first → AreWaits Own To between after failed second → AreWaits Own To before after failed (second ++ first)
  waits_then {before} failed first second p q = record {
    each = all_wait second first p.each q.each;
    starter = q.starter ∙ ap (after_calls second) p.starter ∙ sym (after_append second first before);
    failure = failure_then failed second first p.failure q.failure;
  }

  wait_silent : (call : SystemCall) → IsWaitCall Own To call → answers_by call ≡ []
  wait_silent call is = elim is [
    | inl note ↦ silent_call Own To call note
    | inr waited ↦ ap answers_by waited.3
  ]

  all_silent : (calls : List SystemCall) → AreWaitCalls Own To calls → IsSilent calls
  all_silent [] are = refl
  all_silent (call ∷ calls) are = ap (λ (answers : _). answers ++ answers_in calls) (wait_silent call are.0) ∙ all_silent calls are.1

  pub turns_silent : {before after : Starter} {failed : Bool} (calls : List SystemCall) → AreWaits Own To before after failed calls → IsSilent calls
  turns_silent calls are = all_silent calls are.each

module _ (Own More : ℕ → Type 0) (To Also : ℕ → List ℕ → Type 0) (own : (number : ℕ) → Own number → More number) (to : (number : ℕ) (path : List ℕ) → To number path → Also number path) where
  all_weaker : (calls : List SystemCall) → AreWaitCalls Own To calls → AreWaitCalls More Also calls
  all_weaker [] are = tt
  all_weaker (call ∷ calls) are = (
    elim are.0 [
      | inl note ↦ inl (call_weaker Own More To Also own to call note)
      | inr waited ↦ inr waited
    ],
    all_weaker calls are.1,
  )

  pub turns_weaker : {before after : Starter} {failed : Bool} (calls : List SystemCall) → AreWaits Own To before after failed calls → AreWaits More Also before after failed calls
  turns_weaker calls are = record { each = all_weaker calls are.each; starter = are.starter; failure = are.failure }

-- what is asked later is said of what was there before
pub turns_before : {T L : Type 0} (a b : SocketSet T L) → GoesOn a b → {before after : Starter} {failed : Bool} (calls : List SystemCall) → AreWaits (HasLink b) (IsTriedTo b) before after failed calls → AreWaits (HasLink a) (IsTriedTo a) before after failed calls
turns_before a b goes calls are = turns_weaker (HasLink b) (HasLink a) (IsTriedTo b) (IsTriedTo a) (link_before a b goes) goes.paths calls are

notice_silent : (starter : Starter) (calls : List SystemCall) → IsNotice starter calls → IsSilent calls
notice_silent Absent calls is = ap answers_in is
notice_silent Waiting calls is = ap answers_in is.1
notice_silent Told calls is = ap answers_in is
notice_silent Gone calls is = ap answers_in is

-- the byte was written or could not be written
pub noticed : (starter : Starter) (fault : Option ErrorKind) → starter ≡ Waiting → IsNoticed starter (after_notice fault Waiting) (notify_starter fault ∷ [])
noticed Waiting fault same = record { notice = (fault, refl); starter = refl }
noticed Absent fault same = absurd cc
noticed Told fault same = absurd cc
noticed Gone fault same = absurd cc

pub noticed_silent : {before after : Starter} (calls : List SystemCall) → IsNoticed before after calls → IsSilent calls
noticed_silent {before} calls is = notice_silent before calls is.notice

-- the byte for the starter, and then the waits
pub notice_then : {Own : ℕ → Type 0} {To : ℕ → List ℕ → Type 0} {before between after : Starter} {failed : Bool} (first second : List SystemCall) → IsNoticed before between first → AreWaits Own To between after failed second
    → IsWait Own To before after failed (second ++ first)
notice_then {Own} {To} {after = after} {failed = failed} first second p q = record {
  notice = first;
  waits = second;
  are = refl;
  noticed = p.notice;
  waited = subst (λ (s : Starter). AreWaits Own To s after failed second) p.starter q;
}

-- waits, and then a turn that names something ..
pub named_then : {Own : ℕ → Type 0} {To : ℕ → List ℕ → Type 0} {before between : Starter} (after : Starter) (first second : List SystemCall) → AreWaits Own To before between false first → (second ≡ []) × (after ≡ between) → AreWaits Own To before after false (second ++ first)
named_then {Own} {To} {before = before} after first second p q =
    subst (λ (calls : List SystemCall). AreWaits Own To before after false (calls ++ first)) (sym q.0) (subst (λ (s : Starter). AreWaits Own To before s false first) (sym q.1) p)

-- .. the net fails after 2^64 - 1 calls, too
pub many_fail : {Own : ℕ → Type 0} {To : ℕ → List ℕ → Type 0} {before after : Starter} (calls : List SystemCall) → AreWaits Own To before after false calls → 2 ^ 64 - 1 ≤ length calls → AreWaits Own To before after true calls
many_fail calls p many = record { each = p.each; starter = p.starter; failure = inr many }

-- .. one turn more
pub again_then : {Own : ℕ → Type 0} {To : ℕ → List ℕ → Type 0} {before between after : Starter} (turns : ℕ) (first second : List SystemCall) → AreWaits Own To before between false first × (turns ≤ length first) → AreWaits Own To between after false second × (1 ≤ length second)
    → AreWaits Own To before after false (second ++ first) × (turns + 1 ≤ length (second ++ first))
again_then {Own} {To} turns first second p q = (waits_then Own To false first second p.0 q.0, omega (arith, p.1, q.1, length-append second first))

-- the turn of a wait that was made: it is known of the starter what the reports say
pub asked_once : {Own : ℕ → Type 0} {To : ℕ → List ℕ → Type 0} {before after : Starter} {nanos : Option ℕ} (reports : List Report) → after ≡ after_reports reports before → AreWaits Own To before after false (wait reports nanos None ∷ [])
asked_once {nanos = nanos} reports same = record { each = (inr (reports, nanos, None, refl), tt); starter = same; failure = refl }

-- .. and of one that was refused
pub asked_in_vain : {Own : ℕ → Type 0} {To : ℕ → List ℕ → Type 0} {before : Starter} {nanos : Option ℕ} (reports : List Report) (kind : ErrorKind) → reports ≡ [] → AreWaits Own To before before true (wait reports nanos (Some kind) ∷ [])
    × (has_failed_wait (take 1 (wait reports nanos (Some kind) ∷ [])) ≡ true)
asked_in_vain {before = before} {nanos = nanos} reports kind none = (record { each = (inr (reports, nanos, Some kind, refl), tt); starter = sym (ap (λ (rs : List Report). after_reports rs before) none); failure = inl refl }, refl)

-- what is asked for reports, after a wait
pub noted_then : {Own : ℕ → Type 0} {To : ℕ → List ℕ → Type 0} {before after : Starter} (first second : List SystemCall) → AreWaits Own To before after false first × (1 ≤ length first) → AreNoteCalls Own To second
    → AreWaits Own To before after false (second ++ first) × (1 ≤ length (second ++ first))
noted_then {Own} {To} {after = after} first second p q = (waits_then Own To false first second p.0 (notes_are_waits Own To after second q), omega (arith, p.1, length-append second first))

-- what is named is no end and no failure
pub not_quiet : {T L : Type 0} (a b : SocketSet T L) (answer : Ready) → IsWished a b answer → answer ≡ Quiet → ⊥
not_quiet a b (IsListener listener) wished e = cc
not_quiet a b (IsLink link) wished e = cc
not_quiet a b Quiet wished e = wished
not_quiet a b WaitFailed wished e = wished

pub named_succeeds : {T L : Type 0} (a b : SocketSet T L) (answer : Ready) → IsWished a b answer → is_failed answer ≡ false
named_succeeds a b (IsListener listener) wished = refl
named_succeeds a b (IsLink link) wished = refl
named_succeeds a b Quiet wished = refl
named_succeeds a b WaitFailed wished = absurd wished

pub not_true : (b : Bool) → (b ≡ true → ⊥) → b ≡ false
not_true true never = absurd (never refl)
not_true false never = refl
