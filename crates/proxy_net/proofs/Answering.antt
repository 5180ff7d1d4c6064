-- What the net answered, among the calls of its system.
use Rattle.std.proofs.Common.{ℕ, zero, suc, ◌≡◌, ◌+◌, ◌≤◌, ◌<◌, inl, inr, nat_eq, nat_lt, bytes_eq, ◌&&◌, ◌||◌, length, take, slice_get, vec_len, Bool, true, false, List, [], ◌∷◌, ◌++◌, Option, Some, None, Result, Ok, Err, IfOk, OnOk, OnErr, refl, sym, subst, ap, ap₂, ◌∙◌, arith}
use Rattle.link_traits.specs.declared.links.Count.{Count}
use Rattle.link_traits.specs.declared.links.Link.{Link}
use Rattle.link_traits.specs.declared.links.NetFault.{NetFault}
use Rattle.link_traits.specs.declared.links.NetFault.TheVariants.{Failed as FaultFailed, Memory as FaultMemory}
use Rattle.link_traits.specs.declared.links.Accepted.{Accepted}
use Rattle.link_traits.specs.declared.links.Accepted.TheVariants.{New, NotReady as AcceptNotReady, Failed as AcceptFailed, Memory}
use Rattle.link_traits.specs.declared.links.Got.{Got}
use Rattle.link_traits.specs.declared.links.Got.TheVariants.{Bytes as GotBytes, Finished, NotReady as ReadNotReady, Failed as ReadFailed}
use Rattle.link_traits.specs.declared.links.Took.{Took}
use Rattle.link_traits.specs.declared.links.Took.TheVariants.{Bytes as TookBytes, NotReady as WriteNotReady, Failed as WriteFailed}
use Rattle.link_traits.specs.Entries.{Entry}
use Rattle.link_traits.specs.Journals.{Journal, accepts, accepts_by, listens, listens_by}
use Rattle.link_traits.specs.Answers.{listen_entry, accept_entry, connect_entry, read_entry, write_entry}
use Rattle.link_traits.specs.Views.{Adds}
use Rattle.proxy_net.specs.Answers.{answers_by, answers_in, net_journal, IsCounted, IsUnanswered}
use Rattle.std.proofs.lemmas.Bool.Decides.{nat_tests}
use Rattle.std.proofs.lemmas.List.Folds.{list_any-append}
use Rattle.std.proofs.lemmas.Slice.Eq.{bytes_eq-Decides}
use Rattle.proxy_net.specs.Registering.{listeners_from}
use Rattle.proxy_net.specs.Sockets.{GoesOn, Grows, IsConsistent, AreBound, count_in, path_in, path_at, sessions_after, shown}
use Rattle.proxy_net.specs.Files.{removal}
use Rattle.proxy_net.specs.Steps.{Steps, IsSilent, IsAnswered, AreRemovals, IsListen, IsAccept, IsConnected, IsConnect, AreInterrupted, IsReadCall, IsRead, IsPolled, IsWrite, IsShut, IsFileRemoval, IsMadeRemoval, IsClearing, IsBindCall, IsBoundAndAwaited, IsUndone, IsOpened, IsPrepare}
use Rattle.proxy_net.specs.SystemCalls.{SystemCall, Tells, bind, await_clients, identify, open_starter, answered, is_bind, was_bound}
use Rattle.std.specs.declared.io.ErrorKind.{ErrorKind}
use Rattle.std.specs.declared.io.ErrorKind.TheVariants.{WouldBlock, ConnectionReset}
use Rattle.proxy_net.specs.declared.bound_files.BoundFile.{BoundFile}
use Rattle.proxy_net.specs.declared.bound_files.FoundFile.{FoundFile}
use Rattle.proxy_net.specs.declared.starters.Starter.{Starter}
use Rattle.proxy_net.specs.declared.listeners.ListenerSocket.{ListenerSocket}
use Rattle.proxy_net.specs.declared.sockets.SocketSet.{SocketSet}
use Rattle.std.proofs.lemmas.List.{append_assoc}
use Rattle.proxy_net.proofs.Telling.{steps_none, steps_one, steps_through, steps_then}

answers_append : (a b : List SystemCall) → answers_in (a ++ b) ≡ answers_in a ++ answers_in b
answers_append [] b = refl
answers_append (call ∷ a) b = ap (λ (answers : Journal). answers_by call ++ answers) (answers_append a b) ∙ sym (append_assoc (answers_by call) (answers_in a) (answers_in b))

silent_as : {calls known : List SystemCall} → calls ≡ known → IsSilent known → IsSilent calls
silent_as e s = ap answers_in e ∙ s

-- what is asked in silence, one after the other
pub silent_none : (j : Option (List SystemCall)) → Steps IsSilent j j
silent_none j = steps_none j refl

pub silent_one : {a b : Option (List SystemCall)} {call : SystemCall} → Tells a b (call ∷ []) → answers_by call ≡ [] → Steps IsSilent a b
silent_one {call = call} t none = steps_one (call ∷ []) t (ap (λ (answers : Journal). answers ++ []) none)

pub silent_through : {a b c : Option (List SystemCall)} → Steps IsSilent a b → Steps IsSilent b c → Steps IsSilent a c
silent_through p q = steps_through (λ first second f s. answers_append second first ∙ ap₂ (λ (x y : Journal). x ++ y) s f) p q

-- the answers in a journal are the same after calls that hold none
same_answers : {a b : Option (List SystemCall)} → Steps IsSilent a b → (after : List SystemCall) → b ≡ Some after → (before : List SystemCall) × (a ≡ Some before) × (answers_in after ≡ answers_in before)
same_answers s after e =
    let x = s.told after e in
    (x.0, x.2, ap answers_in x.3 ∙ answers_append x.1 x.0 ∙ ap (λ (answers : Journal). answers ++ answers_in x.0) x.4)

removal_silent : (wanted : Bool) (path : List ℕ) (found : Option FoundFile) → IsSilent (removal wanted path ++ identify path found ∷ [])
removal_silent true path found = refl
removal_silent false path found = refl

made_silent : (path : List ℕ) (made : Option FoundFile) (calls : List SystemCall) → IsMadeRemoval path made calls → IsSilent calls
made_silent path None calls is = silent_as is refl
made_silent path (Some file) calls is = silent_as is.1 (removal_silent _ path is.0)

file_silent : (file : Option BoundFile) (calls : List SystemCall) → IsFileRemoval file calls → IsSilent calls
file_silent None calls is = silent_as is refl
file_silent (Some file) calls is = silent_as is.1 (removal_silent _ _ is.0)

pub removals_silent : (files : List (Option BoundFile)) (calls : List SystemCall) → AreRemovals files calls → IsSilent calls
removals_silent [] calls are = silent_as are refl
removals_silent (file ∷ files) calls are = silent_as are.2 (answers_append are.1 are.0 ∙ ap₂ (λ (x y : Journal). x ++ y) (removals_silent files are.1 are.4) (file_silent file are.0 are.3))

clearing_silent : (replaces : Bool) (path : List ℕ) (calls : List SystemCall) → IsClearing replaces path calls → IsSilent calls
clearing_silent true path calls is = silent_as is.1 (removal_silent _ path is.0)
clearing_silent false path calls is = silent_as is refl

bind_silent : {number : ℕ} {path : List ℕ} {replaces : Bool} {fault : Option ErrorKind} (calls : List SystemCall) → IsBindCall number path replaces fault calls → IsSilent calls
bind_silent {path = path} {replaces = replaces} calls is = silent_as is.are (clearing_silent replaces path is.cleared is.clearing)

awaited_silent : {number : ℕ} {path : List ℕ} {replaces : Bool} {found : Option FoundFile} {fault : Option ErrorKind} (calls : List SystemCall) → IsBoundAndAwaited number path replaces found fault calls → IsSilent calls
awaited_silent calls is = silent_as is.are (bind_silent is.bound is.binding)

undone_silent : {number : ℕ} {path : List ℕ} {replaces : Bool} {fault : Option ErrorKind} (calls : List SystemCall) → IsUndone number path replaces fault calls → IsSilent calls
undone_silent {path = path} calls is = silent_as is.are (answers_append is.removed is.awaited ∙ ap₂ (λ (x y : Journal). x ++ y) (made_silent path is.found is.removed is.removing) (awaited_silent is.awaited is.awaiting))

pub listen_silent : (number : ℕ) (path : List ℕ) (replaces : Bool) (answer : Result ℕ NetFault) (calls : List SystemCall) → IsListen number path replaces answer calls → IsSilent calls
listen_silent number path replaces (Ok listener) calls is = awaited_silent calls is.1
listen_silent number path replaces (Err FaultFailed) calls is = elim is [
  | inl none ↦ silent_as none.0 refl
  | inr some ↦ elim some [
    | inl refused ↦ bind_silent calls refused.1
    | inr undone ↦ undone_silent calls undone.1
  ]
]
listen_silent number path replaces (Err FaultMemory) calls is = elim is [
  | inl none ↦ silent_as none refl
  | inr undone ↦ undone_silent calls undone
]

pub opened_silent : (present : Bool) (descriptor : ℕ) (result : Result (Unit {0}) NetFault) (calls : List SystemCall) → IsOpened present descriptor result calls → IsSilent calls
opened_silent false descriptor (Ok done) calls is = silent_as is refl
opened_silent false descriptor (Err FaultFailed) calls is = silent_as is.1 refl
opened_silent false descriptor (Err FaultMemory) calls is = absurd is
opened_silent true descriptor (Ok done) calls is = absurd is
opened_silent true descriptor (Err FaultFailed) calls is = silent_as is refl
opened_silent true descriptor (Err FaultMemory) calls is = absurd is

pub prepare_silent : (present : Bool) (starter : Option ℕ) (result : Result (Unit {0}) NetFault) (calls : List SystemCall) → IsPrepare present starter result calls → IsSilent calls
prepare_silent present None (Ok done) calls is = silent_as is refl
prepare_silent present None (Err fault) calls is = absurd is
prepare_silent present (Some descriptor) result calls is = opened_silent present descriptor result calls is

-- nothing is opened beside a starter, and one pipe without one
pub second_refused : (present : Bool) (descriptor : ℕ) → present ≡ true → IsOpened present descriptor (Err FaultFailed) []
second_refused true descriptor same = refl
second_refused false descriptor same = absurd cc

pub first_opened : (present : Bool) (descriptor : ℕ) → present ≡ false → IsOpened present descriptor (Ok tt) (open_starter descriptor None ∷ [])
first_opened false descriptor same = refl
first_opened true descriptor same = absurd cc

pub first_refused : (present : Bool) (descriptor : ℕ) (kind : ErrorKind) → present ≡ false → IsOpened present descriptor (Err FaultFailed) (open_starter descriptor (Some kind) ∷ [])
first_refused false descriptor kind same = (kind, refl)
first_refused true descriptor kind same = absurd cc

pub accept_silent : (place listeners sessions : ℕ) (answer : Accepted) (calls : List SystemCall) → IsAccept place listeners sessions answer calls → IsSilent calls
accept_silent place listeners sessions (New session) calls is = silent_as is refl
accept_silent place listeners sessions AcceptNotReady calls is = elim is [
  | inl waits ↦ silent_as waits refl
  | inr interrupted ↦ silent_as interrupted refl
]
accept_silent place listeners sessions AcceptFailed calls is = elim is [
  | inl none ↦ silent_as none.0 refl
  | inr asked ↦ silent_as asked.1 refl
]
accept_silent place listeners sessions Memory calls is = elim is [
  | inl none ↦ silent_as none refl
  | inr asked ↦ silent_as asked refl
]

connected_silent : (number : ℕ) (path : List ℕ) (calls : List SystemCall) → IsConnected number path calls → IsSilent calls
connected_silent number path calls is = elim is [
  | inl made ↦ silent_as made refl
  | inr later ↦ elim later [
    | inl waits ↦ silent_as waits refl
    | inr interrupted ↦ silent_as interrupted refl
  ]
]

pub connect_silent : (number : ℕ) (path : List ℕ) (taken : Bool) (answer : Result (Unit {0}) NetFault) (calls : List SystemCall) → IsConnect number path taken answer calls → IsSilent calls
connect_silent number path taken (Ok done) calls is = connected_silent number path calls is
connect_silent number path taken (Err FaultFailed) calls is = elim is [
  | inl none ↦ silent_as none.0 refl
  | inr asked ↦ silent_as asked.1 refl
]
connect_silent number path taken (Err FaultMemory) calls is = elim is [
  | inl none ↦ silent_as none refl
  | inr asked ↦ connected_silent number path calls asked
]

interrupted_silent : (number : ℕ) (calls : List SystemCall) → AreInterrupted number calls → IsSilent calls
interrupted_silent number [] are = refl
interrupted_silent number (call ∷ before) are = ap₂ (λ (x y : Journal). x ++ y) (ap answers_by are.0) (interrupted_silent number before are.1)

read_call_silent : (number : ℕ) (answer : Result (List ℕ) ErrorKind) (calls : List SystemCall) → IsReadCall number answer calls → IsSilent calls
read_call_silent number answer calls is = silent_as is.are (interrupted_silent number is.interrupted is.again)

pub read_silent : (opened : Bool) (number : ℕ) (into : List ℕ) (got : Got) (calls : List SystemCall) → IsRead opened number into got calls → IsSilent calls
read_silent true number into (GotBytes n) calls is = read_call_silent number (Ok (take n into)) calls is
read_silent true number into Finished calls is = elim is [
  | inl ended ↦ read_call_silent number (Ok []) calls ended.0
  | inr reset ↦ read_call_silent number (Err ConnectionReset) calls reset
]
read_silent true number into ReadNotReady calls is = read_call_silent number (Err WouldBlock) calls is
read_silent true number into ReadFailed calls is = elim is [
  | inl refused ↦ read_call_silent number (Err refused.0) calls refused.2
  | inr many ↦ interrupted_silent number calls many.0
]
read_silent false number into (GotBytes n) calls is = absurd is
read_silent false number into Finished calls is = absurd is
read_silent false number into ReadNotReady calls is = silent_as is refl
read_silent false number into ReadFailed calls is = silent_as is refl

-- a link that isn't ready, and would fail without a stream, has one that was read
pub read_polled : (opened : Bool) (number : ℕ) (into : List ℕ) (got : Got) → (opened ≡ false → got ≡ ReadFailed) → got ≡ ReadNotReady → (calls : List SystemCall) → IsRead opened number into got calls → IsPolled number calls
read_polled true number into ReadNotReady fails waits calls is = is
read_polled true number into (GotBytes n) fails waits calls is = absurd cc
read_polled true number into Finished fails waits calls is = absurd cc
read_polled true number into ReadFailed fails waits calls is = absurd cc
read_polled false number into got fails waits calls is = absurd (let no : ReadNotReady ≡ ReadFailed = sym waits ∙ fails refl in cc)

pub write_silent : (number : ℕ) (piece : List ℕ) (took : Took) (calls : List SystemCall) → IsWrite number piece took calls → IsSilent calls
write_silent number piece (TookBytes n) calls is = silent_as is refl
write_silent number piece WriteNotReady calls is = elim is [
  | inl none ↦ silent_as none refl
  | inr some ↦ elim some [
    | inl refused ↦ silent_as refused.2 refl
    | inr awaited ↦ silent_as awaited refl
  ]
]
write_silent number piece WriteFailed calls is = elim is [
  | inl none ↦ silent_as none refl
  | inr some ↦ elim some [
    | inl nothing ↦ silent_as nothing refl
    | inr more ↦ elim more [
      | inl refused ↦ silent_as refused.2 refl
      | inr unwatched ↦ silent_as unwatched.1 refl
    ]
  ]
]

pub shut_silent : (has_stream : Bool) (number : ℕ) (calls : List SystemCall) → IsShut has_stream number calls → IsSilent calls
shut_silent true number calls is = silent_as is refl
shut_silent false number calls is = silent_as is refl

-- an answer with bytes that are known by another name
pub told_as : {i j : Option (List SystemCall)} (entry : List ℕ → Entry) {bytes own : List ℕ} → bytes ≡ own → Tells i j (answered (entry bytes) ∷ []) → Tells i j (answered (entry own) ∷ [])
told_as {i} {j} entry same t = subst (λ (b : List ℕ). Tells i j (answered (entry b) ∷ [])) same t

-- what was asked, and then noted as the answer
pub asked_then_told : {P : List SystemCall → Type 0} {a b c : Option (List SystemCall)} (entry : Entry) → Steps P a b → Tells b c (answered entry ∷ []) → Steps (IsAnswered entry P) a c
asked_then_told entry s t = steps_then (answered entry ∷ []) s t (λ first p. (first, refl, p))

same_some : {A : Type 0} (a b : A) → Some a ≡ Some b → a ≡ b
same_some a b e = cc

module _ {T L : Type 0} (a b : SocketSet T L) where
  -- one answer is added to the journal, after calls that hold none
  pub told_one : {i j k : Option (List SystemCall)} (s t : Starter) (entry : Entry) → Steps IsSilent i j → Tells j k (answered entry ∷ []) → ((count : Count) → count_in a count ≤ count_in b count) → Adds (shown a i s) (shown b k t) (entry ∷ [])
  told_one {i} {j} {k} s t entry keeps tells counts = record { told = by k tells; counts = counts }
    where
      by : (now : Option (List SystemCall)) → Tells j now (answered entry ∷ []) → (after : Journal) → net_journal now ≡ Some after → (before : Journal) × (net_journal i ≡ Some before) × (after ≡ (entry ∷ []) ++ before)
      by None tells after e = absurd (let no : None ≡ Some after = e in cc)
      by (Some calls) tells after e =
          let y = tells.told calls refl in
          let x = same_answers keeps y.0 y.1 in
          let is : answers_in calls ≡ after = same_some (answers_in calls) after e in
          (answers_in x.0, ap net_journal x.1, sym is ∙ ap answers_in y.2 ∙ ap (λ (before : Journal). entry ∷ before) x.2)

  -- nothing is added
  pub told_none : (s t : Starter) (i : Option (List SystemCall)) → ((count : Count) → count_in a count ≤ count_in b count) → Adds (shown a i s) (shown b i t) []
  told_none s t i counts = record { told = λ after e. (after, e, refl); counts = counts }

  -- .. nor by calls that hold no answer
  pub told_silent : {i k : Option (List SystemCall)} (s t : Starter) → Steps IsSilent i k → ((count : Count) → count_in a count ≤ count_in b count) → Adds (shown a i s) (shown b k t) []
  told_silent {i} {k} s t keeps counts = record { told = by k keeps; counts = counts }
    where
      by : (now : Option (List SystemCall)) → Steps IsSilent i now → (after : Journal) → net_journal now ≡ Some after → (before : Journal) × (net_journal i ≡ Some before) × (after ≡ [] ++ before)
      by None keeps after e = absurd (let no : None ≡ Some after = e in cc)
      by (Some calls) keeps after e =
          let x = same_answers keeps calls refl in
          let is : answers_in calls ≡ after = same_some (answers_in calls) after e in
          (answers_in x.0, ap net_journal x.1, sym is ∙ x.2)

  pub consistent_goes : GoesOn a b → IsConsistent a → IsConsistent b
  consistent_goes p is = record {
    links = λ link. p.links link (is.links link);
    listeners = λ listener. p.listeners listener (is.listeners listener);
    link_places = λ number below. p.link_places number below (is.link_places number below);
    listener_places = λ place below. p.listener_places place below (is.listener_places place below);
    link_tokens = λ number. p.link_tokens number (is.link_tokens number);
    listener_tokens = λ place. p.listener_tokens place (is.listener_tokens place);
    retries = λ number. p.retries number (is.retries number);
  }

  pub consistent_grows : Grows a b → IsConsistent a → IsConsistent b
  consistent_grows p is = record {
    links = λ link. p.links link (is.links link);
    listeners = λ listener. p.listeners listener (is.listeners listener);
    link_places = λ number below. p.link_places number below (is.link_places number below);
    listener_places = λ place below. p.listener_places place below (is.listener_places place below);
    link_tokens = λ number. p.link_tokens number (is.link_tokens number);
    listener_tokens = λ place. p.listener_tokens place (is.listener_tokens place);
    retries = λ number. p.retries number (is.retries number);
  }

-- the counts stay right if no answer is added ..
pub counted_kept : {i j : Option (List SystemCall)} {listeners sessions new_listeners new_sessions : ℕ} → IsCounted i listeners sessions → Steps IsSilent i j → new_listeners ≡ listeners → new_sessions ≡ sessions → IsCounted j new_listeners new_sessions
counted_kept counted keeps l s = record {
  told = λ after e.
      let x = same_answers keeps after e in
      let h = counted.told x.0 x.1 in
      (l ∙ h.0 ∙ ap listens (sym x.2), s ∙ h.1 ∙ ap accepts (sym x.2));
}

-- .. and grows by what one answer made
pub counted_one : {i j k : Option (List SystemCall)} {listeners sessions new_listeners new_sessions : ℕ} (entry : Entry) → IsCounted i listeners sessions → Steps IsSilent i j → Tells j k (answered entry ∷ [])
    → new_listeners ≡ listeners + listens_by entry → new_sessions ≡ sessions + accepts_by entry → IsCounted k new_listeners new_sessions
counted_one entry counted keeps t l s = record {
  told = λ after e.
      let y = t.told after e in
      let x = same_answers keeps y.0 y.1 in
      let h = counted.told x.0 x.1 in (
        l ∙ ap (λ n. n + listens_by entry) (h.0 ∙ ap listens (sym x.2)) ∙ ap (λ (calls : List SystemCall). listens (answers_in calls)) (sym y.2),
        s ∙ ap (λ n. n + accepts_by entry) (h.1 ∙ ap accepts (sym x.2)) ∙ ap (λ (calls : List SystemCall). accepts (answers_in calls)) (sym y.2),
      );
}

-- .. so not by one that made nothing
pub counted_same : {i j k : Option (List SystemCall)} {listeners sessions new_listeners new_sessions : ℕ} (entry : Entry) → IsCounted i listeners sessions → Steps IsSilent i j → Tells j k (answered entry ∷ [])
    → (listens_by entry ≡ 0) × (accepts_by entry ≡ 0) → new_listeners ≡ listeners → new_sessions ≡ sessions → IsCounted k new_listeners new_sessions
counted_same entry counted keeps t none l s = counted_one entry counted keeps t (omega (arith, none.0, l)) (omega (arith, none.1, s))

-- nothing is counted over a system that tells no answer yet
pub counted_none : {i : Option (List SystemCall)} {listeners sessions : ℕ} → IsUnanswered i → listeners ≡ 0 → sessions ≡ 0 → IsCounted i listeners sessions
counted_none unanswered l s = record { told = λ before e. let none = unanswered.told before e in (l ∙ ap listens (sym none), s ∙ ap accepts (sym none)) }

pub listens_counted : (i : Option (List SystemCall)) {listeners sessions : ℕ} → IsCounted i listeners sessions → (before : Journal) → net_journal i ≡ Some before → listeners ≡ listens before
listens_counted None counted before e = absurd (let no : None ≡ Some before = e in cc)
listens_counted (Some calls) counted before e = (counted.told calls refl).0 ∙ ap listens (same_some (answers_in calls) before e)

pub accepts_counted : (i : Option (List SystemCall)) {listeners sessions : ℕ} → IsCounted i listeners sessions → (before : Journal) → net_journal i ≡ Some before → sessions ≡ accepts before
accepts_counted None counted before e = absurd (let no : None ≡ Some before = e in cc)
accepts_counted (Some calls) counted before e = (counted.told calls refl).1 ∙ ap accepts (same_some (answers_in calls) before e)

pub listener_numbered : (i : Option (List SystemCall)) {listeners sessions : ℕ} (answer : Result ℕ NetFault) → IsCounted i listeners sessions → IfOk answer (λ listener. listener ≡ listeners)
    → IfOk answer (λ listener. (before : Journal) → net_journal i ≡ Some before → listener ≡ listens before)
listener_numbered i (Ok listener) counted same = λ before e. same ∙ listens_counted i counted before e
listener_numbered i (Err fault) counted same = same

-- a listen makes one listener if it succeeds, and an accept a session
pub listen_makes : (path : List ℕ) (answer : Result ℕ NetFault) (listeners new_listeners : ℕ) → OnOk answer (new_listeners ≡ listeners + 1) → OnErr answer (new_listeners ≡ listeners)
    → (new_listeners ≡ listeners + listens_by (listen_entry path answer)) × (accepts_by (listen_entry path answer) ≡ 0)
listen_makes path (Ok listener) listeners new_listeners made same = (made, refl)
listen_makes path (Err FaultFailed) listeners new_listeners made same = (let e : new_listeners ≡ listeners + 0 = omega (arith, same) in e, refl)
listen_makes path (Err FaultMemory) listeners new_listeners made same = (let e : new_listeners ≡ listeners + 0 = omega (arith, same) in e, refl)

pub accept_makes : (listener : ℕ) (answer : Accepted) (sessions new_sessions : ℕ) → ((session : ℕ) → answer ≡ New session → (session ≡ sessions + 1) × (new_sessions ≡ session)) → new_sessions ≡ sessions_after answer sessions
    → (listens_by (accept_entry listener answer) ≡ 0) × (new_sessions ≡ sessions + accepts_by (accept_entry listener answer))
accept_makes listener (New session) sessions new_sessions numbered after = (refl, let n = numbered session refl in n.1 ∙ n.0)
accept_makes listener AcceptNotReady sessions new_sessions numbered after = (refl, let e : new_sessions ≡ sessions + 0 = omega (arith, after) in e)
accept_makes listener AcceptFailed sessions new_sessions numbered after = (refl, let e : new_sessions ≡ sessions + 0 = omega (arith, after) in e)
accept_makes listener Memory sessions new_sessions numbered after = (refl, let e : new_sessions ≡ sessions + 0 = omega (arith, after) in e)

pub connect_makes : (session : ℕ) (path : List ℕ) (answer : Result (Unit {0}) NetFault) → (listens_by (connect_entry session path answer) ≡ 0) × (accepts_by (connect_entry session path answer) ≡ 0)
connect_makes session path (Ok done) = (refl, refl)
connect_makes session path (Err FaultFailed) = (refl, refl)
connect_makes session path (Err FaultMemory) = (refl, refl)

pub read_makes : (link : Link) (into : List ℕ) (got : Got) → (listens_by (read_entry link into got) ≡ 0) × (accepts_by (read_entry link into got) ≡ 0)
read_makes link into (GotBytes n) = (refl, refl)
read_makes link into Finished = (refl, refl)
read_makes link into ReadNotReady = (refl, refl)
read_makes link into ReadFailed = (refl, refl)

pub write_makes : (link : Link) (piece : List ℕ) (took : Took) → (listens_by (write_entry link piece took) ≡ 0) × (accepts_by (write_entry link piece took) ≡ 0)
write_makes link piece (TookBytes n) = (refl, refl)
write_makes link piece WriteNotReady = (refl, refl)
write_makes link piece WriteFailed = (refl, refl)

-- a bind stays among more calls
was_later : (number : ℕ) (path : List ℕ) (calls before : List SystemCall) → was_bound number path before ≡ true → was_bound number path (calls ++ before) ≡ true
was_later number path calls before was = list_any-append (is_bind number path) calls before ∙ by (was_bound number path calls) (was_bound number path before) was
  where
    by : (x y : Bool) → y ≡ true → x || y ≡ true
    by true y e = refl
    by false y e = e

was_earlier : (number : ℕ) (path : List ℕ) (calls before : List SystemCall) → was_bound number path calls ≡ true → was_bound number path (calls ++ before) ≡ true
was_earlier number path calls before was = list_any-append (is_bind number path) calls before ∙ by (was_bound number path calls) (was_bound number path before) was
  where
    by : (x y : Bool) → x ≡ true → x || y ≡ true
    by true y e = refl
    by false y e = cc

own_bind : (number : ℕ) (path : List ℕ) → is_bind number path (bind number path None) ≡ true
own_bind number path = by (nat_eq number number) (bytes_eq path path) (grind (arith, nat_tests)) ((bytes_eq-Decides path path).1 refl)
  where
    by : (x y : Bool) → x ≡ true → y ≡ true → x && y ≡ true
    by true y e f = f
    by false y e f = cc

-- a file that is there belongs to a listener
file_there : {L : Type 0} (listeners : List (ListenerSocket L)) (place : ℕ) (path : List ℕ) → path_in (slice_get listeners place) ≡ Some path → place < length listeners
file_there [] place path at = absurd (let no : None ≡ Some path = at in cc)
file_there (listener ∷ listeners) zero path at = omega arith
file_there (listener ∷ listeners) (suc place) path at = let below = file_there listeners place path at in omega (arith, below)

module _ {T L : Type 0} (a b : SocketSet T L) where
  -- which bind made a file stays known if no listener is made ..
  pub bound_kept : {P : List SystemCall → Type 0} {i k : Option (List SystemCall)} → Steps P i k → vec_len b.listeners ≡ vec_len a.listeners
      → ((place : ℕ) (path : List ℕ) → place < vec_len a.listeners → path_at b place ≡ Some path → path_at a place ≡ Some path) → AreBound i a → AreBound k b
  bound_kept s number files bound = record {
    told = λ after e place path at.
        let x = s.told after e in
        let below = file_there b.listeners.items place path at in
        let was = bound.told x.0 x.2 place path (files place path (grind (arith, below, number)) at) in
        ap (was_bound (listeners_from + place) path) x.3 ∙ was_later (listeners_from + place) path x.1 x.0 was;
  }

  -- .. and if one is
  pub bound_more : {i k : Option (List SystemCall)} (entry : Entry) (path : List ℕ) (replaces : Bool) (answer : Result ℕ NetFault) → Steps (IsAnswered entry (IsListen (listeners_from + vec_len a.listeners) path replaces answer)) i k
      → OnOk answer (vec_len b.listeners ≡ vec_len a.listeners + 1) → OnErr answer (vec_len b.listeners ≡ vec_len a.listeners)
      → ((own : List ℕ) → path_at b (vec_len a.listeners) ≡ Some own → own ≡ path)
      → ((place : ℕ) (own : List ℕ) → place < vec_len a.listeners → path_at b place ≡ Some own → path_at a place ≡ Some own) → AreBound i a → AreBound k b
  bound_more entry path replaces (Err fault) s made same file files bound = bound_kept s same files bound
  bound_more {i} {k} entry path replaces (Ok listener) s made same file files bound = record { told = λ after e place own at. by after e place own at (nat_lt place (vec_len a.listeners)) refl }
    where
      by : (after : List SystemCall) → k ≡ Some after → (place : ℕ) (own : List ℕ) → path_at b place ≡ Some own → (less : Bool) → nat_lt place (vec_len a.listeners) ≡ less → was_bound (listeners_from + place) own after ≡ true
      by after e place own at true less =
          let x = s.told after e in
          let was = bound.told x.0 x.2 place own (files place own (grind (arith, nat_tests, less)) at) in
          ap (was_bound (listeners_from + place) own) x.3 ∙ was_later (listeners_from + place) own x.1 x.0 was
      by after e place own at false less =
          let x = s.told after e in
          let below = file_there b.listeners.items place own at in
          let last : place ≡ vec_len a.listeners = grind (arith, nat_tests, less, below, made) in
          let is : own ≡ path = file own (subst (λ n. path_at b n ≡ Some own) last at) in
          let own_call = ap₂ (λ (n : ℕ) (p : List ℕ). is_bind (listeners_from + n) p (bind (listeners_from + vec_len a.listeners) path None)) last is ∙ own_bind (listeners_from + vec_len a.listeners) path in
          let awaited = x.4.2.1 in
          let calls = x.4.1 ∙ ap (λ (asked : List SystemCall). answered entry ∷ asked) (awaited.are ∙ ap (λ (bound : List SystemCall). await_clients (listeners_from + vec_len a.listeners) None ∷ identify path x.4.2.0 ∷ bound) awaited.binding.are) in
          let among = ap (was_bound (listeners_from + place) own) calls ∙ ap (λ (found : Bool). found || was_bound (listeners_from + place) own awaited.binding.cleared) own_call in
          ap (was_bound (listeners_from + place) own) x.3 ∙ was_earlier (listeners_from + place) own x.1 x.0 among

-- no listener has a file yet
pub bound_none : {T L : Type 0} (i : Option (List SystemCall)) (a : SocketSet T L) → vec_len a.listeners ≡ 0 → AreBound i a
bound_none i a none = record { told = λ before e place path at. let below = file_there a.listeners.items place path at in absurd (grind (arith, below, none)) }
