-- What a listen and an accept ask of the system, one call after the other.
use Rattle.std.proofs.Common.{ℕ, zero, suc, OnOk, ◌≡◌, ◌≢◌, ◌<◌, ◌≤◌, ◌+◌, ◌⊎◌, inl, inr, nat_eq, Bool, true, false, append-nil, length, map, take, unwrap_or, List, [], ◌∷◌, ◌++◌, Option, Some, None, Result, Ok, Err, slice_get, refl, sym, ap, ap₂, subst, ◌∙◌, arith}
use Rattle.std.specs.Option.{option_map}
use Rattle.std.specs.String.{string_bytes}
use Rattle.std.specs.declared.time.Instant.{Instant}
use Rattle.std.specs.declared.io.ErrorKind.{ErrorKind}
use Rattle.std.specs.declared.io.ErrorKind.TheVariants.{WouldBlock, Interrupted}
use Rattle.std.proofs.lemmas.Bool.Decides.{nat_tests}
use Rattle.link_traits.specs.declared.links.NetFault.{NetFault}
use Rattle.link_traits.specs.declared.links.NetFault.TheVariants.{Failed as FaultFailed, Memory as FaultMemory}
use Rattle.link_traits.specs.declared.links.Accepted.{Accepted}
use Rattle.link_traits.specs.declared.links.Accepted.TheVariants.{New, NotReady as AcceptNotReady, Failed as AcceptFailed, Memory}
use Rattle.link_traits.specs.Answers.{client_link}
use Rattle.link_traits.specs.Numbers.{number_of}
use Rattle.proxy_net.specs.SystemCalls.{SystemCall, bind, await_clients, accept, identify, Tells}
use Rattle.proxy_net.specs.Steps.{Steps, IsBind, IsBindCall, IsClearing, IsFileKept, IsAwait, IsCleanUp, IsListen, IsNobody, IsArrival, IsArrivalAt, IsAccept, next_client, IsRemoval, IsFileRemoval, AreRemovals, IsRetryOf, IsRetryIn, IsRetryBy, IsRetryAs}
use Rattle.proxy_net.specs.Registering.{is_own_listener, listeners_from}
use Rattle.proxy_net.specs.declared.listeners.Arrival.{Arrival}
use Rattle.proxy_net.specs.declared.listeners.Arrival.TheVariants.{Client, NotReady as NobodyCame, Failed as ArrivalFailed}
use Rattle.proxy_net.specs.declared.listeners.ListenerSocket.{ListenerSocket}
use Rattle.proxy_net.specs.Files.{removal, is_replaceable}
use Rattle.proxy_net.specs.Sockets.{file_in}
use Rattle.proxy_net.specs.declared.bound_files.BoundFile.{BoundFile}
use Rattle.proxy_net.specs.declared.bound_files.FileIdentity.{FileIdentity}
use Rattle.proxy_net.specs.declared.bound_files.FoundFile.{FoundFile}
use Rattle.proxy_net.specs.declared.link_sockets.Connection.{Connection}
use Rattle.proxy_net.specs.declared.link_sockets.Connection.TheVariants.{Open, Pending, Failed}
use Rattle.proxy_net.specs.declared.link_sockets.Connected.{Connected}
use Rattle.proxy_net.specs.declared.link_sockets.Connected.TheVariants.{Before, Failed as Refused}
use Rattle.proxy_net.specs.declared.link_sockets.Retry.{Retry}
use Rattle.proxy_net.specs.Connecting.{is_pending}
use Rattle.proxy_net.specs.declared.system.Numbered.{Numbered}
use Rattle.proxy_net.proofs.Telling.{append_after, steps_none, steps_one, steps_then, steps_through}

joined : {first second known more : List SystemCall} → second ≡ more → first ≡ known → second ++ first ≡ more ++ known
joined s f = ap₂ (λ (x y : List SystemCall). x ++ y) s f

listened : (number : ℕ) (path : List ℕ) (replaces : Bool) (found : Option FoundFile) (answer : Result ℕ NetFault) (first second third : List SystemCall) → IsBindCall number path replaces None first → IsAwait number answer second → IsCleanUp path found answer third
    → IsListen number path replaces answer (third ++ (second ++ (identify path found ∷ first)))
listened number path replaces found (Ok listener) first second third bound awaited clean = (found, record { bound = first; are = joined clean (joined awaited refl); binding = bound })
listened number path replaces found (Err FaultFailed) first second third bound awaited clean =
    inr (inr (awaited.0, record { found = found; awaited = second ++ (identify path found ∷ first); removed = third; are = refl; awaiting = record { bound = first; are = joined awaited.1 refl; binding = bound }; removing = clean }))
listened number path replaces found (Err FaultMemory) first second third bound awaited clean =
    inr (record { found = found; awaited = second ++ (identify path found ∷ first); removed = third; are = refl; awaiting = record { bound = first; are = joined awaited refl; binding = bound }; removing = clean })

-- a bind, a look at its file, a wait for clients, and what is done if that fails
module _ {L : Type 0} {i j k l m : Option (List SystemCall)} (number : ℕ) (path : List ℕ) (replaces : Bool) (found : Option FoundFile) (socket : L) where
  pub listen_through : {R : List SystemCall → Type 0} (answer : Result ℕ NetFault) → ((first second third : List SystemCall) → IsBindCall number path replaces None first → IsAwait number answer second → IsCleanUp path found answer third → R (third ++ (second ++ (identify path found ∷ first))))
      → Steps (IsBind number path replaces (Some socket)) i j → Tells j k (identify path found ∷ []) → Steps (IsAwait number answer) k l → Steps (IsCleanUp path found answer) l m → Steps R i m
  listen_through answer join bound seen awaited clean = record {
    told = λ after e.
        let z = clean.told after e in
        let y = awaited.told z.0 z.2 in
        let n = seen.told y.0 y.2 in
        let x = bound.told n.0 n.1 in
        let rest = y.3 ∙ ap (λ (w : List SystemCall). y.1 ++ w) (n.2 ∙ ap (λ (w : List SystemCall). identify path found ∷ w) x.3) ∙ append_after y.1 (identify path found ∷ x.1) x.0 in
        (x.0, z.1 ++ (y.1 ++ (identify path found ∷ x.1)), x.2, z.3 ∙ ap (λ (w : List SystemCall). z.1 ++ w) rest ∙ append_after z.1 (y.1 ++ (identify path found ∷ x.1)) x.0, join x.1 y.1 z.1 x.4 y.4 z.4);
  }

  pub listen_steps : (answer : Result ℕ NetFault) → Steps (IsBind number path replaces (Some socket)) i j → Tells j k (identify path found ∷ []) → Steps (IsAwait number answer) k l → Steps (IsCleanUp path found answer) l m
      → Steps (IsListen number path replaces answer) i m
  listen_steps answer bound seen awaited clean = listen_through answer (listened number path replaces found answer) bound seen awaited clean

  -- .. and the file that is kept if it doesn't
  pub listen_keeps : (answer : Result ℕ NetFault) (made kept : Option BoundFile) → option_map (λ (file : BoundFile). file.identity) made ≡ option_map (λ (file : FoundFile). file.identity) found → OnOk answer (kept ≡ made)
      → Steps (IsBind number path replaces (Some socket)) i j → Tells j k (identify path found ∷ []) → Steps (IsAwait number answer) k l → Steps (IsCleanUp path found answer) l m → OnOk answer (Steps (IsFileKept number path replaces kept) i m)
  listen_keeps (Err fault) made kept same is bound seen awaited clean = tt
  listen_keeps (Ok listener) made kept same is bound seen awaited clean =
      listen_through (Ok listener)
      (λ first second third b a c. (found, record { bound = first; are = joined c (joined a refl); binding = b }, ap (λ (file : Option BoundFile). option_map (λ (f : BoundFile). f.identity) file) is ∙ same)) bound seen awaited clean

-- a file that is made of what was found has its identity
pub made_identity : (make : FoundFile → BoundFile) → ((file : FoundFile) → (make file).identity ≡ file.identity) → (found : Option FoundFile) (made : Option BoundFile) → made ≡ option_map make found
    → option_map (λ (file : BoundFile). file.identity) made ≡ option_map (λ (file : FoundFile). file.identity) found
made_identity make same None made is = ap (λ (o : Option BoundFile). option_map (λ (file : BoundFile). file.identity) o) is
made_identity make same (Some file) made is = ap (λ (o : Option BoundFile). option_map (λ (f : BoundFile). f.identity) o) is ∙ ap (λ (identity : FileIdentity). some_identity identity) (same file)
  where
    some_identity : FileIdentity → Option FileIdentity
    some_identity identity = Some identity

-- what is at a path is cleared, and then bound to
pub bound_then : {number : ℕ} {path : List ℕ} {replaces : Bool} {fault : Option ErrorKind} {i j k : Option (List SystemCall)} → Steps (IsClearing replaces path) i j → Tells j k (bind number path fault ∷ []) → Steps (IsBindCall number path replaces fault) i k
bound_then {number} {path} {fault = fault} s t = steps_then (bind number path fault ∷ []) s t (λ first p. record { cleared = first; are = refl; clearing = p })

-- a listener that is registered by the number of its place has that number
pub own_number : {L : Type 0} (listeners : List (ListenerSocket L)) (place : ℕ) (socket : ListenerSocket L) → slice_get listeners place ≡ Some socket → is_own_listener place (slice_get listeners place) ≡ true
    → socket.listener.number ≡ listeners_from + place
own_number listeners place socket found own =
    let same : nat_eq socket.listener.number (listeners_from + place) ≡ true = subst (λ (o : Option (ListenerSocket _)). is_own_listener place o ≡ true) found own in
    grind (arith, nat_tests, same)

-- a client that was taken, by what came of its session
pub arrived : (place listeners sessions number session : ℕ) (answer : Accepted) → number ≡ number_of (client_link session) → session ≡ sessions + 1 → answer ≢ AcceptNotReady → answer ≢ AcceptFailed → ((other : ℕ) → answer ≡ New other → other ≡ session) → (calls : List SystemCall)
    → calls ≡ accept (listeners_from + place) number None ∷ [] → IsAccept place listeners sessions answer calls
arrived place listeners sessions number session (New other) same next ready kept numbered calls is = is ∙ ap (λ n. accept (listeners_from + place) n None ∷ []) (same ∙ ap (λ s. number_of (client_link s)) (sym (numbered other refl)))
arrived place listeners sessions number session AcceptNotReady same next ready kept numbered calls is = absurd (ready refl)
arrived place listeners sessions number session AcceptFailed same next ready kept numbered calls is = absurd (kept refl)
arrived place listeners sessions number session Memory same next ready kept numbered calls is = inr (is ∙ ap (λ n. accept (listeners_from + place) n None ∷ []) (same ∙ ap (λ s. number_of (client_link s)) next))

-- nobody came to it
pub nobody_arrived : (place listeners sessions number : ℕ) → number ≡ next_client sessions → (calls : List SystemCall) → IsNobody (listeners_from + place) number calls → IsAccept place listeners sessions AcceptNotReady calls
nobody_arrived place listeners sessions number same calls is = subst (λ n. IsNobody (listeners_from + place) n calls) same is

-- one that failed
pub failed_arrival : (place listeners known sessions number : ℕ) → listeners ≡ known → number ≡ next_client sessions → (calls : List SystemCall)
    → ((calls ≡ []) × (listeners ≤ place)) ⊎ ((kind : ErrorKind) × (calls ≡ accept (listeners_from + place) number (Some kind) ∷ [])) → IsAccept place known sessions AcceptFailed calls
failed_arrival place listeners known sessions number counted same calls is = elim is [
  | inl none ↦ inl (none.0, inl (subst (λ n. n ≤ place) counted none.1))
  | inr refused ↦ inr (refused.0, refused.1 ∙ ap (λ n. accept (listeners_from + place) n (Some refused.0) ∷ []) same)
]

-- a client is taken at a listener that is there
pub arrived_at : {T : Type 0} (place listeners number : ℕ) (arrival : Arrival T) (calls : List SystemCall) → IsArrival (listeners_from + place) number arrival calls → IsArrivalAt place listeners number arrival calls
arrived_at place listeners number (Client stream) calls is = is
arrived_at place listeners number NobodyCame calls is = is
arrived_at place listeners number ArrivalFailed calls is = inr is

-- one that was refused
pub refused_arrival : {T : Type 0} (listener number : ℕ) (kind : ErrorKind) (arrival : Arrival T) → ((stream : Numbered T) → arrival ≡ Client stream → ⊥) → (arrival ≡ NobodyCame → (kind ≡ WouldBlock) ⊎ (kind ≡ Interrupted)) → (calls : List SystemCall)
    → calls ≡ accept listener number (Some kind) ∷ [] → IsArrival listener number arrival calls
refused_arrival listener number kind (Client stream) none waits calls is = absurd (none stream refl)
refused_arrival listener number kind NobodyCame none waits calls is = elim (waits refl) [
  | inl would ↦ inl (is ∙ ap (λ (k : ErrorKind). accept listener number (Some k) ∷ []) would)
  | inr interrupted ↦ inr (is ∙ ap (λ (k : ErrorKind). accept listener number (Some k) ∷ []) interrupted)
]
refused_arrival listener number kind ArrivalFailed none waits calls is = (kind, is)

-- a file that was removed at its path, which may be known by another name
pub removed_at : {path own : List ℕ} (made : FileIdentity) {old new : Option (List SystemCall)} → path ≡ own → Steps (IsRemoval path made) old new → Steps (IsRemoval own made) old new
removed_at {path} {own} made {old} {new} same s = subst (λ (p : List ℕ). Steps (IsRemoval p made) old new) same s

pub file_removed : (file : Option BoundFile) (own : BoundFile) {old new : Option (List SystemCall)} → file ≡ Some own → Steps (IsRemoval (string_bytes own.path) own.identity) old new → Steps (IsFileRemoval file) old new
file_removed file own {old = old} {new = new} is s = subst (λ (o : Option BoundFile). Steps (IsFileRemoval o) old new) (sym is) s

-- a look at a path, and what is removed by what is there
pub looked : {path : List ℕ} {found : Option FoundFile} {wanted own : Bool} {i j k : Option (List SystemCall)} → wanted ≡ own → Tells i j (identify path found ∷ []) → Tells j k (removal wanted path) → Steps (λ calls. calls ≡ removal own path ++ identify path found ∷ []) i k
looked {path} {found} {wanted} same p q = steps_then (removal wanted path) (steps_one (identify path found ∷ []) p refl) q (λ first e. ap₂ (λ (b : Bool) (f : List SystemCall). removal b path ++ f) same e)

-- .. if that is to be replaced
pub cleared_so : (replaces : Bool) (path : List ℕ) (found : Option FoundFile) → replaces ≡ true → (calls : List SystemCall) → calls ≡ removal (is_replaceable found) path ++ identify path found ∷ [] → IsClearing replaces path calls
cleared_so true path found same calls is = (found, is)
cleared_so false path found same calls is = absurd cc

-- one file more is removed
removals_more : (files : List (Option BoundFile)) (file : Option BoundFile) (first second : List SystemCall) → AreRemovals files first → IsFileRemoval file second → AreRemovals (files ++ file ∷ []) (second ++ first)
removals_more [] file first second f s = (second, [], ap (λ (calls : List SystemCall). second ++ calls) f ∙ append-nil second, s, refl)
removals_more (other ∷ files) file first second f s = (f.0, second ++ f.1, ap (λ (calls : List SystemCall). second ++ calls) f.2 ∙ append_after second f.1 f.0, f.3, removals_more files file f.1 second f.4 s)

take_more : {A B : Type 0} (f : A → Option B) (xs : List A) (place : ℕ) → place < length xs → take (suc place) (map f xs) ≡ take place (map f xs) ++ unwrap_or (option_map f (slice_get xs place)) None ∷ []
take_more f [] place below = absurd (omega (arith, below))
take_more f (x ∷ xs) zero below = refl
take_more f (x ∷ xs) (suc place) below = ap (λ (l : List (Option _)). f x ∷ l) (take_more f xs place (omega (arith, below)))

take_all : {A : Type 0} (xs : List A) → take (length xs) xs ≡ xs
take_all [] = refl
take_all (x ∷ xs) = ap (λ (l : List _). x ∷ l) (take_all xs)

-- the files of the first listeners are removed, and that of the next
pub removals_then : {L : Type 0} (listeners : List (ListenerSocket L)) (place : ℕ) (file : Option BoundFile) → place < length listeners → file ≡ file_in (slice_get listeners place) → {a b c : Option (List SystemCall)}
    → Steps (AreRemovals (take place (map (λ (s : ListenerSocket L). s.file) listeners))) a b → Steps (IsFileRemoval file) b c → Steps (AreRemovals (take (place + 1) (map (λ (s : ListenerSocket L). s.file) listeners))) a c
removals_then {L} listeners place file below same {a} {b} {c} p q =
    let one : suc place ≡ place + 1 = omega arith in
    let files = map (λ (s : ListenerSocket L). s.file) listeners in
    subst (λ n. Steps (AreRemovals (take n files)) a c) one
    (subst (λ (fs : List (Option BoundFile)). Steps (AreRemovals fs) a c) (ap (λ (f : Option BoundFile). take place files ++ f ∷ []) same ∙ sym (take_more (λ (s : ListenerSocket L). s.file) listeners place below))
    (steps_through (λ first second f s. removals_more (take place files) file first second f s) p q))

length-mapped : {A B : Type 0} (f : A → B) (xs : List A) → length (map f xs) ≡ length xs
length-mapped f [] = refl
length-mapped f (x ∷ xs) = ap suc (length-mapped f xs)

-- the files of all listeners are removed
pub removals_all : {L : Type 0} (listeners : List (ListenerSocket L)) (count : ℕ) → count ≡ length listeners → {a b : Option (List SystemCall)} → Steps (AreRemovals (take count (map (λ (s : ListenerSocket L). s.file) listeners))) a b
    → Steps (AreRemovals (map (λ (s : ListenerSocket L). s.file) listeners)) a b
removals_all {L} listeners count same {a} {b} s =
    let files = map (λ (s : ListenerSocket L). s.file) listeners in
    subst (λ (fs : List (Option BoundFile)). Steps (AreRemovals fs) a b) (ap (λ n. take n files) (same ∙ sym (length-mapped (λ (s : ListenerSocket L). s.file) listeners)) ∙ take_all files) s

-- a connect that is tried again
pub retried_in : {T : Type 0} (connection : Connection T) (retry : Retry) {old new : Option (List SystemCall)} → connection ≡ Pending retry → Steps (IsRetryOf retry.token (string_bytes retry.path)) old new → Steps (IsRetryIn connection) old new
retried_in {T} connection retry {old = old} {new = new} is s = subst (λ (c : Connection T). Steps (IsRetryIn c) old new) (sym is) s

pub not_retried : {T : Type 0} (connection : Connection T) (j : Option (List SystemCall)) → Steps (IsRetryIn connection) j j
not_retried (Open stream) j = steps_none j refl
not_retried (Pending retry) j = steps_none j (inl refl)
not_retried Failed j = steps_none j refl

-- .. by what it answers
pub retried_as : {T : Type 0} (connection : Connection T) (retry : Retry) (now : Option Instant) (time : Instant) (result : Connected T) {old new : Option (List SystemCall)} → connection ≡ Pending retry → now ≡ Some time
    → Steps (IsRetryBy retry time result) old new → Steps (IsRetryAs connection now result) old new
retried_as {T} connection retry now time result {old = old} {new = new} is at s =
    subst (λ (c : Connection T). Steps (IsRetryAs c now result) old new) (sym is) (subst (λ (o : Option Instant). Steps (IsRetryAs (Pending retry) o result) old new) (sym at) s)

pub retry_fails : {T : Type 0} (connection : Connection T) (now : Option Instant) (j : Option (List SystemCall)) → now ≡ None → Steps (IsRetryAs connection now Refused) j j
retry_fails (Open stream) now j at = steps_none j refl
retry_fails {T} (Pending retry) now j at = subst (λ (o : Option Instant). Steps (IsRetryAs {T = T} (Pending retry) o Refused) j j) (sym at) (steps_none j (refl, refl))
retry_fails Failed now j at = steps_none j refl

pub opened_before : {T : Type 0} (connection : Connection T) (now : Option Instant) (j : Option (List SystemCall)) → is_pending connection ≡ false → Steps (IsRetryAs connection now Before) j j
opened_before (Open stream) now j closed = steps_none j refl
opened_before (Pending retry) now j closed = absurd cc
opened_before Failed now j closed = steps_none j refl

-- clients of a listener that are awaited, by what came of the listener
pub awaited : {number own : ℕ} (answer : Result ℕ NetFault) → answer ≢ Err FaultFailed → {old new : Option (List SystemCall)} → number ≡ own → Tells old new (await_clients number None ∷ []) → Steps (IsAwait own answer) old new
awaited {number} (Ok listener) kept same t = steps_one (await_clients number None ∷ []) t (ap (λ n. await_clients n None ∷ []) same)
awaited {number} (Err FaultMemory) kept same t = steps_one (await_clients number None ∷ []) t (ap (λ n. await_clients n None ∷ []) same)
awaited {number} (Err FaultFailed) kept same t = absurd (kept refl)

-- .. and those that can't be awaited
pub not_awaited : {number own : ℕ} (kind : ErrorKind) {old new : Option (List SystemCall)} → number ≡ own → Tells old new (await_clients number (Some kind) ∷ []) → Steps (IsAwait own (Err FaultFailed)) old new
not_awaited {number} kind same t = steps_one (await_clients number (Some kind) ∷ []) t (kind, ap (λ n. await_clients n (Some kind) ∷ []) same)
