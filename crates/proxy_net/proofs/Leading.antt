-- What calls lead to, by the answer.
use Rattle.std.proofs.Common.{ℕ, ◌==◌, length, ◌≡◌, ◌≢◌, ◌⊎◌, ◌∙◌, inl, inr, subst, Bool, true, false, List, [], ◌∷◌, ◌++◌, Option, Some, None, Result, Ok, Err, refl, sym, ap, ap₂, arith}
use Rattle.std.proofs.lemmas.Bool.Decides.{nat_tests}
use Rattle.std.specs.declared.io.ErrorKind.{ErrorKind}
use Rattle.std.specs.declared.io.ErrorKind.TheVariants.{WouldBlock, Interrupted, BrokenPipe, ConnectionReset}
use Rattle.link_traits.specs.declared.links.Took.{Took}
use Rattle.link_traits.specs.declared.links.Took.TheVariants.{Bytes as TookBytes, NotReady as WriteNotReady, Failed as WriteFailed}
use Rattle.link_traits.specs.declared.links.NetFault.{NetFault}
use Rattle.link_traits.specs.declared.links.NetFault.TheVariants.{Failed as FaultFailed, Memory as FaultMemory}
use Rattle.proxy_net.specs.SystemCalls.{SystemCall, connect, write, Tells}
use Rattle.proxy_net.specs.Streams.{IsPeerGone}
use Rattle.proxy_net.specs.Steps.{Steps, IsNoRoom, IsMade, IsUnmade, IsRetryOf, IsLost, IsWrite, IsLinkWrite, IsConnectionWrite, IsRoomAwaited, IsConnected, IsConnect}
use Rattle.proxy_net.specs.declared.streams.StreamWrite.TheVariants.{Again, Fault as WriteFault}
use Rattle.proxy_net.specs.declared.link_sockets.LinkWrite.{LinkWrite}
use Rattle.proxy_net.specs.declared.link_sockets.LinkWrite.TheVariants.{Bytes as LinkBytes, NotReady as LinkNotReady, PeerClosed as LinkClosed, Failed as LinkFailed}
use Rattle.proxy_net.proofs.Telling.{steps_one}

-- a write for which there was no room, and what was done about it
pub room_awaited : (waits : Bool) (number : ℕ) (piece : List ℕ) (wrote : LinkWrite) (first second : List SystemCall) → first ≡ write number (Err WouldBlock) ∷ [] → IsRoomAwaited waits number wrote second
    → IsLinkWrite number piece wrote (second ++ first)
room_awaited true number piece LinkNotReady first second was awaited = inr (inr (ap₂ (λ (s f : List SystemCall). s ++ f) awaited was))
room_awaited true number piece LinkFailed first second was awaited = inr (inr (inr (awaited.0, ap₂ (λ (s f : List SystemCall). s ++ f) awaited.1 was)))
room_awaited true number piece (LinkBytes n) first second was awaited = absurd awaited
room_awaited true number piece LinkClosed first second was awaited = absurd awaited
room_awaited false number piece LinkNotReady first second was awaited = inr (inl (WouldBlock, inl refl, ap₂ (λ (s f : List SystemCall). s ++ f) awaited was))
room_awaited false number piece LinkFailed first second was awaited = absurd awaited
room_awaited false number piece (LinkBytes n) first second was awaited = absurd awaited
room_awaited false number piece LinkClosed first second was awaited = absurd awaited

pub again_waits : (number : ℕ) (piece : List ℕ) (calls : List SystemCall) → IsConnectionWrite number piece Again calls → IsWrite number piece WriteNotReady calls
again_waits number piece calls is = elim is [ inl none ↦ inl none | inr refused ↦ inr (inl (Interrupted, inr (inl refl), refused)) ]

pub fault_fails : (number : ℕ) (piece : List ℕ) (calls : List SystemCall) → IsConnectionWrite number piece WriteFault calls → IsWrite number piece WriteFailed calls
fault_fails number piece calls is = elim is [ inl none ↦ inl none | inr some ↦ elim some [ inl nothing ↦ inr (inl nothing) | inr refused ↦ inr (inr (inl (refused.0, (refused.1.0, refused.1.1), refused.2))) ] ]

lost : (kind : ErrorKind) → IsPeerGone kind → IsLost kind
lost kind gone = elim gone [
  | inl broken ↦ ((λ e. let no : BrokenPipe ≡ WouldBlock = sym broken ∙ e in cc), (λ e. let no : BrokenPipe ≡ Interrupted = sym broken ∙ e in cc))
  | inr reset ↦ ((λ e. let no : ConnectionReset ≡ WouldBlock = sym reset ∙ e in cc), (λ e. let no : ConnectionReset ≡ Interrupted = sym reset ∙ e in cc))
]

-- a write to a peer that closed took nothing
pub closed_took : (number : ℕ) (piece : List ℕ) (took : Took) → ((n : ℕ) → took ≡ TookBytes n → ⊥) → (calls : List SystemCall) → IsLinkWrite number piece LinkClosed calls → IsWrite number piece took calls
closed_took number piece (TookBytes n) none calls is = absurd (none n refl)
closed_took number piece WriteNotReady none calls is = inr (inl (is.0, inr (inr is.1), is.2))
closed_took number piece WriteFailed none calls is = inr (inr (inl (is.0, lost is.0 is.1, is.2)))

-- a path that is empty
pub no_bytes : (path : List ℕ) → (length path == 0) ≡ true → path ≡ []
no_bytes [] none = refl
no_bytes (byte ∷ path) none = absurd (grind (arith, nat_tests, none))

-- a connect that was made
pub connected_once : (number : ℕ) (path : List ℕ) (taken : Bool) (result : Result (Unit {0}) NetFault) → result ≢ Err FaultFailed → (calls : List SystemCall) → calls ≡ connect number path None ∷ [] → IsConnect number path taken result calls
connected_once number path taken (Ok done) kept calls is = inl is
connected_once number path taken (Err FaultFailed) kept calls is = absurd (kept refl)
connected_once number path taken (Err FaultMemory) kept calls is = inr (inl is)

-- .. one that was put off
put_off : (number : ℕ) (path : List ℕ) (kind : ErrorKind) → (kind ≡ WouldBlock) ⊎ (kind ≡ Interrupted) → (calls : List SystemCall) → calls ≡ connect number path (Some kind) ∷ [] → IsConnected number path calls
put_off number path kind why calls is = elim why [
  | inl waits ↦ inr (inl (is ∙ ap (λ (k : ErrorKind). connect number path (Some k) ∷ []) waits))
  | inr interrupted ↦ inr (inr (is ∙ ap (λ (k : ErrorKind). connect number path (Some k) ∷ []) interrupted))
]

pub put_off_once : (number : ℕ) (path : List ℕ) (taken : Bool) (kind : ErrorKind) (result : Result (Unit {0}) NetFault) → (kind ≡ WouldBlock) ⊎ (kind ≡ Interrupted) → (calls : List SystemCall) → calls ≡ connect number path (Some kind) ∷ []
    → IsConnect number path taken result calls
put_off_once number path taken kind (Ok done) why calls is = put_off number path kind why calls is
put_off_once number path taken kind (Err FaultFailed) why calls is = inr (kind, is)
put_off_once number path taken kind (Err FaultMemory) why calls is = inr (put_off number path kind why calls is)

-- .. and one that was refused
pub refused_once : (number : ℕ) (path : List ℕ) (taken : Bool) (kind : ErrorKind) (calls : List SystemCall) → calls ≡ connect number path (Some kind) ∷ [] → IsConnect number path taken (Err FaultFailed) calls
refused_once number path taken kind calls is = inr (kind, is)

-- a connect that was made at once
pub made_at_once : (number own : ℕ) (path : List ℕ) (opened : Bool) → number ≡ own → opened ≡ true → {old new : Option (List SystemCall)} → Tells old new (connect number path None ∷ []) → Steps (IsMade opened own path) old new
made_at_once number own path opened same is {old} {new} told =
    subst (λ (o : Bool). Steps (IsMade o own path) old new) (sym is) (steps_one (connect number path None ∷ []) told (ap (λ (n : ℕ). connect n path None ∷ []) same))

-- .. or is to be made later
pub made_later : (number own : ℕ) (path : List ℕ) (opened : Bool) (kind : ErrorKind) → number ≡ own → opened ≡ false → IsNoRoom kind → {old new : Option (List SystemCall)} → Tells old new (connect number path (Some kind) ∷ []) → Steps (IsMade opened own path) old new
made_later number own path opened kind same is why {old} {new} told =
    subst (λ (o : Bool). Steps (IsMade o own path) old new) (sym is) (steps_one (connect number path (Some kind) ∷ []) told (kind, why, ap (λ (n : ℕ). connect n path (Some kind) ∷ []) same))

-- .. or isn't to be made
pub never_made : (number own : ℕ) (path : List ℕ) (kind : ErrorKind) → number ≡ own → (IsNoRoom kind → ⊥) → {old new : Option (List SystemCall)} → Tells old new (connect number path (Some kind) ∷ []) → Steps (IsUnmade own path) old new
never_made number own path kind same why told = steps_one (connect number path (Some kind) ∷ []) told (inr (kind, why, ap (λ (n : ℕ). connect n path (Some kind) ∷ []) same))

-- a connect that was tried again
pub tried_once : (number : ℕ) (path own : List ℕ) (fault : Option ErrorKind) {old new : Option (List SystemCall)} → path ≡ own → Tells old new (connect number path fault ∷ []) → Steps (IsRetryOf number own) old new
tried_once number path own fault same told = steps_one (connect number path fault ∷ []) told (inr (fault, ap (λ (p : List ℕ). connect number p fault ∷ []) same))

-- .. and reached the bus
pub connected_again : (number : ℕ) (path own : List ℕ) {old new : Option (List SystemCall)} → path ≡ own → Tells old new (connect number path None ∷ []) → Steps (λ (calls : List SystemCall). calls ≡ connect number own None ∷ []) old new
connected_again number path own same told = steps_one (connect number path None ∷ []) told (ap (λ (p : List ℕ). connect number p None ∷ []) same)

-- .. found no room
pub no_room_again : (number : ℕ) (path own : List ℕ) (kind : ErrorKind) {old new : Option (List SystemCall)} → (kind ≡ WouldBlock) ⊎ (kind ≡ Interrupted) → path ≡ own → Tells old new (connect number path (Some kind) ∷ [])
    → Steps (λ (calls : List SystemCall). (why : ErrorKind) × ((why ≡ WouldBlock) ⊎ (why ≡ Interrupted)) × (calls ≡ connect number own (Some why) ∷ [])) old new
no_room_again number path own kind why same told = steps_one (connect number path (Some kind) ∷ []) told (kind, why, ap (λ (p : List ℕ). connect number p (Some kind) ∷ []) same)

-- .. or was refused
pub refused_again : (number : ℕ) (path own : List ℕ) (kind : ErrorKind) (over : Type 0) {old new : Option (List SystemCall)} → (IsNoRoom kind → over) → path ≡ own → Tells old new (connect number path (Some kind) ∷ [])
    → Steps (λ (calls : List SystemCall). (why : ErrorKind) × (IsNoRoom why → over) × (calls ≡ connect number own (Some why) ∷ [])) old new
refused_again number path own kind over late same told = steps_one (connect number path (Some kind) ∷ []) told (kind, late, ap (λ (p : List ℕ). connect number p (Some kind) ∷ []) same)
