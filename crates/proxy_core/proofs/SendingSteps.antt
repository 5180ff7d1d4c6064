-- What the code does with a message of the client, one part after the other.
use Rattle.std.proofs.Common.{ℕ, ◌≡◌, ◌+◌, ◌≤◌, ◌<◌, nat_le, Bool, true, false, cond, List, [], ◌∷◌, ◌++◌, length, Option, Some, None, refl, ap, ap₂, ◌∙◌, sym, arith, map, append-nil}
use Rattle.std.specs.Prelude.{◌&&◌, ◌||◌, ◌==◌, not, unwrap_or}
use Rattle.std.proofs.Math.Bool.{or-false, or-true}
use Rattle.std.proofs.lemmas.Bool.{eqb-true}
use Rattle.std.proofs.lemmas.Bool.Decides.{nat_tests}
use Rattle.dbus_header.specs.Read.{message_seen}
use Rattle.dbus_header.specs.Kinds.{Call, Return, Error, Signal, Other, kind_by, kind_of}
use Rattle.dbus_header.specs.Message.{Message, destination, interface}
use Rattle.dbus_names.specs.Names.{is_bus}
use Rattle.dbus_names.specs.Texts.{Text}
use Rattle.own_calls.specs.Sending.{expecting}
use Rattle.policy_view.specs.History.{most_sent}
use Rattle.policy_view.specs.Past.{has_greeted, replied_on}
use Rattle.policy_args.specs.Policy.{Policy}
use Rattle.policy_view.specs.Sent.{Exchange, OwnOwner, Passed, Pinged, Sent, is_hello, own_calls, spelled_from}
use Rattle.reply_ledger.specs.Owed.{one_less}
use Rattle.policy_view.specs.Verdicts.{ClientRole, OfUnknownType, Reply, Broadcast, SignalTo, StandardBusCall, OtherBusCall, BusCall, CallTo, client_role, client_role_at, number_or_0, reply_to, role_of_bus_call, role_of_call, role_of_signal}
use Rattle.policy_view.specs.declared.End.TheVariants.{SerialsSpent}
use Rattle.dbus_header.specs.declared.Instead.{Instead}
use Rattle.policy_view.specs.declared.Reason.{Reason}
use Rattle.reply_ledger.specs.Ledger.{Ledger}
use Rattle.policy_view.specs.declared.Verdict.{Verdict}
use Rattle.policy_view.specs.declared.Verdict.TheVariants.{Pass, Ping, Drop}
use Rattle.proxy_core.specs.Sessions.{SessionView}
use Rattle.dbus_header.specs.declared.message.Message.{Message as Seen}
use Rattle.proxy_core.specs.Messages.{counted, ended_by, less_to, queued, sending, with_due, with_replied, with_sent, with_verdict}
use Rattle.proxy_core.proofs.Taking.{destination_is, number_is, replies_is, reply_serial_is, tree}

-- ---- one message with the next serial

greeted_alone : (g h : Bool) → (h && not g) ≡ false → (g || (h || false)) ≡ g
greeted_alone true h e = refl
greeted_alone false true e = absurd cc
greeted_alone false false e = refl

pub alone_greets : (m : Message) (greeted : Bool) → (is_hello m && not greeted) ≡ false → (greeted || has_greeted (Passed m ∷ [])) ≡ greeted
alone_greets m greeted e = greeted_alone greeted (is_hello m) e

pub sent_alone : (old : SessionView) (s : Sent) (rs : List Exchange) → (old.greeted || has_greeted (s ∷ [])) ≡ old.greeted → old.sent + 1 ≤ most_sent → with_replied rs (queued s (counted old)) ≡ with_due (s ∷ []) rs old
sent_alone old s rs g room =
    let fits : nat_le (old.sent + 1) most_sent ≡ true = grind (arith, nat_tests, room) in
    ap (λ (b : Bool). record (with_replied rs (queued s (counted old))) { greeted = b }) (sym g)
    ∙ sym (ap (λ (b : Bool). cond b (with_sent (s ∷ []) (with_replied rs old)) (ended_by SerialsSpent old)) fits)

pub spent_alone : (old : SessionView) (s : Sent) (rs : List Exchange) → old.sent ≡ most_sent → ended_by SerialsSpent old ≡ with_due (s ∷ []) rs old
spent_alone old s rs full =
    let over : nat_le (old.sent + 1) most_sent ≡ false = grind (arith, nat_tests, full) in
    sym (ap (λ (b : Bool). cond b (with_sent (s ∷ []) (with_replied rs old)) (ended_by SerialsSpent old)) over)

-- ---- the first Hello

pub sent_all : (old : SessionView) (s : Sent) (due : List Sent) → old.sent + length (s ∷ due) ≤ most_sent → with_sent (s ∷ due) old ≡ with_due (s ∷ due) [] old
sent_all old s due room =
    let fits : nat_le (old.sent + length (s ∷ due)) most_sent ≡ true = grind (arith, nat_tests, room) in
    sym (ap (λ (b : Bool). cond b (with_sent (s ∷ due) old) (ended_by SerialsSpent old)) fits)

pub spent_all : (old : SessionView) (s : Sent) (due : List Sent) → most_sent < old.sent + length (s ∷ due) → ended_by SerialsSpent old ≡ with_due (s ∷ due) [] old
spent_all old s due over =
    let no : nat_le (old.sent + length (s ∷ due)) most_sent ≡ false = grind (arith, nat_tests, over) in
    sym (ap (λ (b : Bool). cond b (with_sent (s ∷ due) old) (ended_by SerialsSpent old)) no)

-- a Hello that passed greets
pub hello_greets : (m : Message) (due : List Sent) (greeted : Bool) → is_hello m ≡ true → true ≡ (greeted || has_greeted (Passed m ∷ due))
hello_greets m due greeted e = sym (ap (λ (b : Bool). greeted || (b || has_greeted due)) e ∙ or-true greeted)

-- a Hello is a call
pub hello_call : (m : Message) → is_hello m ≡ true → m.kind ≡ 1
unfolding is_hello
hello_call m e = eqb-true m.kind 1 (first (m.kind == 1) _ _ _ e)
  where
    first : (a b c d : Bool) → (a && b && c && d) ≡ true → a ≡ true
    first true b c d e = refl
    first false b c d e = e

-- ---- replies

not_reply : (role : ClientRole) (m : Message) (v : Verdict) → (role ≡ Reply → ⊥) → replied_on m role v ≡ []
not_reply OfUnknownType m v other = refl
not_reply Reply m v other = absurd (other refl)
not_reply Broadcast m v other = refl
not_reply (SignalTo name) m v other = refl
not_reply StandardBusCall m v other = refl
not_reply OtherBusCall m v other = refl
not_reply BusCall m v other = refl
not_reply (CallTo name) m v other = refl

-- a refused message replies to nothing
pub refused_replies : (role : ClientRole) (m : Message) (v : Verdict) → (v ≡ Pass → ⊥) → replied_on m role v ≡ []
refused_replies OfUnknownType m v other = refl
refused_replies Reply m Pass other = absurd (other refl)
refused_replies Reply m (Ping what reason) other = refl
refused_replies Reply m (Drop reason) other = refl
refused_replies Broadcast m v other = refl
refused_replies (SignalTo name) m v other = refl
refused_replies StandardBusCall m v other = refl
refused_replies OtherBusCall m v other = refl
refused_replies BusCall m v other = refl
refused_replies (CallTo name) m v other = refl

bus_call_no_reply : (i : Option Text) → role_of_bus_call i ≡ Reply → ⊥
bus_call_no_reply None e = cc
bus_call_no_reply (Some i) e = by (Rattle.policy_view.specs.Texts.is_one_of i Rattle.policy_view.specs.Verdicts.standard_interfaces) (is_bus i) e
  where
    by : (a b : Bool) → cond a StandardBusCall (cond b BusCall OtherBusCall) ≡ Reply → ⊥
    by true b e = cc
    by false true e = cc
    by false false e = cc

call_no_reply : (d i : Option Text) → role_of_call d i ≡ Reply → ⊥
call_no_reply None i e = bus_call_no_reply i e
call_no_reply (Some name) i e = by (is_bus name) e
  where
    by : (b : Bool) → cond b (role_of_bus_call i) (CallTo name) ≡ Reply → ⊥
    by true e = bus_call_no_reply i e
    by false e = cc

signal_no_reply : (d : Option Text) → role_of_signal d ≡ Reply → ⊥
signal_no_reply None e = cc
signal_no_reply (Some name) e = cc

-- only returns and errors reply
pub other_replies : (m : Message) (v : Verdict) → (m.kind == 2 || m.kind == 3) ≡ false → replied_on m (client_role m) v ≡ []
unfolding client_role kind_of
other_replies m v e = not_reply (client_role_at (kind_by m.kind) m) m v (by (m.kind == 1) (m.kind == 2) (m.kind == 3) (m.kind == 4) e)
  where
    by : (a b c d : Bool) → (b || c) ≡ false → client_role_at (cond a Call (cond b Return (cond c Error (cond d Signal Other)))) m ≡ Reply → ⊥
    by true b c d e k = call_no_reply (destination m) (interface m) k
    by false true c d e k = cc
    by false false true d e k = cc
    by false false false true e k = signal_no_reply (destination m) k
    by false false false false e k = cc

pub own_reply : (m : Message) → (m.kind == 2 || m.kind == 3) ≡ true → replied_on m (client_role m) Pass ≡ reply_to m ∷ []
unfolding client_role kind_of
own_reply m e = by (m.kind == 1) refl (m.kind == 2) refl (m.kind == 3) refl e
  where
    by : (a : Bool) → (m.kind == 1) ≡ a → (b : Bool) → (m.kind == 2) ≡ b → (c : Bool) → (m.kind == 3) ≡ c → (b || c) ≡ true →
        replied_on m (client_role_at (cond (m.kind == 1) Call (cond (m.kind == 2) Return (cond (m.kind == 3) Error (cond (m.kind == 4) Signal Other)))) m) Pass ≡ reply_to m ∷ []
    by true a true b c g e = absurd (let one = eqb-true m.kind 1 a in let two = eqb-true m.kind 2 b in omega (arith, one, two))
    by true a false b true g e = absurd (let one = eqb-true m.kind 1 a in let three = eqb-true m.kind 3 g in omega (arith, one, three))
    by true a false b false g e = absurd cc
    by false a true b c g e = ap₂ (λ (x y : Bool). replied_on m (client_role_at (cond x Call (cond y Return (cond (m.kind == 3) Error (cond (m.kind == 4) Signal Other)))) m) Pass) a b
    by false a false b true g e =
        ap₂ (λ (x y : Bool). replied_on m (client_role_at (cond x Call (cond y Return (cond (m.kind == 3) Error (cond (m.kind == 4) Signal Other)))) m) Pass) a b
        ∙ ap (λ (x : Bool). replied_on m (client_role_at (cond x Error (cond (m.kind == 4) Signal Other)) m) Pass) g
    by false a false b false g e = absurd cc

-- a reply that passes is no longer owed
pub replied_to : (x : Seen) (view : SessionView) (to : Text) (n : ℕ) → (x.kind == 2 || x.kind == 3) ≡ true → (message_seen x).parts.destination ≡ Some to → n ≡ unwrap_or (message_seen x).parts.reply_serial 0 →
    record view { ledger = record view.ledger { owed = one_less view.ledger.owed to n } } ≡ with_replied (replied_on (tree x) (client_role (tree x)) Pass) view
replied_to x view to n reply at number =
    ap₂ (λ (o : Option Text) (k : ℕ). record view { ledger = record view.ledger { owed = less_to view.ledger.owed o k } })
    (sym (destination_is x ∙ at)) (number ∙ sym (ap number_or_0 (reply_serial_is x) ∙ number_is (message_seen x).parts.reply_serial))
    ∙ ap (λ (xs : List Exchange). with_replied xs view) (sym (own_reply (tree x) (replies_is x true reply)))

-- a reply to nobody replies to nothing
pub replied_none : (x : Seen) (view : SessionView) → (x.kind == 2 || x.kind == 3) ≡ true → (message_seen x).parts.destination ≡ None → view ≡ with_replied (replied_on (tree x) (client_role (tree x)) Pass) view
replied_none x view reply at =
    ap (λ (o : Option Text). record view { ledger = record view.ledger { owed = less_to view.ledger.owed o (reply_to (tree x)).number } }) (sym (destination_is x ∙ at))
    ∙ ap (λ (xs : List Exchange). with_replied xs view) (sym (own_reply (tree x) (replies_is x true reply)))

-- ---- the owners of names

owners_greet : (names : List Text) (greeted : Bool) → (greeted || has_greeted (map OwnOwner names)) ≡ greeted
owners_greet [] greeted = or-false greeted
owners_greet (name ∷ names) greeted = owners_greet names greeted

pub owners_sent : (view : SessionView) (names : List Text) →
    record view { bus_side = view.bus_side ++ spelled_from (view.sent + 1) (map OwnOwner names); sent = view.sent + length (map OwnOwner names); ledger = record view.ledger { expected = expecting view.ledger.expected (view.sent + 1) (map OwnOwner names) } }
    ≡ with_sent (map OwnOwner names) view
owners_sent view names = ap (λ (b : Bool). record (with_sent (map OwnOwner names) view) { greeted = b }) (sym (owners_greet names view.greeted))

-- if all serials are left, they are sent
pub sending_fits : (view : SessionView) (due : List Sent) → (view.greeted || has_greeted due) ≡ view.greeted → view.sent + length due ≤ most_sent → with_sent due view ≡ sending due view view
sending_fits view [] g room =
    ap₂ (λ (w : List ℕ) (n : ℕ). record view { bus_side = w; sent = n; greeted = view.greeted || false }) (append-nil view.bus_side) (omega arith)
    ∙ ap (λ (b : Bool). record view { greeted = b }) g
sending_fits view (s ∷ due) g room =
    let fits : nat_le (view.sent + length (s ∷ due)) most_sent ≡ true = grind (arith, nat_tests, room) in
    sym (ap (λ (b : Bool). cond b (with_sent (s ∷ due) view) (ended_by SerialsSpent view)) fits)

pub owners_fit : (view : SessionView) (names : List Text) → view.sent + length (map OwnOwner names) ≤ most_sent → with_sent (map OwnOwner names) view ≡ sending (map OwnOwner names) view view
owners_fit view names room = sending_fits view (map OwnOwner names) (owners_greet names view.greeted) room

pub sending_spent : (view : SessionView) (due : List Sent) → view.sent ≤ most_sent → most_sent < view.sent + length due → ended_by SerialsSpent view ≡ sending due view view
sending_spent view [] low over = absurd (omega (arith, low, over))
sending_spent view (s ∷ due) low over =
    let no : nat_le (view.sent + length (s ∷ due)) most_sent ≡ false = grind (arith, nat_tests, over) in
    sym (ap (λ (b : Bool). cond b (with_sent (s ∷ due) view) (ended_by SerialsSpent view)) no)

-- the first Hello passes with the own calls
pub greets_as : (policy : Policy) (m : Message) (view : SessionView) → is_hello m ≡ true → view.greeted ≡ false → with_due (Passed m ∷ own_calls policy) [] view ≡ with_verdict policy m Pass view
greets_as policy m view hello first =
    ap₂ (λ (due : List Sent) (rs : List Exchange). with_due due rs view)
    (sym (ap₂ (λ (h g : Bool). Passed m ∷ cond (h && not g) (own_calls policy) []) hello first))
    (sym (other_replies m Pass (no_reply m hello)))
  where
    no_reply : (m : Message) → is_hello m ≡ true → (m.kind == 2 || m.kind == 3) ≡ false
    no_reply m e = ap (λ (k : ℕ). k == 2 || k == 3) (hello_call m e)

-- a message that isn't the first Hello is sent without others
pub alone_as : (policy : Policy) (m : Message) (view : SessionView) → (is_hello m && not view.greeted) ≡ false → with_due (Passed m ∷ []) (replied_on m (client_role m) Pass) view ≡ with_verdict policy m Pass view
alone_as policy m view e = ap (λ (b : Bool). with_due (Passed m ∷ cond b (own_calls policy) []) (replied_on m (client_role m) Pass) view) (sym e)

-- what is refused replies to nothing
pub pings_as : (policy : Policy) (m : Message) (what : Instead) (reason : Reason) (view : SessionView) → with_due (Pinged m what ∷ []) [] view ≡ with_verdict policy m (Ping what reason) view
pings_as policy m what reason view = ap (λ (rs : List Exchange). with_due (Pinged m what ∷ []) rs view) (sym (refused_replies (client_role m) m (Ping what reason) (λ e. cc)))

pub drops_as : (policy : Policy) (m : Message) (reason : Reason) (view : SessionView) → view ≡ with_verdict policy m (Drop reason) view
drops_as policy m reason view = ap (λ (rs : List Exchange). with_replied rs view) (sym (refused_replies (client_role m) m (Drop reason) (λ e. cc)))

pub owners_view : (view : SessionView) (names : List Text) (bus : List ℕ) (sent : ℕ) (ledger : Ledger) → bus ≡ view.bus_side ++ spelled_from (view.sent + 1) (map OwnOwner names) → sent ≡ view.sent + length (map OwnOwner names) →
    ledger ≡ record view.ledger { expected = expecting view.ledger.expected (view.sent + 1) (map OwnOwner names) } → record view { bus_side = bus; sent = sent; ledger = ledger } ≡ with_sent (map OwnOwner names) view
owners_view view names bus sent ledger b s l =
    ap (λ (w : List ℕ). record view { bus_side = w; sent = sent; ledger = ledger }) b
    ∙ ap₂ (λ (n : ℕ) (x : Ledger). record view { bus_side = view.bus_side ++ spelled_from (view.sent + 1) (map OwnOwner names); sent = n; ledger = x }) s l
    ∙ owners_sent view names
