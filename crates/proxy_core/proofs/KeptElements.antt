-- What the code keeps of a message in the visible part is what the definition has.
use Rattle.std.proofs.Common.{ℕ, ◌≡◌, Bool, true, false, cond, List, [], ◌∷◌, flat_map, Option, Some, None, IsSome, IfSome, refl, ap, ap₂, ◌∙◌, sym, codes}
use denote.Bor.{Bor}
use Rattle.std.specs.Option.{option_copied}
use Rattle.std.specs.Prelude.{◌==◌, ◌||◌, is_some}
use Rattle.dbus_header.specs.Read.{message_seen}
use Rattle.dbus_header.specs.Kinds.{Kind, Call, Return, Error, Signal, Other, kind_of}
use Rattle.dbus_header.specs.Contents.{Contents}
use Rattle.dbus_header.specs.Message.{Message, destination, reply_serial, spell, with_reply_serial}
use Rattle.dbus_header.specs.declared.message.Message.{Message as Seen}
use Rattle.dbus_names.specs.Texts.{Text}
use Rattle.name_filters.proofs.ListBodies.{is_list}
use Rattle.policy_args.specs.Policy.{Policy}
use Rattle.policy_args.specs.declared.Level.{Level}
use Rattle.policy_view.specs.Elements.{given_of}
use Rattle.policy_view.specs.Past.{if_unique, returned_names, returned_text}
use Rattle.policy_view.specs.Shown.{BusRole, OwnerChange, SignalIn, BroadcastIn, bus_role, bus_role_at, cut, is_owner_change, role_of_reply, showing, showing_at}
use Rattle.policy_view.specs.declared.Showing.{Showing}
use Rattle.policy_view.specs.declared.Side.TheVariants.{Bus}
use Rattle.policy_view.specs.declared.visible.Visible.{Visible as Element}
use Rattle.policy_view.specs.declared.visible.Visible.TheVariants as element
use Rattle.reply_ledger.specs.Ledger.{Ledger}
use Rattle.reply_ledger.specs.declared.kind.Kind.{Kind as Expected}
use Rattle.reply_ledger.specs.declared.kind.Kind.TheVariants as expects
use Rattle.unique_names.specs.Taught.{Ids, kept_level}
use Rattle.verdicts.specs.Kept.{expected_at, kept}
use Rattle.proxy_core.specs.Messages.{elements_by, own_names, own_owner}
use Rattle.proxy_core.proofs.ReceivingSteps.{role_reply}
use Rattle.policy_view.specs.Verdicts.{number_or_0}
use Rattle.policy_view.specs.Visible.{names_asked, position_of, visible_as, visible_hidden}
use Rattle.policy_view.proofs.ElementLaws.{cut_with_own_reply}
use Rattle.proxy_core.proofs.Taking.{IsSpelled, read, replies_is, reply_serial_is, seen, tree}

-- ---- an answer that is hidden

pub copied : {A : Type 0} (lent : Option (Bor A)) (P : Type 0) → IfSome lent (λ _. P) → IfSome (option_copied lent) (λ _. P)
copied None P p = tt
copied (Some x) P p = p

-- an answer, by what it is for
by_answer : (policy : Policy) (x : Seen) (answer : Option Expected) (es : List Element) → (x.kind == 2 || x.kind == 3) ≡ true → es ≡ flat_map given_of (visible_hidden policy (tree x) (role_of_reply ((tree x).kind == 2) answer)) →
    es ≡ flat_map given_of (visible_hidden policy (tree x) (bus_role answer (tree x)))
by_answer policy x answer es reply is = is ∙ ap (λ (r : BusRole). flat_map given_of (visible_hidden policy (tree x) r)) (sym (role_reply (tree x) answer (replies_is x true reply)))

pub owner_hidden : (policy : Policy) (x : Seen) (answer : Option Expected) (position : ℕ) (owner : Option Text) → own_owner answer ≡ true → IfSome answer (λ _. (x.kind == 2 || x.kind == 3) ≡ true)
    → position ≡ position_of (tree x) → owner ≡ if_unique (returned_text (tree x)) → element.Owner position owner ∷ [] ≡ flat_map given_of (visible_hidden policy (tree x) (bus_role answer (tree x)))
owner_hidden policy x (Some (expects.OwnOwner name)) position owner own reply at is =
    by_answer policy x (Some (expects.OwnOwner name)) (element.Owner position owner ∷ []) reply (ap₂ (λ (p : ℕ) (o : Option Text). element.Owner p o ∷ []) at is)
owner_hidden policy x None position owner own reply at is = absurd cc
owner_hidden policy x (Some (expects.Call serial)) position owner own reply at is = absurd cc
owner_hidden policy x (Some (expects.Hello serial)) position owner own reply at is = absurd cc
owner_hidden policy x (Some (expects.Names serial)) position owner own reply at is = absurd cc
owner_hidden policy x (Some (expects.Ping serial order what)) position owner own reply at is = absurd cc
owner_hidden policy x (Some expects.OwnMatch) position owner own reply at is = absurd cc
owner_hidden policy x (Some expects.OwnNames) position owner own reply at is = absurd cc

pub names_hidden : (policy : Policy) (x : Seen) (answer : Option Expected) (position : ℕ) (names : Option (List Text)) → own_names answer ≡ true → IfSome answer (λ _. (x.kind == 2 || x.kind == 3) ≡ true)
    → position ≡ position_of (tree x) → names ≡ names_asked policy (returned_names (tree x)) → element.Asked position names ∷ [] ≡ flat_map given_of (visible_hidden policy (tree x) (bus_role answer (tree x)))
names_hidden policy x (Some expects.OwnNames) position names own reply at is =
    by_answer policy x (Some expects.OwnNames) (element.Asked position names ∷ []) reply (ap₂ (λ (p : ℕ) (ns : Option (List Text)). element.Asked p ns ∷ []) at is)
names_hidden policy x None position names own reply at is = absurd cc
names_hidden policy x (Some (expects.Call serial)) position names own reply at is = absurd cc
names_hidden policy x (Some (expects.Hello serial)) position names own reply at is = absurd cc
names_hidden policy x (Some (expects.Names serial)) position names own reply at is = absurd cc
names_hidden policy x (Some (expects.Ping serial order what)) position names own reply at is = absurd cc
names_hidden policy x (Some expects.OwnMatch) position names own reply at is = absurd cc
names_hidden policy x (Some (expects.OwnOwner name)) position names own reply at is = absurd cc

-- any other leaves nothing
none_of_reply : (policy : Policy) (m : Message) (is_return : Bool) (answer : Option Expected) → own_owner answer ≡ false → own_names answer ≡ false → [] ≡ flat_map given_of (visible_hidden policy m (role_of_reply is_return answer))
none_of_reply policy m is_return None owner names = refl
none_of_reply policy m is_return (Some (expects.Call serial)) owner names = refl
none_of_reply policy m is_return (Some (expects.Hello serial)) owner names = refl
none_of_reply policy m true (Some (expects.Names serial)) owner names = refl
none_of_reply policy m false (Some (expects.Names serial)) owner names = refl
none_of_reply policy m is_return (Some (expects.Ping serial order what)) owner names = refl
none_of_reply policy m is_return (Some expects.OwnMatch) owner names = refl
none_of_reply policy m is_return (Some (expects.OwnOwner name)) owner names = absurd cc
none_of_reply policy m is_return (Some expects.OwnNames) owner names = absurd cc

none_at : (policy : Policy) (m : Message) (kind : Kind) (answer : Option Expected) → own_owner answer ≡ false → own_names answer ≡ false → [] ≡ flat_map given_of (visible_hidden policy m (bus_role_at kind m answer))
none_at policy m Call answer owner names = refl
none_at policy m Return answer owner names = none_of_reply policy m true answer owner names
none_at policy m Error answer owner names = none_of_reply policy m false answer owner names
none_at policy m Signal answer owner names = by (is_owner_change m) (is_some (destination m))
  where
    by : (a b : Bool) → [] ≡ flat_map given_of (visible_hidden policy m (cond a OwnerChange (cond b SignalIn BroadcastIn)))
    by true b = refl
    by false true = refl
    by false false = refl
none_at policy m Other answer owner names = refl

pub nothing_hidden : (policy : Policy) (m : Message) (answer : Option Expected) → own_owner answer ≡ false → own_names answer ≡ false → [] ≡ flat_map given_of (visible_hidden policy m (bus_role answer m))
unfolding bus_role
nothing_hidden policy m answer owner names = none_at policy m (kind_of m) answer owner names

-- ---- a message that is shown

-- by what is shown of it
pub elements_as : (policy : Policy) (ids : Ids) (ledger : Ledger) (m : Message) (answer : Option Expected) (s : Showing) (es : List Element) → bus_role answer m ≡ bus_role (expected_at ledger.expected (reply_serial m)) m
    → s ≡ showing policy (kept policy ids ledger.owed) answer m → es ≡ flat_map given_of (visible_as policy (kept_level policy ids) m (bus_role (expected_at ledger.expected (reply_serial m)) m) s) → es ≡ elements_by policy ids ledger Bus m
unfolding showing
elements_as policy ids ledger m answer s es role shown is =
    is
    ∙ ap (λ (t : Showing). flat_map given_of (visible_as policy (kept_level policy ids) m (bus_role (expected_at ledger.expected (reply_serial m)) m) t))
    (shown ∙ ap (λ (r : BusRole). showing_at policy (kept policy ids ledger.owed) m r) role)

-- with the reply serial that it came with, a cut list is as it was cut
pub cut_kept : (level : Text → Level) (x : Seen) (position : ℕ) (bytes : List ℕ) → IsSpelled x.bytes.now → x.signature.bytes.now ≡ codes "as" → IsSome (message_seen x).parts.reply_serial → position ≡ position_of (tree x)
    → bytes ≡ spell (with_reply_serial position (cut level (tree x))) → bytes ≡ spell (cut level (tree x))
cut_kept level x position bytes spelled named has at is = by (message_seen x).parts.reply_serial refl has
  where
    by : (o : Option ℕ) → (message_seen x).parts.reply_serial ≡ o → IsSome o → bytes ≡ spell (cut level (tree x))
    by None e has = absurd cc
    by (Some r) e has =
        let valid = (spelled (tree x) (read x)).0 in
        let list = is_list (tree x) valid (ap (λ (q : Contents). q.signature) (seen x) ∙ named) in
        let there : reply_serial (tree x) ≡ Some r = reply_serial_is x ∙ e in
        let same : position ≡ r = at ∙ ap number_or_0 there in
        is ∙ ap (λ (n : ℕ). spell (with_reply_serial n (cut level (tree x)))) same ∙ cut_with_own_reply level r list.names (tree x) valid list.texts there
