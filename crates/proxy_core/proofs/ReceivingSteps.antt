-- What the code does with a message of the bus, one part after the other.
use Rattle.std.proofs.Common.{ℕ, ◌≡◌, Bool, true, false, cond, List, [], ◌∷◌, ◌++◌, Option, Some, None, Result, Ok, Err, OnOk, OnErr, codes, refl, ap, ap₂, ◌∙◌, sym, subst, inl, inr}
use Rattle.std.specs.Prelude.{◌⊎◌, ◌||◌, ◌==◌, IfSome, IsSome, flat_map, is_some}
use Rattle.std.specs.FinMap.{FinMap, remove}
use Rattle.std.specs.Ordering.{nat_cmp}
use Rattle.std.specs.Str.{bytes_eq}
use Rattle.std.specs.declared.alloc.AllocError.{AllocError}
use Rattle.std.proofs.lemmas.Bool.{eqb-true}
use Rattle.byte_lists.proofs.Bytes.{bytes_eq-true}
use Rattle.dbus_names.specs.Texts.{Text}
use Rattle.dbus_header.specs.Read.{message_seen}
use Rattle.dbus_header.specs.Contents.{Contents}
use Rattle.dbus_header.specs.Kinds.{Kind, Call, Return, Error, Signal, Other, kind_by, kind_of}
use Rattle.dbus_header.specs.Message.{Message, destination, reply_serial, sender, spell, text_list, three_texts}
use Rattle.dbus_header.specs.Seen.{text_seen}
use Rattle.dbus_header.specs.declared.message.Message.{Message as Seen}
use Rattle.dbus_header.proofs.MessageBodies.{differ, list-none}
use Rattle.policy_args.specs.Policy.{Policy}
use Rattle.policy_args.specs.declared.Level.{Level}
use Rattle.policy_args.specs.declared.fact.Fact.{Fact}
use Rattle.policy_args.specs.declared.fact.Fact.TheVariants.{Met}
use Rattle.policy_view.specs.Knowledge.{Knowledge}
use Rattle.policy_view.specs.Past.{called_at, due_at, fact_of, if_unique, learned_at, owners_of}
use Rattle.policy_view.specs.Sent.{Sent}
use Rattle.policy_view.specs.Shown.{BusRole, NoRole, Unexpected, MatchAnswer, OwnerAnswer, NamesAnswer, PingAnswer, NameList, HelloAnswer, OtherAnswer, CallIn, OwnerChange, SignalIn, BroadcastIn, bus_role, bus_role_at, is_owner_change, may_broadcast, on_names, on_owner_change, role_of_reply, role_of_signal, seen_as, sees_change, showing, showing_at}
use Rattle.policy_view.specs.declared.End.TheVariants.{Memory}
use Rattle.policy_view.specs.declared.Reason.{Reason}
use Rattle.policy_view.specs.declared.Reason.TheVariants.{NameHidden, SenderNotTalk}
use Rattle.policy_view.specs.declared.Showing.{Showing}
use Rattle.policy_view.specs.declared.Showing.TheVariants.{Whole, Reply, Cut, Instead as InsteadOf, Hide}
use Rattle.reply_ledger.specs.declared.kind.Kind.{Kind as Expected}
use Rattle.reply_ledger.specs.declared.kind.Kind.TheVariants as expects
use Rattle.unique_names.specs.Taught.{Ids, kept_level}
use Rattle.verdicts.specs.Kept.{expected_at}
use Rattle.proxy_core.specs.Sessions.{SessionView}
use Rattle.proxy_core.specs.Messages.{KeepsSides, ended_by, known, own_names, sending, taught, used_up, with_calls, with_facts, with_role, with_shown, with_told, with_used}
use Rattle.proxy_core.specs.Shapes.{ShownBy}
use Rattle.proxy_core.specs.Steps.{TookMessage}
use Rattle.proxy_core.proofs.Taking.{destination_is, kind_number, replies_is, reply_serial_is, seen, tree}
use denote.Bor.{Bor}

-- ---- facts

pub taught_append : (policy : Policy) (one two : List Fact) (ids : Ids) → taught policy (taught policy ids one) two ≡ taught policy ids (one ++ two)
taught_append policy [] two ids = refl
taught_append policy (fact ∷ facts) two ids = taught_append policy facts two _

pub facts_append : (policy : Policy) (one two : List Fact) (view : SessionView) → with_facts policy two (with_facts policy one view) ≡ with_facts policy (one ++ two) view
facts_append policy one two view = ap (λ (ids : Ids). record view { ids = ids }) (taught_append policy one two view.ids)

-- ---- the role of a message by its type

pub role_return : (m : Message) (answered : Option Expected) → (m.kind == 2) ≡ true → bus_role answered m ≡ role_of_reply true answered
unfolding bus_role kind_of
role_return m answered e = ap (λ (k : ℕ). bus_role_at (kind_by k) m answered) (eqb-true m.kind 2 e)

pub role_error : (m : Message) (answered : Option Expected) → (m.kind == 3) ≡ true → bus_role answered m ≡ role_of_reply false answered
unfolding bus_role kind_of
role_error m answered e = ap (λ (k : ℕ). bus_role_at (kind_by k) m answered) (eqb-true m.kind 3 e)

pub role_call : (m : Message) (answered : Option Expected) → (m.kind == 1) ≡ true → bus_role answered m ≡ CallIn
unfolding bus_role kind_of
role_call m answered e = ap (λ (k : ℕ). bus_role_at (kind_by k) m answered) (eqb-true m.kind 1 e)

pub role_signal : (m : Message) (answered : Option Expected) → (m.kind == 4) ≡ true → bus_role answered m ≡ role_of_signal m
unfolding bus_role kind_of
role_signal m answered e = ap (λ (k : ℕ). bus_role_at (kind_by k) m answered) (eqb-true m.kind 4 e)

pub role_reply : (m : Message) (answered : Option Expected) → (m.kind == 2 || m.kind == 3) ≡ true → bus_role answered m ≡ role_of_reply (m.kind == 2) answered
role_reply m answered e = by (m.kind == 2) refl (m.kind == 3) refl e
  where
    by : (b : Bool) → (m.kind == 2) ≡ b → (c : Bool) → (m.kind == 3) ≡ c → (b || c) ≡ true → bus_role answered m ≡ role_of_reply b answered
    by true two c three e = role_return m answered two
    by false two true three e = role_error m answered three
    by false two false three e = absurd cc

pub role_other : (m : Message) (answered : Option Expected) → (m.kind == 2 || m.kind == 3) ≡ false → (m.kind == 1) ≡ false → (m.kind == 4) ≡ false → bus_role answered m ≡ NoRole
unfolding bus_role kind_of
role_other m answered reply call signal = by (m.kind == 1) call (m.kind == 2) (m.kind == 3) reply (m.kind == 4) signal
  where
    by : (a : Bool) → a ≡ false → (b c : Bool) → (b || c) ≡ false → (d : Bool) → d ≡ false → bus_role_at (cond a Call (cond b Return (cond c Error (cond d Signal Other)))) m answered ≡ NoRole
    by true a b c e d f = absurd cc
    by false a true c e d f = absurd cc
    by false a false true e d f = absurd cc
    by false a false false e true f = absurd cc
    by false a false false e false f = refl

-- the answer matters only to returns and errors
pub role_unanswered : (m : Message) (one two : Option Expected) → (m.kind == 2 || m.kind == 3) ≡ false → bus_role one m ≡ bus_role two m
unfolding bus_role kind_of
role_unanswered m one two e = by (m.kind == 1) (m.kind == 2) (m.kind == 3) (m.kind == 4) e
  where
    by : (a b c d : Bool) → (b || c) ≡ false → bus_role_at (cond a Call (cond b Return (cond c Error (cond d Signal Other)))) m one ≡ bus_role_at (cond a Call (cond b Return (cond c Error (cond d Signal Other)))) m two
    by true b c d e = refl
    by false true c d e = absurd cc
    by false false true d e = absurd cc
    by false false false true e = refl
    by false false false false e = refl

-- ---- what is learned in a role

-- an answer is no call
pub reply_calls : (m : Message) (is_return : Bool) (answered : Option Expected) → called_at m (role_of_reply is_return answered) ≡ []
reply_calls m is_return None = refl
reply_calls m is_return (Some (expects.Call serial)) = refl
reply_calls m is_return (Some (expects.Hello serial)) = refl
reply_calls m true (Some (expects.Names serial)) = refl
reply_calls m false (Some (expects.Names serial)) = refl
reply_calls m is_return (Some (expects.Ping serial order what)) = refl
reply_calls m is_return (Some expects.OwnMatch) = refl
reply_calls m is_return (Some (expects.OwnOwner name)) = refl
reply_calls m is_return (Some expects.OwnNames) = refl

pub told_reply : (policy : Policy) (m : Message) (is_return : Bool) (answered : Option Expected) (view : SessionView) →
    with_facts policy (learned_at policy m (role_of_reply is_return answered)) view ≡ with_told policy m (role_of_reply is_return answered) view
told_reply policy m is_return answered view =
    ap (λ xs. with_calls xs (with_facts policy (learned_at policy m (role_of_reply is_return answered)) view)) (sym (reply_calls m is_return answered))

-- a list of names teaches nothing
names_teach : (policy : Policy) (m : Message) (is_return : Bool) (serial : ℕ) → learned_at policy m (cond is_return (NameList serial) (OtherAnswer serial)) ≡ []
names_teach policy m true serial = refl
names_teach policy m false serial = refl

-- ---- what is no longer expected

-- without what is expected at a serial
abbrev pub used_one : SessionView → ℕ → SessionView
used_one view r = record view { ledger = record view.ledger { expected = remove view.ledger.expected r } }

pub unused : (m : Message) (view : SessionView) → (m.kind == 2 || m.kind == 3) ≡ false → view ≡ with_used m view
unfolding kind_of
unused m view e = by (m.kind == 1) (m.kind == 2) (m.kind == 3) (m.kind == 4) e
  where
    by : (a b c d : Bool) → (b || c) ≡ false → view ≡ record view { ledger = record view.ledger { expected = used_up (cond a Call (cond b Return (cond c Error (cond d Signal Other)))) (reply_serial m) view.ledger.expected } }
    by true b c d e = refl
    by false true c d e = absurd cc
    by false false true d e = absurd cc
    by false false false true e = refl
    by false false false false e = refl

used_reply_at : (m : Message) (view : SessionView) (r : ℕ) → (m.kind == 2 || m.kind == 3) ≡ true → reply_serial m ≡ Some r → used_one view r ≡ with_used m view
unfolding kind_of
used_reply_at m view r e at = by (m.kind == 2) refl (m.kind == 3) refl e
  where
    here : (n : ℕ) → (kind_by n ≡ Return) ⊎ (kind_by n ≡ Error) → used_one view r ≡ record view { ledger = record view.ledger { expected = used_up (kind_by n) (reply_serial m) view.ledger.expected } }
    here n (inl k) = ap₂ (λ (k : Kind) (o : Option ℕ). record view { ledger = record view.ledger { expected = used_up k o view.ledger.expected } }) (sym k) (sym at)
    here n (inr k) = ap₂ (λ (k : Kind) (o : Option ℕ). record view { ledger = record view.ledger { expected = used_up k o view.ledger.expected } }) (sym k) (sym at)

    by : (b : Bool) → (m.kind == 2) ≡ b → (c : Bool) → (m.kind == 3) ≡ c → (b || c) ≡ true → used_one view r ≡ record view { ledger = record view.ledger { expected = used_up (kind_by m.kind) (reply_serial m) view.ledger.expected } }
    by true two c three e = here m.kind (inl (ap kind_by (eqb-true m.kind 2 two)))
    by false two true three e = here m.kind (inr (ap kind_by (eqb-true m.kind 3 three)))
    by false two false three e = absurd cc

pub used_reply : (x : Seen) (view : SessionView) (r : ℕ) → (x.kind == 2 || x.kind == 3) ≡ true → (message_seen x).parts.reply_serial ≡ Some r → used_one view r ≡ with_used (tree x) view
used_reply x view r reply at = used_reply_at (tree x) view r (replies_is x true reply) (reply_serial_is x ∙ at)

-- what is learned from an answer
pub learned_answer : (policy : Policy) (x : Seen) (answered : Option Expected) (view : SessionView) → (x.kind == 2 || x.kind == 3) ≡ true →
    with_facts policy (learned_at policy (tree x) (role_of_reply (x.kind == 2) answered)) view ≡ with_told policy (tree x) (bus_role answered (tree x)) view
learned_answer policy x answered view reply =
    told_reply policy (tree x) (x.kind == 2) answered view
    ∙ ap (λ (b : Bool). with_told policy (tree x) (role_of_reply b answered) view) (sym (kind_number x 2 refl))
    ∙ ap (λ (r : BusRole). with_told policy (tree x) r view) (sym (role_reply (tree x) answered (replies_is x true reply)))

-- ---- signals

some_seen : (o : Option (Bor (List ℕ))) → is_some (text_seen o) ≡ is_some o
some_seen None = refl
some_seen (Some t) = refl

has_destination : (x : Seen) (text : Option (Bor (List ℕ))) (b : Bool) → text_seen text ≡ (message_seen x).parts.destination → is_some text ≡ b → is_some (destination (tree x)) ≡ b
has_destination x text b of e = ap is_some (destination_is x ∙ sym of) ∙ some_seen text ∙ e

pub told_change : (policy : Policy) (x : Seen) (view : SessionView) → is_owner_change (tree x) ≡ true →
    with_facts policy (owners_of policy (three_texts (tree x))) view ≡ with_told policy (tree x) (role_of_signal (tree x)) view
told_change policy x view e =
    ap (λ (b : Bool). with_told policy (tree x) (cond b OwnerChange (cond (is_some (destination (tree x))) SignalIn BroadcastIn)) view) (sym e)

pub told_signal : (policy : Policy) (x : Seen) (view : SessionView) (text : Option (Bor (List ℕ))) → text_seen text ≡ (message_seen x).parts.destination → is_owner_change (tree x) ≡ false → is_some text ≡ true →
    with_facts policy (fact_of Met (if_unique (sender (tree x)))) view ≡ with_told policy (tree x) (role_of_signal (tree x)) view
told_signal policy x view text of e d =
    ap₂ (λ (a b : Bool). with_told policy (tree x) (cond a OwnerChange (cond b SignalIn BroadcastIn)) view) (sym e) (sym (has_destination x text true of d))

pub told_broadcast : (policy : Policy) (x : Seen) (view : SessionView) (text : Option (Bor (List ℕ))) → text_seen text ≡ (message_seen x).parts.destination → is_owner_change (tree x) ≡ false → is_some text ≡ false →
    view ≡ with_told policy (tree x) (role_of_signal (tree x)) view
told_broadcast policy x view text of e d =
    ap₂ (λ (a b : Bool). with_told policy (tree x) (cond a OwnerChange (cond b SignalIn BroadcastIn)) view) (sym e) (sym (has_destination x text false of d))

-- ---- what is shown

-- these are answers to calls of the client
abbrev IsAnswerRole : BusRole → Type 0
IsAnswerRole NoRole = ⊥
IsAnswerRole Unexpected = ⊥
IsAnswerRole MatchAnswer = ⊥
IsAnswerRole (OwnerAnswer name) = ⊥
IsAnswerRole NamesAnswer = ⊥
IsAnswerRole (PingAnswer serial order what) = ⊥
IsAnswerRole (NameList serial) = Unit {0}
IsAnswerRole (HelloAnswer serial) = Unit {0}
IsAnswerRole (OtherAnswer serial) = Unit {0}
IsAnswerRole CallIn = ⊥
IsAnswerRole OwnerChange = ⊥
IsAnswerRole SignalIn = ⊥
IsAnswerRole BroadcastIn = ⊥

list_signed : (x : Seen) (names : List Text) → text_list (tree x) ≡ Some names → x.signature.bytes.now ≡ codes "as"
list_signed x names e = by (bytes_eq x.signature.bytes.now (codes "as")) refl
  where
    by : (b : Bool) → bytes_eq x.signature.bytes.now (codes "as") ≡ b → x.signature.bytes.now ≡ codes "as"
    by true is = bytes_eq-true x.signature.bytes.now (codes "as") is
    by false is =
        absurd (let none : Some names ≡ None = sym e ∙ list-none (tree x).body (λ s. differ x.signature.bytes.now (codes "as") is (sym (ap (λ (q : Contents). q.signature) (seen x)) ∙ s)) in cc)

shown_at : (known : Knowledge) (policy : Policy) (x : Seen) (role : BusRole) → (IsAnswerRole role → IsSome (message_seen x).parts.reply_serial) → ShownBy x (showing_at policy known (tree x) role)
shown_at known policy x NoRole h = tt
shown_at known policy x Unexpected h = tt
shown_at known policy x MatchAnswer h = tt
shown_at known policy x (OwnerAnswer name) h = tt
shown_at known policy x NamesAnswer h = tt
shown_at known policy x (PingAnswer serial order what) h = tt
shown_at known policy x (NameList serial) h = by (text_list (tree x)) refl
  where
    by : (o : Option (List Text)) → text_list (tree x) ≡ o → ShownBy x (on_names serial o)
    by None e = tt
    by (Some names) e = (h tt, list_signed x names e)
shown_at known policy x (HelloAnswer serial) h = h tt
shown_at known policy x (OtherAnswer serial) h = h tt
shown_at known policy x CallIn h = tt
shown_at known policy x OwnerChange h = by (three_texts (tree x))
  where
    seen_or : (b : Bool) → ShownBy x (cond b Whole (Hide NameHidden))
    seen_or true = tt
    seen_or false = tt

    by : (o : Option (Text × Text × Text)) → ShownBy x (on_owner_change policy.sloppy known o)
    by None = tt
    by (Some texts) = seen_or (sees_change policy.sloppy known texts.0)
shown_at known policy x SignalIn h = tt
shown_at known policy x BroadcastIn h = by (may_broadcast policy known (tree x) (sender (tree x)))
  where
    by : (b : Bool) → ShownBy x (cond b Whole (Hide SenderNotTalk))
    by true = tt
    by false = tt

answers_something : (k : Kind) (m : Message) (o : Option Expected) → IsAnswerRole (bus_role_at k m o) → IsSome o
answers_something Call m o r = absurd r
answers_something Return m None r = absurd r
answers_something Return m (Some e) r = refl
answers_something Error m None r = absurd r
answers_something Error m (Some e) r = refl
answers_something Signal m o r = absurd (by (is_owner_change m) (is_some (destination m)) r)
  where
    by : (a b : Bool) → IsAnswerRole (cond a OwnerChange (cond b SignalIn BroadcastIn)) → ⊥
    by true b r = r
    by false true r = r
    by false false r = r
answers_something Other m o r = absurd r

expected_somewhere : (l : FinMap nat_cmp Expected) (r : Option ℕ) → IsSome (expected_at l r) → IsSome r
expected_somewhere l None s = s
expected_somewhere l (Some n) s = refl

pub shown_has : (policy : Policy) (known : Knowledge) (l : FinMap nat_cmp Expected) (x : Seen) → ShownBy x (showing_at policy known (tree x) (bus_role (expected_at l (reply_serial (tree x))) (tree x)))
unfolding bus_role
shown_has policy known l x =
    shown_at known policy x (bus_role_at (kind_of (tree x)) (tree x) (expected_at l (reply_serial (tree x))))
    (λ r. subst IsSome (reply_serial_is x) (expected_somewhere l (reply_serial (tree x)) (answers_something (kind_of (tree x)) (tree x) (expected_at l (reply_serial (tree x))) r)))

pub shown_by : (policy : Policy) (now : Knowledge) (l : FinMap nat_cmp Expected) (x : Seen) (answered : Option Expected) (s : Showing) → bus_role answered (tree x) ≡ bus_role (expected_at l (reply_serial (tree x))) (tree x)
    → s ≡ showing policy now answered (tree x) → ShownBy x s
unfolding showing
shown_by policy now l x answered s role is = subst (λ (s : Showing). ShownBy x s) (sym (is ∙ ap (λ (r : BusRole). showing_at policy now (tree x) r) role)) (shown_has policy now l x)

-- by what a session keeps, and by the answer that is lent
pub shown_now : (policy : Policy) (inside now : SessionView) (x : Seen) (lent answered : Option Expected) (s : Showing) → inside ≡ now → lent ≡ answered
    → s ≡ showing policy (known policy inside) lent (tree x) → s ≡ showing policy (known policy now) answered (tree x)
shown_now policy inside now x lent answered s view_is same is = is ∙ ap₂ (λ (v : SessionView) (o : Option Expected). showing policy (known policy v) o (tree x)) view_is same

pub role_as : (policy : Policy) (now : Knowledge) (x : Seen) (answered : Option Expected) (s : Showing) → s ≡ showing policy now answered (tree x) → s ≡ showing_at policy now (tree x) (bus_role answered (tree x))
unfolding showing
role_as policy now x answered s is = is

-- what was used up makes no difference to what is known
pub showing_as : (policy : Policy) (old mid : SessionView) (x : Seen) (answered : Option Expected) (s : Showing) → mid ≡ with_used (tree x) old
    → bus_role answered (tree x) ≡ bus_role (expected_at old.ledger.expected (reply_serial (tree x))) (tree x) → s ≡ showing policy (known policy mid) answered (tree x)
    → s ≡ showing_at policy (known policy old) (tree x) (bus_role (expected_at old.ledger.expected (reply_serial (tree x))) (tree x))
unfolding showing
showing_as policy old mid x answered s left role is =
    is
    ∙ ap (λ (v : SessionView). showing_at policy (known policy v) (tree x) (bus_role answered (tree x))) left
    ∙ ap (λ (r : BusRole). showing_at policy (known policy old) (tree x) r) role

-- what is learned by a message makes no difference to what is shown of it
shown_alike : (one two : Text → Level) (m : Message) (s : Showing) → ((serial : ℕ) → s ≡ Cut serial → one ≡ two) → seen_as one m s ≡ seen_as two m s
shown_alike one two m Whole h = refl
shown_alike one two m (Reply serial) h = refl
shown_alike one two m (Cut serial) h = ap (λ (level : Text → Level). seen_as level m (Cut serial)) (h serial refl)
shown_alike one two m (InsteadOf order reply what) h = refl
shown_alike one two m (Hide reason) h = refl

pub shown_told : (policy : Policy) (known : Knowledge) (m : Message) (role : BusRole) (view : SessionView) →
    with_shown policy m (showing_at policy known m role) (with_told policy m role view) ≡ with_told policy m role (with_shown policy m (showing_at policy known m role) view)
shown_told policy known m role view =
    ap (λ (ms : List Message). with_told policy m role (record view { client_side = view.client_side ++ flat_map spell ms }))
    (shown_alike (kept_level policy (taught policy view.ids (learned_at policy m role))) (kept_level policy view.ids) m (showing_at policy known m role) (λ serial. same role serial))
  where
    no_cut : (b : Bool) (reason : Reason) (serial : ℕ) → cond b Whole (Hide reason) ≡ Cut serial → ⊥
    no_cut true reason serial e = cc
    no_cut false reason serial e = cc

    change : (o : Option (Text × Text × Text)) (serial : ℕ) → on_owner_change policy.sloppy known o ≡ Cut serial → ⊥
    change None serial e = cc
    change (Some texts) serial e = no_cut (sees_change policy.sloppy known texts.0) NameHidden serial e

    same : (role : BusRole) (serial : ℕ) → showing_at policy known m role ≡ Cut serial → kept_level policy (taught policy view.ids (learned_at policy m role)) ≡ kept_level policy view.ids
    same NoRole serial e = refl
    same Unexpected serial e = refl
    same MatchAnswer serial e = refl
    same (OwnerAnswer name) serial e = absurd cc
    same NamesAnswer serial e = refl
    same (PingAnswer s order what) serial e = refl
    same (NameList s) serial e = refl
    same (HelloAnswer s) serial e = absurd cc
    same (OtherAnswer s) serial e = refl
    same CallIn serial e = absurd cc
    same OwnerChange serial e = absurd (change (three_texts m) serial e)
    same SignalIn serial e = absurd cc
    same BroadcastIn serial e = refl

-- ---- what is asked then

-- nothing, if it isn't the answer to the proxy's own ListNames
none_asked : (policy : Policy) (k : Kind) (m : Message) (o : Option Expected) → own_names o ≡ false → due_at policy m (bus_role_at k m o) ≡ []
none_asked policy Call m o e = refl
none_asked policy Return m None e = refl
none_asked policy Return m (Some (expects.Call serial)) e = refl
none_asked policy Return m (Some (expects.Hello serial)) e = refl
none_asked policy Return m (Some (expects.Names serial)) e = refl
none_asked policy Return m (Some (expects.Ping serial order what)) e = refl
none_asked policy Return m (Some expects.OwnMatch) e = refl
none_asked policy Return m (Some (expects.OwnOwner name)) e = refl
none_asked policy Return m (Some expects.OwnNames) e = absurd cc
none_asked policy Error m None e = refl
none_asked policy Error m (Some (expects.Call serial)) e = refl
none_asked policy Error m (Some (expects.Hello serial)) e = refl
none_asked policy Error m (Some (expects.Names serial)) e = refl
none_asked policy Error m (Some (expects.Ping serial order what)) e = refl
none_asked policy Error m (Some expects.OwnMatch) e = refl
none_asked policy Error m (Some (expects.OwnOwner name)) e = refl
none_asked policy Error m (Some expects.OwnNames) e = absurd cc
none_asked policy Signal m o e = by (is_owner_change m) (is_some (destination m))
  where
    by : (a b : Bool) → due_at policy m (cond a OwnerChange (cond b SignalIn BroadcastIn)) ≡ []
    by true b = refl
    by false true = refl
    by false false = refl
none_asked policy Other m o e = refl

pub told_as : (policy : Policy) (known_now : Knowledge) (x : Seen) (answered : Option Expected) (s : Showing) (view : SessionView) → own_names answered ≡ false → known_now ≡ known policy view → s ≡ showing_at policy known_now (tree x) (bus_role answered (tree x)) →
    with_shown policy (tree x) s (with_told policy (tree x) (bus_role answered (tree x)) view) ≡ with_role policy (tree x) (bus_role answered (tree x)) view
unfolding bus_role
told_as policy known_now x answered s view other same is =
    ap₂ (λ (s : Showing) (k : Knowledge). with_shown policy (tree x) s (with_told policy (tree x) (bus_role_at (kind_of (tree x)) (tree x) answered) view)) is same
    ∙ ap (λ (k : Knowledge). with_shown policy (tree x) (showing_at policy k (tree x) (bus_role_at (kind_of (tree x)) (tree x) answered)) (with_told policy (tree x) (bus_role_at (kind_of (tree x)) (tree x) answered) view)) same
    ∙ shown_told policy (known policy view) (tree x) (bus_role_at (kind_of (tree x)) (tree x) answered) view
    ∙ ap (λ (ds : List Sent). sending ds view (with_told policy (tree x) (bus_role_at (kind_of (tree x)) (tree x) answered) (with_shown policy (tree x) (showing_at policy (known policy view) (tree x) (bus_role_at (kind_of (tree x)) (tree x) answered)) view)))
    (sym (none_asked policy (kind_of (tree x)) (tree x) answered other))

only_own : (o : Option Expected) → own_names o ≡ true → o ≡ Some expects.OwnNames
only_own None e = absurd cc
only_own (Some (expects.Call serial)) e = absurd cc
only_own (Some (expects.Hello serial)) e = absurd cc
only_own (Some (expects.Names serial)) e = absurd cc
only_own (Some (expects.Ping serial order what)) e = absurd cc
only_own (Some expects.OwnMatch) e = absurd cc
only_own (Some (expects.OwnOwner name)) e = absurd cc
only_own (Some expects.OwnNames) e = refl

pub names_as : (x : Seen) (answered : Option Expected) → own_names answered ≡ true → IfSome answered (λ _. (x.kind == 2 || x.kind == 3) ≡ true) → NamesAnswer ≡ bus_role answered (tree x)
names_as x answered own reply =
    let is = only_own answered own in
    let kind : (x.kind == 2 || x.kind == 3) ≡ true = subst (λ (o : Option Expected). IfSome o (λ _. (x.kind == 2 || x.kind == 3) ≡ true)) is reply in
    sym (ap (λ (o : Option Expected). bus_role o (tree x)) is ∙ role_reply (tree x) (Some expects.OwnNames) (replies_is x true kind))

-- ---- a message with its answer taken

pub took_used : (m : Message) (expected other old mid new : SessionView) → mid ≡ with_used m old → expected ≡ other → TookMessage expected mid new → TookMessage other old new
took_used m expected other old mid new is same (inl done) = inl (done ∙ same)
took_used m expected other old mid new is same (inr refused) = inr (record {
  running = sym (ap (λ (v : SessionView). v.ended) is) ∙ refused.running;
  ended = refused.ended;
  kept = record {
    mode = refused.kept.mode ∙ ap (λ (v : SessionView). v.mode) is;
    client = refused.kept.client ∙ ap (λ (v : SessionView). v.client) is;
    bus = refused.kept.bus ∙ ap (λ (v : SessionView). v.bus) is;
    bus_side = refused.kept.bus_side ∙ ap (λ (v : SessionView). v.bus_side) is;
    client_side = refused.kept.client_side ∙ ap (λ (v : SessionView). v.client_side) is;
    greeted = refused.kept.greeted ∙ ap (λ (v : SessionView). v.greeted) is;
    notes = refused.kept.notes ∙ ap (λ (v : SessionView). v.notes) is;
    numbered = refused.kept.numbered ∙ ap (λ (v : SessionView). v.numbered) is;
    watches = refused.kept.watches ∙ ap (λ (v : SessionView). v.watches) is;
    visible = refused.kept.visible ∙ ap (λ (v : SessionView). v.visible) is;
  };
})

-- if memory sufficed, the result is as expected; else the session ends
pub took_or_ends : (done : Result (Unit {0}) AllocError) (goes : Bool) (expected old mid new : SessionView) → old.ended ≡ None → OnOk done (mid ≡ expected) → OnErr done (KeepsSides old mid) →
    OnOk done ((goes ≡ true) × (new ≡ mid)) → OnErr done ((goes ≡ false) × (new ≡ ended_by Memory mid)) → TookMessage expected old new
took_or_ends (Ok x) goes expected old mid new runs ok err on off = inl (on.1 ∙ ok)
took_or_ends (Err e) goes expected old mid new runs ok err on off = inr (record {
  running = runs;
  ended = ap (λ (v : SessionView). v.ended) off.1;
  kept = record {
    mode = ap (λ (v : SessionView). v.mode) off.1 ∙ err.mode;
    client = ap (λ (v : SessionView). v.client) off.1 ∙ err.client;
    bus = ap (λ (v : SessionView). v.bus) off.1 ∙ err.bus;
    bus_side = ap (λ (v : SessionView). v.bus_side) off.1 ∙ err.bus_side;
    client_side = ap (λ (v : SessionView). v.client_side) off.1 ∙ err.client_side;
    greeted = ap (λ (v : SessionView). v.greeted) off.1 ∙ err.greeted;
    notes = ap (λ (v : SessionView). v.notes) off.1 ∙ err.notes;
    numbered = ap (λ (v : SessionView). v.numbered) off.1 ∙ err.numbered;
    watches = ap (λ (v : SessionView). v.watches) off.1 ∙ err.watches;
    visible = ap (λ (v : SessionView). v.visible) off.1 ∙ err.visible;
  };
})
