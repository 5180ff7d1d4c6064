-- No more replies pass than there were calls that want one.
use Rattle.std.proofs.Common.{ℕ, ◌≡◌, ◌+◌, ◌-◌, ◌≤◌, Bool, true, false, cond, List, [], ◌∷◌, ◌++◌, Option, Some, None, refl, ap, ap₂, ◌∙◌, sym, subst, arith, count_by}
use Rattle.std.specs.Prelude.{◌==◌, nat_lt}
use Rattle.std.proofs.lemmas.Bool.{and_parts, eqb-true}
use Rattle.std.proofs.lemmas.Bool.Decides.{nat_tests}
use Rattle.std.proofs.lemmas.List.Sums.{sum_by-append}
use Rattle.byte_lists.proofs.Bytes.{bytes_eq-true}
use Rattle.dbus_header.specs.Message.{Message}
use Rattle.policy_args.specs.Policy.{Policy}
use Rattle.policy_view.specs.Knowledge.{knowledge}
use Rattle.policy_view.specs.Sent.{Exchange, Told, is_same, nothing_before, owed, same_text}
use Rattle.policy_view.specs.Verdicts.{ClientRole, OfUnknownType, Reply, Broadcast, SignalTo, StandardBusCall, OtherBusCall, BusCall, CallTo, client_role, has_refused_field, on_unknown_field, reply_to, verdict, verdict_at}
use Rattle.policy_view.specs.Past.{Line, Msg, Raw, Ended, History, after, called_at, judged, past, replied_on, role}
use Rattle.policy_view.specs.declared.Side.TheVariants.{Client, Bus}
use Rattle.policy_view.specs.declared.Verdict.{Verdict}
use Rattle.policy_view.specs.declared.Verdict.TheVariants.{Pass, Ping, Drop}
use Rattle.policy_view.specs.declared.Reason.TheVariants.{NotOutstanding, UnknownField}
use Rattle.dbus_header.specs.declared.Instead.TheVariants.{AccessDenied}
use Rattle.dbus_header.specs.Kinds.{Kind, Call, Return, Error, Signal, Other, expects_reply, kind_of}

abbrev pub times : Exchange → List Exchange → ℕ
times e exchanges = count_by (is_same e) exchanges

pub times_append : (e : Exchange) (xs ys : List Exchange) → times e (xs ++ ys) ≡ times e xs + times e ys
times_append e xs ys = sum_by-append (λ x. cond (is_same e x) 1 0) xs ys

pub times_one : (e x : Exchange) → times e (x ∷ []) ≡ cond (is_same e x) 1 0
times_one e x = omega arith

-- two equal exchanges, one of which has a peer
same_exchange : (e x : Exchange) → is_same e x ≡ true → e ≡ x
same_exchange e x h = by e.peer refl x.peer refl (and_parts (same_text e.peer x.peer) (e.number == x.number) h)
  where
    by : (p : Option (List ℕ)) → e.peer ≡ p → (q : Option (List ℕ)) → x.peer ≡ q → (same_text e.peer x.peer ≡ true) × ((e.number == x.number) ≡ true) → e ≡ x
    by None p q is parts = absurd (let no : same_text None x.peer ≡ true = ap (λ o. same_text o x.peer) (sym p) ∙ parts.0 in cc)
    by (Some s) p None is parts = absurd (let no : same_text (Some s) None ≡ true = ap₂ same_text (sym p) (sym is) ∙ parts.0 in cc)
    by (Some s) p (Some t) is parts =
        let texts : s ≡ t = bytes_eq-true s t (ap₂ same_text (sym p) (sym is) ∙ parts.0) in
        ap₂ (λ peer number. record { peer = peer; number = number }) (p ∙ ap Some texts ∙ sym is) (eqb-true e.number x.number parts.1)

-- a reply that passes was owed
was_owed : (policy : Policy) (told : Told) (m : Message) → client_role m ≡ Reply → judged policy told m ≡ Pass → nat_lt 0 (owed told (reply_to m)) ≡ true
unfolding judged verdict knowledge
was_owed policy told m r v = by (nat_lt 0 (owed told (reply_to m))) refl (ap (verdict_at policy (knowledge policy told) m) (sym r) ∙ known_alone (has_refused_field policy m) v)
  where
    dropped : (k : Kind) → on_unknown_field k m ≡ Pass → ⊥
    dropped Call e = by_flags (expects_reply m) e
      where
        by_flags : (b : Bool) → cond b (Ping AccessDenied UnknownField) (Drop UnknownField) ≡ Pass → ⊥
        by_flags true e = cc
        by_flags false e = cc
    dropped Return e = cc
    dropped Error e = cc
    dropped Signal e = cc
    dropped Other e = cc

    known_alone : (b : Bool) → cond b (on_unknown_field (kind_of m) m) (verdict_at policy (knowledge policy told) m (client_role m)) ≡ Pass → verdict_at policy (knowledge policy told) m (client_role m) ≡ Pass
    known_alone true e = absurd (dropped (kind_of m) e)
    known_alone false e = e

    by : (b : Bool) → nat_lt 0 (owed told (reply_to m)) ≡ b → cond (nat_lt 0 (owed told (reply_to m))) Pass (Drop NotOutstanding) ≡ Pass → nat_lt 0 (owed told (reply_to m)) ≡ true
    by true is e = is
    by false is e = absurd (let no : Drop NotOutstanding ≡ Pass = sym (ap (λ (b : Bool). cond b Pass (Drop NotOutstanding)) is) ∙ e in cc)

-- with the replies that a client's message adds
with_replied : (policy : Policy) (told : Told) (m : Message) (e : Exchange) → times e told.replied ≤ times e told.called →
    (r : ClientRole) → client_role m ≡ r → (v : Verdict) → judged policy told m ≡ v → times e told.replied + times e (replied_on m r v) ≤ times e told.called
unfolding owed
with_replied policy told m e h OfUnknownType r v is = omega arith
with_replied policy told m e h Reply r Pass is =
    let owing = was_owed policy told m r is in
    subst (λ n. times e told.replied + n ≤ times e told.called) (sym (times_one e (reply_to m))) (by (is_same e (reply_to m)) refl owing)
  where
    by : (b : Bool) → is_same e (reply_to m) ≡ b → nat_lt 0 (times (reply_to m) told.called - times (reply_to m) told.replied) ≡ true → times e told.replied + cond b 1 0 ≤ times e told.called
    by true same owing =
        let at : e ≡ reply_to m = same_exchange e (reply_to m) same in
        let lent : nat_lt 0 (times e told.called - times e told.replied) ≡ true = ap (λ x. nat_lt 0 (times x told.called - times x told.replied)) at ∙ owing in
        grind (arith, nat_tests, lent)
    by false same owing = omega (arith, h)
with_replied policy told m e h Reply r (Ping what reason) is = omega arith
with_replied policy told m e h Reply r (Drop reason) is = omega arith
with_replied policy told m e h Broadcast r v is = omega arith
with_replied policy told m e h (SignalTo name) r v is = omega arith
with_replied policy told m e h StandardBusCall r v is = omega arith
with_replied policy told m e h OtherBusCall r v is = omega arith
with_replied policy told m e h BusCall r v is = omega arith
with_replied policy told m e h (CallTo name) r v is = omega arith

pub replied_within : (policy : Policy) (items : History) (e : Exchange) → times e (past policy items).told.replied ≤ times e (past policy items).told.called
unfolding past after nothing_before
replied_within policy [] e = omega arith
replied_within policy (Msg Client m ∷ before) e =
    let told = (past policy before).told in
    let more = with_replied policy told m e (replied_within policy before e) (client_role m) refl (judged policy told m) refl in
    subst (λ n. n ≤ times e told.called) (sym (times_append e told.replied (replied_on m (client_role m) (judged policy told m)))) more
replied_within policy (Msg Bus m ∷ before) e =
    let told = (past policy before).told in
    let h = replied_within policy before e in
    let more = times_append e told.called (called_at m (role (past policy before) m)) in
    omega (arith, h, more)
replied_within policy (Line side bytes ∷ before) e = replied_within policy before e
replied_within policy (Raw side bytes ∷ before) e = replied_within policy before e
replied_within policy (Ended end ∷ before) e = replied_within policy before e
