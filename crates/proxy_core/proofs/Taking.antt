-- What the code reads of a message is of the message that its bytes spell.
use Rattle.std.proofs.Common.{ℕ, ◌≡◌, Bool, true, false, cond, List, Option, Some, None, refl, ap, ap₂, ◌∙◌, sym, subst, codes}
use Rattle.std.specs.Prelude.{◌&&◌, ◌||◌, ◌==◌, IsSome, IfErr, IfOk, OnOk, Result, Ok, Err, unwrap_or}
use Rattle.dbus_header.specs.Contents.{Contents, contents_of, message_of, message_in}
use Rattle.dbus_header.specs.Message.{Message, Valid, destination, reply_serial, only_text, spell, text_list, with_number, with_reply_serial, with_serial}
use Rattle.dbus_header.specs.Read.{message_seen}
use Rattle.dbus_header.specs.declared.message.Message.{Message as Seen}
use Rattle.dbus_header.proofs.MessageIn.{has-contents, is-spelled, message-is}
use Rattle.dbus_header.proofs.NumberLaws.{reply_patched, reply_stands, serial_patched}
use Rattle.dbus_header.specs.Kinds.{Kind, Call, Return, Error, Signal, Other, kind_by, kind_of}
use Rattle.policy_view.specs.Past.{if_return, returned_names, returned_text}
use Rattle.std.proofs.lemmas.Bool.{eqb-true}
use Rattle.policy_view.specs.Sent.{Passed, asks_names, expected_of, is_hello}
use Rattle.policy_view.specs.Texts.{has_text}
use Rattle.policy_view.specs.Verdicts.{number_or_0}
use Rattle.reply_ledger.specs.declared.kind.Kind.TheVariants as expects
use Rattle.proxy_core.specs.Messages.{is_bus_call_by, is_bus_member_by}
use Rattle.policy_view.proofs.Frames.{spelled_message}

-- ---- the message

abbrev pub tree : Seen → Message
tree x = message_in x.bytes.now

pub seen : (x : Seen) → contents_of (tree x) ≡ message_seen x
seen x = has-contents x.bytes.now (message_seen x) x.read

pub read : (x : Seen) → message_of x.bytes.now ≡ Some (tree x)
read x = is-spelled x.bytes.now (message_seen x) x.read

-- it is valid, and its bytes spell it
abbrev pub IsSpelled : List ℕ → Type 0
IsSpelled bytes = (m : Message) → message_of bytes ≡ Some m → Valid m × (bytes ≡ spell m)

pub bytes_in : (x : Seen) → IsSpelled x.bytes.now → x.bytes.now ≡ spell (tree x)
bytes_in x is = (is (tree x) (read x)).1

-- a valid message is the one that its spelling spells
pub spelled_in : (bytes : List ℕ) (m : Message) → Valid m → bytes ≡ spell m → message_in bytes ≡ m
spelled_in bytes m valid is = message-is bytes m (spelled_message bytes m valid is)

-- ---- with another serial

pub with_serial_bytes : (x : Seen) (n : ℕ) → IsSpelled x.bytes.now → with_number x.order 8 n x.bytes.now ≡ spell (with_serial n (tree x))
with_serial_bytes x n is =
    ap₂ (λ o bytes. with_number o 8 n bytes) (sym (ap (λ (q : Contents). q.order) (seen x))) (bytes_in x is)
    ∙ sym (serial_patched n (tree x))

pub with_reply_bytes : (x : Seen) (place n : ℕ) → IsSpelled x.bytes.now → IsSome (message_seen x).parts.reply_serial → (message_seen x).reply_place ≡ Some place → with_number x.order place n x.bytes.now ≡ spell (with_reply_serial n (tree x))
with_reply_bytes x place n spelled has at = by (message_seen x).parts.reply_serial refl has
  where
    by : (o : Option ℕ) → (message_seen x).parts.reply_serial ≡ o → IsSome o → with_number x.order place n x.bytes.now ≡ spell (with_reply_serial n (tree x))
    by None is has = absurd cc
    by (Some r) is has =
        ap₂ (λ o bytes. with_number o place n bytes) (sym (ap (λ (q : Contents). q.order) (seen x))) (bytes_in x spelled)
        ∙ sym (reply_patched n r place (tree x) (spelled (tree x) (read x)).0 (ap (λ (q : Contents). q.parts.reply_serial) (seen x) ∙ is) (ap (λ (q : Contents). q.reply_place) (seen x) ∙ at)).bytes

-- if there is a reply serial, its number has a place
pub has_place : (x : Seen) → IsSome (message_seen x).parts.reply_serial → (message_seen x).reply_place ≡ None → ⊥
has_place x has none = by (message_seen x).parts.reply_serial refl has
  where
    by : (o : Option ℕ) → (message_seen x).parts.reply_serial ≡ o → IsSome o → ⊥
    by None is has = absurd cc
    by (Some r) is has =
        let p = reply_stands (tree x) r (ap (λ (q : Contents). q.parts.reply_serial) (seen x) ∙ is) in
        let h : Some p.0 ≡ None = sym p.1 ∙ ap (λ (q : Contents). q.reply_place) (seen x) ∙ none in
        cc

-- ---- what a return gives

pub kind_is : (x : Seen) → (tree x).kind ≡ x.kind
kind_is x = ap (λ (q : Contents). q.kind) (seen x)

is_return : (x : Seen) → (x.kind == 2) ≡ true → kind_of (tree x) ≡ Return
unfolding kind_of
is_return x e = ap kind_by (kind_is x ∙ eqb-true x.kind 2 e)

no_return : {A : Type 0} (k : ℕ) (body : Option A) → (k == 2) ≡ false → if_return (kind_by k) body ≡ None
no_return {A} k body e = by (k == 1) (k == 2) (k == 3) (k == 4) e
  where
    by : (a b c d : Bool) → b ≡ false → if_return {A = A} (cond a Call (cond b Return (cond c Error (cond d Signal Other)))) body ≡ None
    by true b c d e = refl
    by false true c d e = absurd cc
    by false false true d e = refl
    by false false false true e = refl
    by false false false false e = refl

pub text_returned : (x : Seen) → (x.kind == 2) ≡ true → returned_text (tree x) ≡ only_text (tree x)
unfolding returned_text
text_returned x e = ap (λ (k : Kind). if_return k (only_text (tree x))) (is_return x e)

pub nothing_returned : (x : Seen) → (x.kind == 2) ≡ false → returned_text (tree x) ≡ None
unfolding returned_text kind_of
nothing_returned x e = no_return (tree x).kind (only_text (tree x)) (ap (λ (k : ℕ). k == 2) (kind_is x) ∙ e)

pub names_returned : (x : Seen) → (x.kind == 2) ≡ true → returned_names (tree x) ≡ text_list (tree x)
unfolding returned_names
names_returned x e = ap (λ (k : Kind). if_return k (text_list (tree x))) (is_return x e)

pub no_names_returned : (x : Seen) → (x.kind == 2) ≡ false → returned_names (tree x) ≡ None
unfolding returned_names kind_of
no_names_returned x e = no_return (tree x).kind (text_list (tree x)) (ap (λ (k : ℕ). k == 2) (kind_is x) ∙ e)

-- ---- what is asked of the bus

pub asks_is : (x : Seen) → asks_names (tree x) ≡ (is_bus_member_by (codes "ListNames") (message_seen x) || is_bus_member_by (codes "ListActivatableNames") (message_seen x))
unfolding asks_names
asks_is x = ap (λ (q : Contents). is_bus_member_by (codes "ListNames") q || is_bus_member_by (codes "ListActivatableNames") q) (seen x)

no_member : (x : Seen) (name : List ℕ) → is_bus_call_by (message_seen x) ≡ false → is_bus_member_by name (message_seen x) ≡ false
no_member x name e = ap (λ (b : Bool). b && has_text (message_seen x).parts.member name) e

-- a call that isn't of the bus is answered as any other
pub asks_nothing : (x : Seen) → is_bus_call_by (message_seen x) ≡ false → expected_of (Passed (tree x)) ≡ expects.Call x.serial
unfolding is_hello
asks_nothing x e =
    let no_hello : is_hello (tree x) ≡ false = ap (is_bus_member_by (codes "Hello")) (seen x) ∙ no_member x (codes "Hello") e in
    let no_names : asks_names (tree x) ≡ false = asks_is x ∙ ap₂ (λ (a b : Bool). a || b) (no_member x (codes "ListNames") e) (no_member x (codes "ListActivatableNames") e) in
    ap₂ (λ (a b : Bool). cond a (expects.Hello (tree x).serial) (cond b (expects.Names (tree x).serial) (expects.Call (tree x).serial))) no_hello no_names
    ∙ ap (λ (q : Contents). expects.Call q.serial) (seen x)

pub replies_is : (x : Seen) (b : Bool) → (x.kind == 2 || x.kind == 3) ≡ b → ((tree x).kind == 2 || (tree x).kind == 3) ≡ b
replies_is x b e = ap (λ (k : ℕ). k == 2 || k == 3) (kind_is x) ∙ e

pub destination_is : (x : Seen) → destination (tree x) ≡ (message_seen x).parts.destination
destination_is x = ap (λ (q : Contents). q.parts.destination) (seen x)

pub reply_serial_is : (x : Seen) → reply_serial (tree x) ≡ (message_seen x).parts.reply_serial
reply_serial_is x = ap (λ (q : Contents). q.parts.reply_serial) (seen x)

pub number_is : (o : Option ℕ) → number_or_0 o ≡ unwrap_or o 0
number_is None = refl
number_is (Some n) = refl

-- what holds if memory sufficed
pub on_ok : {A E : Type 0} (r : Result A E) (P Q : Type 0) → (P → Q) → OnOk r P → OnOk r Q
on_ok (Ok x) P Q f p = f p
on_ok (Err e) P Q f p = p

-- what is so of the value, and of the error
pub ok_of : {A E : Type 0} (r : Result A E) (x : A) (P : A → Type 0) → r ≡ Ok x → IfOk r P → P x
ok_of {A} {E} r x P is p = subst (λ (q : Result A E). IfOk q P) is p

pub err_of : {A E : Type 0} (r : Result A E) (e : E) (P : E → Type 0) → r ≡ Err e → IfErr r P → P e
err_of {A} {E} r e P is p = subst (λ (q : Result A E). IfErr q P) is p

pub kind_number : (x : Seen) (n : ℕ) {b : Bool} → (x.kind == n) ≡ b → ((tree x).kind == n) ≡ b
kind_number x n e = ap (λ (k : ℕ). k == n) (kind_is x) ∙ e
