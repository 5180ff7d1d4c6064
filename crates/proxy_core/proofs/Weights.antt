-- How much more waits after a message: at most nineteen bytes for each of its own, beside the own calls, which are sent
-- once.
use Rattle.std.proofs.Common.{ℕ, ◌≡◌, ◌+◌, ◌*◌, ◌≤◌, ◌%◌, Bool, true, false, cond, List, [], ◌∷◌, ◌++◌, length, map, Option, Some, None, refl, ap, ◌∙◌, sym, arith, length-append, flat_map, codes, inl, inr}
use Rattle.std.specs.Int.{w32}
use Rattle.std.specs.List.{filter}
use Rattle.std.specs.Prelude.{◌⊎◌, ◌==◌, ◌&&◌, ◌||◌, is_none, not, nat_le, nat_lt}
use Rattle.std.proofs.lemmas.Bool.{and_parts, cases_Bool, eqb-true}
use Rattle.dbus_names.specs.Texts.{Text}
use Rattle.dbus_types.specs.Signature.{basic, string, uint32, spelled_types}
use Rattle.dbus_values.specs.Bodies.{list_in}
use Rattle.dbus_values.specs.Values.{Value, a_number, an_array, number_bytes, spelled, type_of}
use Rattle.dbus_values.specs.declared.Order.{Order}
use Rattle.dbus_values.proofs.ValueLaws.{wide_32}
use Rattle.dbus_header.specs.Contents.{body_bytes}
use Rattle.dbus_header.specs.Kinds.{Kind, Call, Return, Error, Signal, Other, kind_of}
use Rattle.dbus_header.specs.Message.{Field, Message, Valid, body_place, field_value, has_field, is_field_of, may_all_follow, may_follow, reply_serial, spell, spelled_list, text_list, with_names, with_reply_serial, with_serial}
use Rattle.dbus_header.specs.declared.Instead.{Instead}
use Rattle.dbus_header.specs.declared.Instead.TheVariants.{AccessDenied, NameHasNoOwner, ServiceUnknown, False}
use Rattle.dbus_header.proofs.Aligned.{aligned_8}
use Rattle.dbus_header.proofs.ReplyLaws.{is_reply, reply_field, reply_len, set_reply}
use Rattle.policy_args.specs.Policy.{Policy}
use Rattle.policy_args.specs.declared.Level.{Level}
use Rattle.policy_view.specs.History.{most_sent}
use Rattle.policy_view.specs.Own.{answer_in_place, ping}
use Rattle.policy_view.specs.Past.{due_on, has_greeted, if_return, names_due, replied_on, returned_names}
use Rattle.policy_view.specs.Sent.{Exchange, Passed, Pinged, Sent, is_hello, message_of, own_calls, spelled_from}
use Rattle.policy_view.specs.Shown.{BusRole, NamesAnswer, bus_role, cut, cut_names, is_seen, seen_as, showing_at}
use Rattle.policy_view.specs.Verdicts.{client_role, verdict}
use Rattle.policy_view.specs.declared.Reason.TheVariants.{OwnAnswer}
use Rattle.policy_view.specs.declared.Showing.{Showing}
use Rattle.policy_view.specs.declared.Showing.TheVariants.{Whole, Reply, Cut, Instead as InsteadOf, Hide}
use Rattle.policy_view.specs.declared.Side.{Side}
use Rattle.policy_view.specs.declared.Side.TheVariants.{Client, Bus}
use Rattle.policy_view.specs.declared.Verdict.{Verdict}
use Rattle.policy_view.specs.declared.Verdict.TheVariants.{Pass, Ping, Drop}
use Rattle.ping_rewrite.proofs.Lengths.{answer_lengths, ping_lengths}
use Rattle.unique_names.specs.Taught.{kept_level}
use Rattle.name_filters.specs.Names.{names_bytes}
use Rattle.name_filters.proofs.CutBytes.{fields_of, front, front-length, spell-front}
use Rattle.name_filters.proofs.ListBodies.{array_spelled, is_list, names_array}
use Rattle.name_filters.proofs.NameBytes.{fewer-short}
use Rattle.own_calls.proofs.Lengths.{asked-calls-short}
use Rattle.verdicts.specs.Kept.{expected_at}
use Rattle.proxy_core.specs.Sessions.{SessionView}
use Rattle.proxy_core.specs.Messages.{decision_in, known, sending, with_message, with_note, with_noted_message, with_replied, with_role, with_sent, with_shown, with_told, with_used, with_verdict, with_watched_message}
use Rattle.proxy_core.specs.Steps.{own_to_come, weight}

-- ---- how long a message is

-- by its header fields and its body
sized : (m : Message) → length (spell m) ≡ body_place (length (fields_of m)) + length (body_bytes m)
sized m =
    ap length (spell-front m)
    ∙ length-append (front m (length (body_bytes m))) (body_bytes m)
    ∙ ap (λ n. n + length (body_bytes m)) (front-length m (length (body_bytes m)))

long_as : (n l p b : ℕ) → n ≡ 16 + l + p + b → 16 ≤ n
long_as n l p b e = omega (arith, e)

pub spell_long : (m : Message) → 16 ≤ length (spell m)
spell_long m = long_as (length (spell m)) _ _ _ (sized m)

-- with another serial
pub serial_length : (n : ℕ) (m : Message) → length (spell (with_serial n m)) ≡ length (spell m)
serial_length n m = sized (with_serial n m) ∙ sym (sized m)

-- with another reply serial, whose number has four bytes too
set_reply_field : (n x : ℕ) → set_reply n (reply_field x) ≡ reply_field n
unfolding reply_field
set_reply_field n x = refl

field_length : (n : ℕ) (o : Order) (p : ℕ) (f : Field) → is_field_of f.code f.value ≡ true → length (spelled o p (field_value (set_reply n f))) ≡ length (spelled o p (field_value f))
field_length n o p f good = by (cases_Bool (f.code == 5))
  where
    by : ((f.code == 5) ≡ true) ⊎ ((f.code == 5) ≡ false) → length (spelled o p (field_value (set_reply n f))) ≡ length (spelled o p (field_value f))
    by (inl e) =
        let is = is_reply f (eqb-true f.code 5 e) good in
        ap (λ (g : Field). length (spelled o p (field_value (set_reply n g)))) is.1
        ∙ ap (λ (g : Field). length (spelled o p (field_value g))) (set_reply_field n is.0)
        ∙ reply_len o p n
        ∙ sym (reply_len o p is.0)
        ∙ ap (λ (g : Field). length (spelled o p (field_value g))) (sym is.1)
    by (inr e) = ap (λ (c : Bool). length (spelled o p (field_value (cond c (record f { value = a_number uint32 n }) f)))) e

fields_length : (n : ℕ) (o : Order) (fields before : List Field) (p : ℕ) → may_all_follow before fields ≡ true →
    length (spelled_list o p (map field_value (map (set_reply n) fields))) ≡ length (spelled_list o p (map field_value fields))
fields_length n o [] before p m = refl
fields_length n o (f ∷ fields) before p m =
    let a = and_parts (may_follow before f) (may_all_follow (f ∷ before) fields) m in
    let b = and_parts (is_field_of f.code f.value) (nat_lt 9 f.code || not (has_field f.code before)) a.0 in
    let old = spelled o p (field_value f) in
    let new = spelled o p (field_value (set_reply n f)) in
    length-append new (spelled_list o (p + length new) (map field_value (map (set_reply n) fields)))
    ∙ ap (λ k. k + length (spelled_list o (p + k) (map field_value (map (set_reply n) fields)))) (field_length n o p f b.0)
    ∙ ap (λ k. length old + k) (fields_length n o fields (f ∷ before) (p + length old) a.1)
    ∙ sym (length-append old (spelled_list o (p + length old) (map field_value fields)))

reply_length : (n : ℕ) (m : Message) → may_all_follow [] m.fields ≡ true → length (spell (with_reply_serial n m)) ≡ length (spell m)
reply_length n m follow =
    sized (with_reply_serial n m)
    ∙ ap (λ l. body_place l + length (spelled_list m.order (body_place l) m.body)) (fields_length n m.order m.fields [] 16 follow)
    ∙ sym (sized m)

-- with fewer names in its list, or with an empty list in place of its body
array_length : (o : Order) (p : ℕ) (names : List Text) → p % 8 ≡ 0 → length (spelled_list o p (names_array names ∷ [])) ≡ 4 + length (names_bytes o (p + 4) names)
array_length o p names start =
    let bytes = names_bytes o (p + 4) names in
    ap length (array_spelled o p names start) ∙ length-append (number_bytes o w32 (length bytes)) bytes ∙ ap (λ k. k + length bytes) (wide_32.len o (length bytes))

signature_is : (vs : List Value) (names : List Text) → list_in vs ≡ Some names → spelled_types (map type_of vs) ≡ codes "as"
signature_is (an_array (basic string) vs ∷ []) names e = refl
signature_is _ names e = absurd cc

no_longer : (old new place body few all : ℕ) → old ≡ place + body → new ≡ place + (4 + few) → body ≡ 4 + all → few ≤ all → new ≤ old + 4
no_longer old new place body few all old_is new_is body_is less = omega arith

fewer_length : (test : Text → Bool) (names : List Text) (m : Message) → Valid m → text_list m ≡ Some names → length (spell (with_names (filter test names) m)) ≤ length (spell m) + 4
fewer_length test names m valid e =
    let list = is_list m valid (signature_is m.body names e) in
    let same : list.names ≡ names = let both : ◌≡◌ {A = Option (List Text)} (Some list.names) (Some names) = sym list.texts ∙ e in cc in
    let p = body_place (length (fields_of m)) in
    let start = aligned_8 (16 + length (fields_of m)) in
    let body : length (body_bytes m) ≡ 4 + length (names_bytes m.order (p + 4) names) =
    ap (λ vs. length (spelled_list m.order p vs)) list.body ∙ ap (λ ns. length (spelled_list m.order p (names_array ns ∷ []))) same ∙ array_length m.order p names start in
    let new : length (spell (with_names (filter test names) m)) ≡ p + (4 + length (names_bytes m.order (p + 4) (filter test names))) =
    sized (with_names (filter test names) m) ∙ ap (λ k. p + k) (array_length m.order p (filter test names) start) in
    no_longer _ _ p _ _ _ (sized m) new body (fewer-short test m.order names (p + 4))

none_length : (m : Message) → length (spell (with_names [] m)) ≤ length (spell m) + 4
none_length m =
    let p = body_place (length (fields_of m)) in
    let new : length (spell (with_names [] m)) ≡ p + (4 + 0) = sized (with_names [] m) ∙ ap (λ k. p + k) (array_length m.order p [] (aligned_8 (16 + length (fields_of m)))) in
    by (length (spell m)) (length (spell (with_names [] m))) p (length (body_bytes m)) (sized m) new
  where
    by : (old new place body : ℕ) → old ≡ place + body → new ≡ place + (4 + 0) → new ≤ old + 4
    by old new place body old_is new_is = omega arith

cut_length : (level : Text → Level) (m : Message) → Valid m → length (spell (cut level m)) ≤ length (spell m) + 4
unfolding cut
cut_length level m valid = by (text_list m) refl
  where
    by : (o : Option (List Text)) → text_list m ≡ o → length (spell (with_names (cut_names level o) m)) ≤ length (spell m) + 4
    by None e = none_length m
    by (Some names) e = fewer_length (is_seen level) names m valid e

cut_reply_length : (level : Text → Level) (n : ℕ) (m : Message) → Valid m → length (spell (with_reply_serial n (cut level m))) ≡ length (spell (cut level m))
unfolding cut
cut_reply_length level n m valid = reply_length n (cut level m) valid.field_list

-- ---- what is sent

pub spelled_length : (n k : ℕ) (due : List Sent) → length (spelled_from n due) ≡ length (spelled_from k due)
spelled_length n k [] = refl
spelled_length n k (s ∷ due) =
    length-append (spell (with_serial n (message_of s))) (spelled_from (n + 1) due)
    ∙ ap (λ l. l + length (spelled_from (n + 1) due)) (serial_length n (message_of s) ∙ sym (serial_length k (message_of s)))
    ∙ ap (λ l. length (spell (with_serial k (message_of s))) + l) (spelled_length (n + 1) (k + 1) due)
    ∙ sym (length-append (spell (with_serial k (message_of s))) (spelled_from (k + 1) due))

-- one message
one_length : (n : ℕ) (s : Sent) → length (spelled_from n (s ∷ [])) ≡ length (spell (message_of s))
one_length n s =
    length-append (spell (with_serial n (message_of s))) [] ∙ ap (λ l. l + 0) (serial_length n (message_of s)) ∙ omega arith

-- ---- a message of the client

module _ (policy : Policy) (m : Message) where
  -- what waits, with what is still to come, is heavier by nineteen bytes at most for each of the message's
  abbrev Light : SessionView → SessionView → Type 0
  Light old new = weight policy new ≤ weight policy old + 19 * length (spell m)

  either_light : (old x y : SessionView) (b : Bool) → Light old x → Light old y → Light old (cond b x y)
  either_light old x y true k l = k
  either_light old x y false k l = l

  same_light : (view : SessionView) → Light view view
  same_light view = by (weight policy view) (19 * length (spell m))
    where
      by : (n k : ℕ) → n ≤ n + k
      by n k = omega arith

  sending_light : (due : List Sent) (view new : SessionView) → Light view (with_sent due new) → Light view new → Light view (sending due view new)
  sending_light [] view new sent none = none
  sending_light (s ∷ due) view new sent none =
      either_light view _ _ (nat_le (view.sent + length (s ∷ due)) most_sent) sent (same_light view)

  -- a Hello that passes leaves no more to come
  come_less : (greeted more : Bool) → own_to_come policy (greeted || more) ≤ own_to_come policy greeted
  come_less true more = omega arith
  come_less false true = omega arith
  come_less false false = omega arith

  -- what messages weigh, with the own calls that are to follow them
  abbrev Cost : ℕ → Bool → List Sent → Type 0
  Cost n greeted due = length (spelled_from n due) + own_to_come policy (greeted || has_greeted due) ≤ own_to_come policy greeted + 19 * length (spell m)

  abbrev with_own : Bool → Bool → List Sent
  with_own hello greeted = Passed m ∷ cond (hello && not greeted) (own_calls policy) []

  one_cost : (n size : ℕ) (greeted : Bool) (s : Sent) → length (spell (message_of s)) ≡ size → size ≤ 19 * length (spell m) → Cost n greeted (s ∷ [])
  one_cost n size greeted s e h = by _ _ _ _ _ (one_length n s ∙ e) h (come_less greeted (has_greeted (s ∷ [])))
    where
      by : (bytes size come before most : ℕ) → bytes ≡ size → size ≤ most → come ≤ before → bytes + come ≤ before + most
      by bytes size come before most e h l = omega arith

  hello_cost : (n : ℕ) → is_hello m ≡ true → Cost n false (Passed m ∷ own_calls policy)
  hello_cost n e =
      let bytes = length-append (spell (with_serial n m)) (spelled_from (n + 1) (own_calls policy)) in
      let none : own_to_come policy (has_greeted (Passed m ∷ own_calls policy)) ≡ 0 = ap (λ b. own_to_come policy (b || has_greeted (own_calls policy))) e in
      by _ _ _ _ _ _ bytes (serial_length n m) (spelled_length (n + 1) 0 (own_calls policy)) none
    where
      by : (bytes first rest come own size : ℕ) → bytes ≡ first + rest → first ≡ size → rest ≡ own → come ≡ 0 → bytes + come ≤ own + 19 * size
      by bytes first rest come own size b f r c = omega arith

  pass_cost : (n : ℕ) (hello greeted : Bool) → is_hello m ≡ hello → Cost n greeted (with_own hello greeted)
  pass_cost n true false e = hello_cost n e
  pass_cost n true true e = one_cost n (length (spell m)) true (Passed m) refl (omega arith)
  pass_cost n false greeted e = one_cost n (length (spell m)) greeted (Passed m) refl (omega arith)

  ping_length : length (spell ping) ≡ 120
  ping_length = sym (serial_length 0 ping) ∙ (ping_lengths 0).all_is

  none_cost : (n : ℕ) (greeted : Bool) → Cost n greeted []
  none_cost n greeted = let l = come_less greeted false in omega (arith, l)

  due_cost : (v : Verdict) (n : ℕ) (greeted : Bool) → Cost n greeted (due_on policy greeted m v)
  due_cost Pass n greeted = pass_cost n (is_hello m) greeted refl
  due_cost (Ping what reason) n greeted = one_cost n 120 greeted (Pinged m what) ping_length (let h = spell_long m in omega (arith, h))
  due_cost (Drop reason) n greeted = none_cost n greeted

  sent_light : (due : List Sent) (replied : List Exchange) (view : SessionView) → Cost (view.sent + 1) view.greeted due → Light view (with_sent due (with_replied replied view))
  sent_light due replied view cost =
      by _ _ _ _ _ _ _ _ (length-append view.bus_side (spelled_from (view.sent + 1) due)) cost
    where
      by : (bus_then bus client left bytes come own most : ℕ) → bus_then ≡ bus + bytes → bytes + come ≤ own + most → bus_then + client + left + come ≤ bus + client + left + own + most
      by bus_then bus client left bytes come own most b c = omega arith

  verdict_light : (v : Verdict) (view : SessionView) → Light view (with_verdict policy m v view)
  verdict_light v view =
      let replied = replied_on m (client_role m) v in
      sending_light (due_on policy view.greeted m v) view (with_replied replied view)
      (sent_light (due_on policy view.greeted m v) replied view (due_cost v (view.sent + 1) view.greeted)) (same_light view)

-- ---- a message of the bus

answer_short : (order : Order) (reply serial : ℕ) (what : Instead) → length (spell (answer_in_place order reply serial what)) ≤ 144
answer_short order reply serial AccessDenied = let h = (answer_lengths order reply serial AccessDenied).all_is in omega (arith, h)
answer_short order reply serial NameHasNoOwner = let h = (answer_lengths order reply serial NameHasNoOwner).all_is in omega (arith, h)
answer_short order reply serial ServiceUnknown = let h = (answer_lengths order reply serial ServiceUnknown).all_is in omega (arith, h)
answer_short order reply serial False = let h = (answer_lengths order reply serial False).all_is in omega (arith, h)

-- the calls for the names of a list
names_short : (policy : Policy) (m : Message) (n : ℕ) → length (spelled_from n (names_due policy (returned_names m))) ≤ 19 * length (spell m)
unfolding returned_names
names_short policy m n = by (kind_of m) (text_list m) refl
  where
    by : (k : Kind) (o : Option (List Text)) → text_list m ≡ o → length (spelled_from n (names_due policy (if_return k o))) ≤ 19 * length (spell m)
    by Return (Some names) e = asked-calls-short policy m names n e
    by Return None e = omega arith
    by Call o e = omega arith
    by Error o e = omega arith
    by Signal o e = omega arith
    by Other o e = omega arith

module _ (policy : Policy) (m : Message) (valid : Valid m) where
  one_shown : (k : Message) → length (spell k) ≤ 19 * length (spell m) → length (flat_map spell (k ∷ [])) ≤ 19 * length (spell m)
  one_shown k h = let e = length-append (spell k) [] in omega (arith, e, h)

  seen_short : (level : Text → Level) (s : Showing) → length (flat_map spell (seen_as level m s)) ≤ 19 * length (spell m)
  seen_short level Whole = one_shown m (omega arith)
  seen_short level (Reply serial) = one_shown (with_reply_serial serial m) (let e = reply_length serial m valid.field_list in omega (arith, e))
  seen_short level (Cut serial) = one_shown (with_reply_serial serial (cut level m)) (let e = cut_reply_length level serial m valid in let h = cut_length level m valid in let l = spell_long m in omega (arith, e, h, l))
  seen_short level (InsteadOf order reply what) = one_shown (answer_in_place order reply m.serial what) (let h = answer_short order reply m.serial what in let l = spell_long m in omega (arith, h, l))
  seen_short level (Hide reason) = omega arith

  told_light : (role : BusRole) (showing : Showing) (view : SessionView) → Light policy m view (with_told policy m role (with_shown policy m showing view))
  told_light role showing view =
      let out = flat_map spell (seen_as (kept_level policy view.ids) m showing) in
      by (length view.bus_side) (length (view.client_side ++ out)) (length view.client_side) _ _ (length out) _ (length-append view.client_side out) (seen_short (kept_level policy view.ids) showing)
    where
      by : (bus client_then client left own out most : ℕ) → client_then ≡ client + out → out ≤ most → bus + client_then + left + own ≤ bus + client + left + own + most
      by bus client_then client left own out most c h = omega arith

  names_light : (due : List Sent) (view : SessionView) → length (spelled_from (view.sent + 1) due) ≤ 19 * length (spell m)
      → Light policy m view (with_sent due (with_told policy m NamesAnswer (with_shown policy m (Hide OwnAnswer) view)))
  names_light due view h =
      by _ _ _ _ _ _ _ _ _ (length-append view.bus_side (spelled_from (view.sent + 1) due)) (length-append view.client_side []) h (come_less policy m view.greeted (has_greeted due))
    where
      by : (bus_then bus client_then client left bytes come own most : ℕ) → bus_then ≡ bus + bytes → client_then ≡ client + 0 → bytes ≤ most → come ≤ own →
          bus_then + client_then + left + come ≤ bus + client + left + own + most
      by bus_then bus client_then client left bytes come own most b c h l = omega arith

  role_light : (role : BusRole) (view : SessionView) → Light policy m view (with_role policy m role view)
  role_light NamesAnswer view =
      sending_light policy m (names_due policy (returned_names m)) view (with_told policy m NamesAnswer (with_shown policy m (Hide OwnAnswer) view))
      (names_light (names_due policy (returned_names m)) view (names_short policy m (view.sent + 1)))
      (told_light NamesAnswer (Hide OwnAnswer) view)
  role_light role view = told_light role (showing_at policy (known policy view) m role) view

-- ---- a message of either side

message_light : (policy : Policy) (side : Side) (m : Message) (view : SessionView) → Valid m → weight policy (with_message policy side m view) ≤ weight policy view + 19 * length (spell m)
message_light policy Client m view valid = verdict_light policy m (verdict policy (known policy view) m) view
message_light policy Bus m view valid = role_light policy m valid (bus_role (expected_at view.ledger.expected (reply_serial m)) m) (with_used m view)

-- a note weighs nothing
noted_light : (policy : Policy) (side : Side) (m : Message) (view : SessionView) → Valid m → weight policy (with_noted_message policy side m view) ≤ weight policy view + 19 * length (spell m)
noted_light policy side m view valid =
    let new : SessionView = with_message policy side m view in
    either_light policy m view (with_note side m (decision_in policy side m view) new) new (new.mode.notes && is_none new.ended) (message_light policy side m view valid) (message_light policy side m view valid)

-- and neither does an element of the visible part
pub watched_light : (policy : Policy) (side : Side) (m : Message) (view : SessionView) → Valid m → weight policy (with_watched_message policy side m view) ≤ weight policy view + 19 * length (spell m)
watched_light policy side m view valid = noted_light policy side m view valid
