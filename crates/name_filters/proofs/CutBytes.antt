-- The bytes of a message whose list is cut.
use Rattle.std.proofs.Common.{◌≡◌, ℕ, ◌+◌, ◌≤◌, List, [], ◌∷◌, ◌++◌, length, take, drop, Option, Some, refl, ap, ap₂, sym, ◌∙◌, arith, add_assoc, length-drop, append_assoc, length-append}
use Rattle.std.specs.Int.{w32}
use Rattle.std.proofs.lemmas.List.{drop-append-le, drop_at, drop-drop, length-replicate, length-take-le, take-append-le, take_at}
use Rattle.std.proofs.Math.Seq.{drop-append-add, take-append-add}
use Rattle.dbus_names.specs.Texts.{Text}
use Rattle.dbus_values.specs.Values.{number_bytes, padding, zeros}
use Rattle.dbus_values.specs.declared.Order.{Order}
use Rattle.dbus_values.specs.declared.Order.TheVariants.{Little, Big}
use Rattle.dbus_values.proofs.ValueLaws.{wide_32}
use Rattle.dbus_header.specs.Contents.{body_bytes}
use Rattle.dbus_header.specs.Message.{Message, Valid, body_place, reply_place, reply_serial, spell, spelled_fields, spelled_list, with_names, with_number, with_reply_serial}
use Rattle.dbus_header.proofs.MessageAgain.{head, head_len}
use Rattle.dbus_header.proofs.Aligned.{aligned_8}
use Rattle.dbus_header.proofs.ReplyLaws.{fields_reply}
use Rattle.name_filters.specs.Names.{names_bytes}
use Rattle.name_filters.proofs.ListBodies.{array_spelled, names_array}

-- ---- a number at a place

-- the number at a place after some bytes
pub behind : (o : Order) (n p : ℕ) (before bytes : List ℕ) → with_number o (length before + p) n (before ++ bytes) ≡ before ++ with_number o p n bytes
behind o n p before bytes =
    ap₂ (λ front rest. front ++ number_bytes o w32 n ++ rest) (take-append-add before bytes p) (ap (λ k. drop k (before ++ bytes)) (add_assoc (length before) p 4) ∙ drop-append-add before bytes (p + 4))
    ∙ append_assoc (before ++ take p bytes) (number_bytes o w32 n) (drop (p + 4) bytes)
    ∙ append_assoc before (take p bytes) (number_bytes o w32 n ++ drop (p + 4) bytes)
    ∙ ap (λ rest. before ++ rest) (sym (append_assoc (take p bytes) (number_bytes o w32 n) (drop (p + 4) bytes)))

-- and before others
pub in_front : (o : Order) (n p : ℕ) (bytes more : List ℕ) → p + 4 ≤ length bytes → with_number o p n (bytes ++ more) ≡ with_number o p n bytes ++ more
in_front o n p bytes more le =
    ap₂ (λ front rest. front ++ number_bytes o w32 n ++ rest) (take-append-le p bytes more (omega arith)) (drop-append-le (p + 4) bytes more le)
    ∙ sym (append_assoc (take p bytes ++ number_bytes o w32 n) (drop (p + 4) bytes) more)

pub number_over : (o : Order) (n : ℕ) (before four after : List ℕ) → length four ≡ 4 → with_number o (length before) n (before ++ (four ++ after)) ≡ before ++ (number_bytes o w32 n ++ after)
number_over o n before four after is =
    ap₂ (λ front rest. front ++ number_bytes o w32 n ++ rest) (take_at before (four ++ after) (length before) refl)
    (sym (drop-drop 4 (length before) (before ++ (four ++ after))) ∙ ap (drop 4) (drop_at before (four ++ after) (length before) refl) ∙ drop_at four after 4 is)
    ∙ append_assoc before (number_bytes o w32 n) after

pub number_length : (o : Order) (p n : ℕ) (bytes : List ℕ) → p + 4 ≤ length bytes → length (with_number o p n bytes) ≡ length bytes
number_length o p n bytes le =
    omega (arith, length-append (take p bytes ++ number_bytes o w32 n) (drop (p + 4) bytes), length-append (take p bytes) (number_bytes o w32 n), wide_32.len o n, length-drop (p + 4) bytes, length-take-le p bytes (omega arith))

-- ---- the message before its body

abbrev pub fields_of : Message → List ℕ
fields_of m = spelled_fields m.order m.fields

-- what comes before a body of this length
abbrev pub front : Message → ℕ → List ℕ
front m n = head m.order m.kind m.flags n m.serial (length (fields_of m)) ++ fields_of m ++ zeros 8 (16 + length (fields_of m))

pub spell-front : (m : Message) → spell m ≡ front m (length (body_bytes m)) ++ body_bytes m
unfolding spell
spell-front m = refl

pub front-length : (m : Message) (n : ℕ) → length (front m n) ≡ body_place (length (fields_of m))
front-length m n =
    omega (
      arith,
      length-append (head m.order m.kind m.flags n m.serial (length (fields_of m)) ++ fields_of m) (zeros 8 (16 + length (fields_of m))),
      length-append (head m.order m.kind m.flags n m.serial (length (fields_of m))) (fields_of m),
      head_len m.order m.kind m.flags n m.serial (length (fields_of m)),
      length-replicate {A = ℕ} (padding 8 (16 + length (fields_of m))) 0,
    )

pub front-sized : (m : Message) (n k : ℕ) → with_number m.order 4 n (front m k) ≡ front m n
front-sized m n k = by m.order
  where
    by : (o : Order) → with_number o 4 n (head o m.kind m.flags k m.serial (length (fields_of m)) ++ fields_of m ++ zeros 8 (16 + length (fields_of m)))
        ≡ head o m.kind m.flags n m.serial (length (fields_of m)) ++ fields_of m ++ zeros 8 (16 + length (fields_of m))
    by Little = refl
    by Big = refl

-- another reply serial in it

same_place : (p q : ℕ) → ◌≡◌ {A = Option ℕ} (Some p) (Some q) → p ≡ q
same_place p q e = cc

as_long : (o : Order) (n x : ℕ) (before after : List ℕ) → length (before ++ (number_bytes o w32 n ++ after)) ≡ length (before ++ (number_bytes o w32 x ++ after))
as_long o n x before after =
    omega (
      arith,
      length-append before (number_bytes o w32 n ++ after),
      length-append before (number_bytes o w32 x ++ after),
      length-append (number_bytes o w32 n) after,
      length-append (number_bytes o w32 x) after,
      wide_32.len o n,
      wide_32.len o x,
    )

parted : (first before number after gap : List ℕ) → first ++ (before ++ (number ++ after)) ++ gap ≡ (first ++ before) ++ (number ++ (after ++ gap))
parted first before number after gap = simp append_assoc

pub record FrontReplied (n place size : ℕ) (m : Message) : Type 0 where
  pub bytes : with_number m.order place n (front m size) ≡ front (with_reply_serial n m) size
  pub inside : place + 4 ≤ length (front m size)
  pub fields : length (fields_of (with_reply_serial n m)) ≡ length (fields_of m)

pub front-replied : (n x place size : ℕ) (m : Message) → Valid m → reply_serial m ≡ Some x → reply_place m ≡ Some place → FrontReplied n place size m
front-replied n x place size m valid has at =
    let one = fields_reply n m.order m.fields [] 16 x refl valid.field_list has in
    let place_is : place ≡ 16 + length one.before = same_place place (16 + length one.before) (sym at ∙ one.place_is) in
    let old = fields_of m in
    let new = fields_of (with_reply_serial n m) in
    let same : length new ≡ length old = ap length one.new_is ∙ as_long m.order n x one.before one.after ∙ sym (ap length one.old_is) in
    let first = head m.order m.kind m.flags size m.serial (length old) in
    let start : place ≡ length (first ++ one.before) = omega (arith, place_is, length-append first one.before, head_len m.order m.kind m.flags size m.serial (length old)) in
    let gap = zeros 8 (16 + length old) in
    record {
      bytes = ap₂ (λ p (fields : List ℕ). with_number m.order p n (first ++ fields ++ gap)) start one.old_is
          ∙ ap (with_number m.order (length (first ++ one.before)) n) (parted first one.before (number_bytes m.order w32 x) one.after gap)
          ∙ number_over m.order n (first ++ one.before) (number_bytes m.order w32 x) (one.after ++ gap) (wide_32.len m.order x)
          ∙ sym (parted first one.before (number_bytes m.order w32 n) one.after gap)
          ∙ ap (λ (fields : List ℕ). first ++ fields ++ gap) (sym one.new_is)
          ∙ ap (λ l. head m.order m.kind m.flags size m.serial l ++ new ++ zeros 8 (16 + l)) (sym same);
      inside = omega (arith, place_is, ap length one.old_is, length-append one.before (number_bytes m.order w32 x ++ one.after), length-append (number_bytes m.order w32 x) one.after, wide_32.len m.order x, front-length m size);
      fields = same;
    }

-- ---- a message whose list is cut

pub record CutParts (n place : ℕ) (names : List Text) (m : Message) : Type 0 where
  pub spelled : spell (with_reply_serial n (with_names names m))
      ≡ with_number m.order place n (front m (4 + length (names_bytes m.order (length (front m 0) + 4) names)))
      ++ (number_bytes m.order w32 (length (names_bytes m.order (length (front m 0) + 4) names)) ++ names_bytes m.order (length (front m 0) + 4) names)

pub cut_parts_are : (n x place : ℕ) (names : List Text) (m : Message) → Valid m → reply_serial m ≡ Some x → reply_place m ≡ Some place → CutParts n place names m
cut_parts_are n x place names m valid has at =
    let cut = with_reply_serial n (with_names names m) in
    let p = body_place (length (fields_of m)) in
    let bytes = names_bytes m.order (p + 4) names in
    let body : body_bytes cut ≡ number_bytes m.order w32 (length bytes) ++ bytes =
    ap (λ l. spelled_list m.order (body_place l) (names_array names ∷ [])) (front-replied n x place 0 m valid has at).fields
    ∙ array_spelled m.order p names (aligned_8 (16 + length (fields_of m))) in
    let size : length (body_bytes cut) ≡ 4 + length bytes = omega (arith, ap length body, length-append (number_bytes m.order w32 (length bytes)) bytes, wide_32.len m.order (length bytes)) in
    record {
      spelled = spell-front cut
          ∙ ap₂ (λ l (b : List ℕ). front (with_reply_serial n m) l ++ b) size body
          ∙ ap (λ (f : List ℕ). f ++ (number_bytes m.order w32 (length bytes) ++ bytes)) (sym (front-replied n x place (4 + length bytes) m valid has at).bytes)
          ∙ ap (λ q. let b = names_bytes m.order (q + 4) names in with_number m.order place n (front m (4 + length b)) ++ (number_bytes m.order w32 (length b) ++ b)) (sym (front-length m 0));
    }
