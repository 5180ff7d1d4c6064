-- A message whose body is a list of names, as it is read, and the bytes of the cut one.
use Rattle.std.proofs.Common.{◌≡◌, ℕ, ◌+◌, ◌-◌, ◌≤◌, ◌^◌, List, [], ◌∷◌, ◌++◌, length, take, codes, Some, None, IsSome, refl, ap, ap₂, sym, subst, ◌∙◌, arith, length-append}
use Rattle.std.specs.Int.{w32}
use Rattle.std.specs.Prelude.{option_map}
use Rattle.std.proofs.Math.Path.{fun_ext}
use Rattle.std.proofs.lemmas.List.{take_at}
use Rattle.dbus_names.specs.Texts.{Text}
use Rattle.dbus_types.specs.Signature.{array, basic, string}
use Rattle.dbus_values.specs.Bodies.{IsBody, list_in, texts_or_none}
use Rattle.dbus_values.specs.Values.{number_bytes}
use Rattle.dbus_values.specs.declared.Order.{Order}
use Rattle.dbus_values.proofs.ValueLaws.{wide_32}
use Rattle.dbus_header.specs.Contents.{Contents, body_bytes, contents_of, message_of}
use Rattle.dbus_header.specs.Message.{Message, Valid, body_place, reply_place, reply_serial, signature, spell, spelled_list, text_list, with_names, with_number, with_reply_serial}
use Rattle.dbus_header.specs.Read.{message_seen}
use Rattle.dbus_header.specs.declared.message.Message.{Message as Seen}
use Rattle.dbus_header.proofs.MessageBodies.{message-read}
use Rattle.dbus_header.proofs.NumberLaws.{reply_stands, some_true, there}
use Rattle.dbus_header.proofs.Aligned.{aligned_8}
use Rattle.policy_args.specs.Levels.{level_of}
use Rattle.policy_args.specs.Policy.{Policy}
use Rattle.policy_args.specs.declared.fact.Fact.{Fact}
use Rattle.policy_view.specs.Shown.{cut, cut_names}
use Rattle.unique_names.specs.Taught.{Ids, Taught, kept_level}
use Rattle.unique_names.proofs.Learned.{exact-level}
use Rattle.name_filters.specs.Names.{cut_parts, kept_names, names_bytes, with_numbers}
use Rattle.name_filters.proofs.CutBytes.{behind, cut_parts_are, fields_of, front, front-length, front-replied, front-sized, in_front, number_over, spell-front}
use Rattle.name_filters.proofs.ListBodies.{IsList, array_spelled, is_list, read_body}

-- ---- what is read of it

-- if a reply serial is read, so is its place
pub place_there : (bytes : List ℕ) (q : Contents) → option_map contents_of (message_of bytes) ≡ Some q → IsSome q.parts.reply_serial → q.reply_place ≡ None → ⊥
place_there bytes q read some none =
    let found = message-read bytes q read in
    let x = there q.parts.reply_serial (some_true q.parts.reply_serial some) in
    let place = reply_stands found.0 x.0 (ap (λ (c : Contents). c.parts.reply_serial) found.2 ∙ x.1) in
    let both : Some place.0 ≡ None = sym place.1 ∙ ap (λ (c : Contents). c.reply_place) found.2 ∙ none in
    cc

-- ---- a message whose body is a list

abbrev pub body_at : Message → ℕ
body_at m = body_place (length (fields_of m))

pub record Listed (bytes : List ℕ) (q : Contents) (m : Message) : Type 0 where
  pub valid : Valid m
  pub contents : contents_of m ≡ q
  pub list : IsList m
  pub read : IsBody q.order (codes "as") q.body (body_at m) (array (basic string) ∷ []) m.body
  pub all : body_at m + length q.body ≡ length bytes
  pub size : length q.body ≡ 4 + length (names_bytes m.order (body_at m + 4) list.names)
  pub front_is : take (body_at m) bytes ≡ front m (length (body_bytes m))
  pub short : length bytes ≤ 2 ^ 27

pub listed : (bytes : List ℕ) (q : Contents) (m : Message) → contents_of m ≡ q → q.signature ≡ codes "as" → Valid m → bytes ≡ spell m → Listed bytes q m
listed bytes q m contents named valid spelled =
    let typed : signature m ≡ codes "as" = ap (λ (c : Contents). c.signature) contents ∙ named in
    let list = is_list m valid typed in
    let body_is : body_bytes m ≡ q.body = ap (λ (c : Contents). c.body) contents in
    let elements : body_bytes m ≡ number_bytes m.order w32 (length (names_bytes m.order (body_at m + 4) list.names)) ++ names_bytes m.order (body_at m + 4) list.names =
    ap (spelled_list m.order (body_at m)) list.body ∙ array_spelled m.order (body_at m) list.names (aligned_8 (16 + length (fields_of m))) in
    let whole : bytes ≡ front m (length (body_bytes m)) ++ body_bytes m = spelled ∙ spell-front m in
    record {
      valid = valid;
      contents = contents;
      list = list;
      read = subst (λ (c : Contents). IsBody c.order (codes "as") c.body (body_at m) (array (basic string) ∷ []) m.body) contents (read_body m valid typed);
      all = omega (arith, ap length whole, length-append (front m (length (body_bytes m))) (body_bytes m), front-length m (length (body_bytes m)), ap length body_is);
      size = omega (arith, ap length elements, ap length body_is, length-append (number_bytes m.order w32 (length (names_bytes m.order (body_at m + 4) list.names))) (names_bytes m.order (body_at m + 4) list.names), wide_32.len m.order (length (names_bytes m.order (body_at m + 4) list.names)));
      front_is = ap (take (body_at m)) whole ∙ take_at (front m (length (body_bytes m))) (body_bytes m) (body_at m) (front-length m (length (body_bytes m)));
      short = omega (arith, valid.len, ap length spelled);
    }

-- the message that was read
pub read_as : (s : Seen) → s.signature.bytes.now ≡ codes "as" → ((m : Message) → message_of s.bytes.now ≡ Some m → Valid m × (s.bytes.now ≡ spell m)) → (m : Message) × Listed s.bytes.now (message_seen s) m
read_as s named spelled =
    let found = message-read s.bytes.now (message_seen s) s.read in
    let of = spelled found.0 found.1 in
    (found.0, listed s.bytes.now (message_seen s) found.0 found.2 named of.0 of.1)

-- ---- the names that are kept are those that may be seen

cut-is : (policy : Policy) (ids : Ids) (m : Message) (names : List Text) → text_list m ≡ Some names → cut (kept_level policy ids) m ≡ with_names (kept_names policy ids names) m
unfolding cut
cut-is policy ids m names is = ap (λ texts. with_names (cut_names (kept_level policy ids) texts) m) is

-- after the facts were learned, the levels are those of the facts
pub level-is : (policy : Policy) (ids : Ids) (facts : List Fact) → Taught ids policy facts → kept_level policy ids ≡ level_of policy facts
level-is policy ids facts taught = fun_ext (λ name. exact-level ids policy facts name taught)

-- ---- the numbers of the cut message

pub numbers-written : (o : Order) (r place n : ℕ) (old first second nb : List ℕ) → second ≡ with_number o 4 (4 + length nb) first → length second ≡ length first → 16 ≤ length first → place + 4 ≤ length first → n ≡ length first →
    with_numbers o (length old) n place r (old ++ (first ++ (0 ∷ 0 ∷ 0 ∷ 0 ∷ [] ++ nb))) ≡ old ++ (with_number o place r second ++ (number_bytes o w32 (length nb) ++ nb))
numbers-written o r place n old first second nb second_is same long inside n_is =
    let four : List ℕ = 0 ∷ 0 ∷ 0 ∷ 0 ∷ [] in
    let start : ℕ = length old in
    let behind_first : List ℕ = four ++ nb in
    let whole : List ℕ = old ++ (first ++ behind_first) in
    let len_is : length whole - (start + n) ≡ 4 + length nb = omega (arith, n_is, length-append old (first ++ behind_first), length-append first behind_first) in
    let names_is : length whole - (start + n) - 4 ≡ length nb = omega (arith, len_is) in
    let one : with_number o (start + 4) (4 + length nb) whole ≡ old ++ (second ++ behind_first) =
    behind o (4 + length nb) 4 old (first ++ behind_first)
    ∙ ap (λ (b : List ℕ). old ++ b) (in_front o (4 + length nb) 4 first behind_first (omega (arith, long)) ∙ ap (λ (b : List ℕ). b ++ behind_first) (sym second_is)) in
    let at : n ≡ length second = omega (arith, n_is, same) in
    let two : with_number o (start + n) (length nb) (old ++ (second ++ behind_first)) ≡ old ++ (second ++ (number_bytes o w32 (length nb) ++ nb)) =
    behind o (length nb) n old (second ++ behind_first)
    ∙ ap (λ (b : List ℕ). old ++ b) (ap (λ p. with_number o p (length nb) (second ++ behind_first)) at ∙ number_over o (length nb) second four nb refl) in
    let listed_names = number_bytes o w32 (length nb) ++ nb in
    ap₂ (λ k j. with_number o (start + place) r (with_number o (start + n) j (with_number o (start + 4) k whole))) len_is names_is
    ∙ ap (λ b. with_number o (start + place) r (with_number o (start + n) (length nb) b)) one
    ∙ ap (with_number o (start + place) r) two
    ∙ behind o r place old (second ++ listed_names)
    ∙ ap (λ (b : List ℕ). old ++ b) (in_front o r place second listed_names (omega (arith, same, inside)))

pub cut-written : (policy : Policy) (ids : Ids) (bytes : List ℕ) (q : Contents) (m : Message) (r place : ℕ) (old : List ℕ) → Listed bytes q m → IsSome q.parts.reply_serial → q.reply_place ≡ Some place →
    with_numbers m.order (length old) (body_at m) place r (old ++ cut_parts policy ids m (take (body_at m) bytes)) ≡ old ++ spell (with_reply_serial r (cut (kept_level policy ids) m))
cut-written policy ids bytes q m r place old is some at =
    let x = there q.parts.reply_serial (some_true q.parts.reply_serial some) in
    let has : reply_serial m ≡ Some x.0 = ap (λ (c : Contents). c.parts.reply_serial) is.contents ∙ x.1 in
    let stands : reply_place m ≡ Some place = ap (λ (c : Contents). c.reply_place) is.contents ∙ at in
    let first = take (body_at m) bytes in
    let names = is.list.names in
    let kept = kept_names policy ids names in
    let read : texts_or_none (text_list m) ≡ names = ap texts_or_none is.list.texts in
    let nb = names_bytes m.order (length first + 4) (kept_names policy ids (texts_or_none (text_list m))) in
    let size = length (body_bytes m) in
    let long : length first ≡ body_at m = ap length is.front_is ∙ front-length m size in
    let second = front m (4 + length nb) in
    let second_is : second ≡ with_number m.order 4 (4 + length nb) first = sym (ap (with_number m.order 4 (4 + length nb)) is.front_is ∙ front-sized m (4 + length nb) size) in
    let inside : place + 4 ≤ length first = omega (arith, (front-replied r x.0 place size m is.valid has stands).inside, ap length is.front_is) in
    let nb_is : nb ≡ names_bytes m.order (length (front m 0) + 4) kept =
    ap₂ (λ n texts. names_bytes m.order (n + 4) (kept_names policy ids texts)) (long ∙ sym (front-length m 0)) read in
    numbers-written m.order r place (body_at m) old first second nb second_is (front-length m (4 + length nb) ∙ sym long) (omega (arith, long)) inside (sym long)
    ∙ ap (λ (b : List ℕ). old ++ (with_number m.order place r (front m (4 + length b)) ++ (number_bytes m.order w32 (length b) ++ b))) nb_is
    ∙ ap (λ (b : List ℕ). old ++ b) (sym (cut_parts_are r x.0 place kept m is.valid has stands).spelled
    ∙ ap (λ (k : Message). spell (with_reply_serial r k)) (sym (cut-is policy ids m names is.list.texts)))

-- ---- room for the names

pub names-left : (bytes : List ℕ) (q : Contents) (m : Message) (o : Order) (body place : ℕ) (names : List Text) → Listed bytes q m → o ≡ m.order → list_in m.body ≡ Some names →
    body + length q.body ≡ length bytes → place ≡ body + 4 → length (names_bytes o place names) + 4 ≡ length q.body
names-left bytes q m o body place names is o_is read body_is place_is =
    let same : is.list.names ≡ names = cc in
    let at : place ≡ body_at m + 4 = omega (arith, place_is, body_is, is.all) in
    let left : length (names_bytes o place names) ≡ length (names_bytes m.order (body_at m + 4) is.list.names) =
    ap₂ (λ (k : Order) p. length (names_bytes k p names)) o_is at ∙ ap (λ ns. length (names_bytes m.order (body_at m + 4) ns)) (sym same) in
    omega (arith, left, is.size)

pub place-inside : (bytes : List ℕ) (q : Contents) (m : Message) (place : ℕ) → Listed bytes q m → IsSome q.parts.reply_serial → q.reply_place ≡ Some place → place + 4 ≤ body_at m
place-inside bytes q m place is some at =
    let x = there q.parts.reply_serial (some_true q.parts.reply_serial some) in
    let replied = front-replied 0 x.0 place 0 m is.valid (ap (λ (c : Contents). c.parts.reply_serial) is.contents ∙ x.1) (ap (λ (c : Contents). c.reply_place) is.contents ∙ at) in
    omega (arith, replied.inside, front-length m 0)
