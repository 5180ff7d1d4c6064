-- The request in a valid message is one that a message can make: its path, its interface and its member are in their
-- grammars.
use Rattle.std.proofs.Common.{◌≡◌, ℕ, ◌+◌, Bool, true, false, not, cond, ◌&&◌, ◌||◌, ◌==◌, nat_lt, IfSome, List, [], ◌∷◌, length, Option, Some, None, if◌then◌else◌, is_some, refl, ap, sym, ◌∙◌, subst}
use Rattle.std.specs.Option.{option_map}
use Rattle.std.proofs.lemmas.Bool.{and_from, and_parts, eqb-true}
use Rattle.dbus_header.specs.Kinds as kinds
use Rattle.dbus_header.specs.Kinds.{kind_of}
use Rattle.dbus_header.specs.Message.{Field, Message, Valid, are_valid_fields, destination, field_in, field_value, first_text, has_field, interface, is_a_path, has_required, is_field_of, may_all_follow, may_follow, member, path, text_in, text_passes}
use Rattle.dbus_names.specs.Names.{is_bus, is_interface, is_member, is_path}
use Rattle.dbus_names.specs.Texts.{Text}
use Rattle.dbus_types.specs.Signature.{byte, is_signature}
use Rattle.dbus_values.specs.Values.{Value, a_number, a_path, a_signature, a_string, a_struct, a_variant, an_array, an_entry, is_text, is_value, is_within, no_values, padding, spelled, spelled_signature, type_of, value}
use Rattle.dbus_values.specs.declared.Order.{Order}
use Rattle.policy_args.specs.declared.requests.Asked.{Asked}
use Rattle.policy_args.specs.declared.requests.Asked.TheVariants.{Call, Signal, Own, Owner}
use Rattle.policy_suggest.specs.AskedBy.{asked_as, asked_by_message, asked_of_bus, asked_of_text, is_peer, of_peer}
use Rattle.policy_suggest.specs.Seen.{request_seen}
use Rattle.policy_suggest.specs.declared.requests.Request.{Request}
use Rattle.policy_suggest.specs.Suggest.{is_asked, is_interface_or_none}
use Rattle.policy_view.specs.Texts.{is_one_of}
use Rattle.policy_view.specs.Verdicts.{BusCall, CallTo, ClientRole, Demand, Free, NoEavesdrop, OnText, OtherBusCall, Ownable, SeenName, SeenOwner, StandardBusCall, Startable, TextDemand, Unlisted, Broadcast, OfUnknownType, Reply, SignalTo, client_role, client_role_at, demand_of, role_of_bus_call, role_of_call, role_of_signal, standard_interfaces, text_or_empty}

abbrev pub IsPossible : Option Asked → Type 0
IsPossible asked = IfSome asked (λ a. is_asked a ≡ true)

pub request-possible : (request : Option Request) (asked : Option Asked) → option_map request_seen request ≡ asked → IsPossible asked → IfSome request (λ r. is_asked (request_seen r) ≡ true)
request-possible None asked is possible = tt
request-possible (Some r) asked is possible = subst IsPossible (sym is) possible

peer-possible : (name : Text) (a : Asked) → (is_peer name ≡ true → is_asked a ≡ true) → IsPossible (of_peer name a)
peer-possible name a fits = by (is_peer name) refl
  where
    by : (b : Bool) → is_peer name ≡ b → IsPossible (if b then Some a else None)
    by true is = fits is
    by false is = tt

text-possible : (demand : TextDemand) (name : Text) → IsPossible (asked_of_text demand name)
text-possible NoEavesdrop name = tt
text-possible SeenOwner name = peer-possible name (Owner name) (λ is. is)
text-possible SeenName name = peer-possible name (Owner name) (λ is. is)
text-possible Startable name = peer-possible name (Signal name) (λ is. is)
text-possible Ownable name = peer-possible name (Own name) (λ is. is)

bus-possible : (demand : Demand) (first : Option Text) → IsPossible (asked_of_bus demand first)
bus-possible Free first = tt
bus-possible (OnText demand) None = tt
bus-possible (OnText demand) (Some name) = text-possible demand name
bus-possible Unlisted first = tt

-- ---- the parts of a call

-- a value that is found is in the grammar of its code, and in the wire's limits at some place
record IsFound (order : Order) (code : ℕ) (v : Value) : Type 0 where
  fits : is_field_of code v ≡ true
  place : ℕ
  said : ℕ
  within : is_value order place (a_struct (a_number byte said) (value (a_variant v) no_values)) ≡ true

found : (order : Order) (place code : ℕ) (fields before : List Field) (v : Value) → may_all_follow before fields ≡ true → are_valid_fields order place fields ≡ true → field_in code fields ≡ Some v → IsFound order code v
found order place code [] before v follow are at = absurd cc
found order place code (f ∷ fields) before v follow are at = by (f.code == code) refl at (λ e. found order (place + length (spelled order place (field_value f))) code fields (f ∷ before) v follows.1 parts.1 e)
  where
    follows : (may_follow before f ≡ true) × (may_all_follow (f ∷ before) fields ≡ true)
    follows = and_parts (may_follow before f) (may_all_follow (f ∷ before) fields) follow

    parts : ((is_within 64 (a_variant f.value) && is_value order place (field_value f)) ≡ true) × (are_valid_fields order (place + length (spelled order place (field_value f))) fields ≡ true)
    parts = and_parts (is_within 64 (a_variant f.value) && is_value order place (field_value f)) (are_valid_fields order (place + length (spelled order place (field_value f))) fields) are

    its : IsFound order f.code f.value
    its = record {
      fits = (and_parts (is_field_of f.code f.value) (nat_lt 9 f.code || not (has_field f.code before)) follows.0).0;
      place = place;
      said = f.code;
      within = (and_parts (is_within 64 (a_variant f.value)) (is_value order place (field_value f)) parts.0).1;
    }

    by : (b : Bool) → (f.code == code) ≡ b → cond b (Some f.value) (field_in code fields) ≡ Some v → (field_in code fields ≡ Some v → IsFound order code v) → IsFound order code v
    by true is e later = let same : f.value ≡ v = cc in subst (λ c. IsFound order c v) (eqb-true f.code code is) (subst (IsFound order f.code) same its)
    by false is e later = later e

-- so the text of a path is one
path-value : (order : Order) (at c : ℕ) (text : Text) → is_value order at (a_struct (a_number byte c) (value (a_variant (a_path text)) no_values)) ≡ true → is_path text ≡ true
path-value order at c text is =
    let start = at + padding 8 at in
    let later = start + length (spelled order start (a_number byte c)) in
    let one = (and_parts (is_value order start (a_number byte c)) (is_value order later (a_variant (a_path text)) && true) is).1 in
    let two = (and_parts (is_value order later (a_variant (a_path text))) true one).0 in
    let three = (and_parts (is_signature (type_of (a_path text) ∷ [])) (is_text text && is_path text) two).1 in
    (and_parts (is_text text) (is_path text) three).1

module _ (m : Message) (valid : Valid m) where
  found-in : (code : ℕ) (v : Value) → field_in code m.fields ≡ Some v → IsFound m.order code v
  found-in code v e = found m.order 16 code m.fields [] v valid.field_list valid.field_values e

  call-has : (m.kind == 1) ≡ true → (has_field 1 m.fields ≡ true) × (has_field 3 m.fields ≡ true)
  call-has call =
      let has : has_required 1 m.fields ≡ true = subst (λ kind. has_required kind m.fields ≡ true) (eqb-true m.kind 1 call) valid.required in
      let first = and_parts (has_field 1 m.fields) (has_field 3 m.fields && true) has in
      (first.0, (and_parts (has_field 3 m.fields) true first.1).0)

  -- a value with a text that passes a test
  text-value : (test : Text → Bool) (v : Value) (text : Text) → text_passes test v ≡ true → text_in (Some v) ≡ Some text → test text ≡ true
  text-value test (a_string found) text passes e = let same : found ≡ text = cc in subst (λ t. test t ≡ true) same passes
  text-value test (a_number n x) text passes e = absurd cc
  text-value test (a_path found) text passes e = absurd cc
  text-value test (a_signature ts) text passes e = absurd cc
  text-value test (a_variant v) text passes e = absurd cc
  text-value test (an_array t vs) text passes e = absurd cc
  text-value test (a_struct v vs) text passes e = absurd cc
  text-value test (an_entry k v) text passes e = absurd cc

  -- .. which it has
  text-there : (test : Text → Bool) (v : Value) → text_passes test v ≡ true → test (text_or_empty (text_in (Some v))) ≡ true
  text-there test (a_string text) passes = passes
  text-there test (a_number n x) passes = absurd cc
  text-there test (a_path text) passes = absurd cc
  text-there test (a_signature ts) passes = absurd cc
  text-there test (a_variant v) passes = absurd cc
  text-there test (an_array t vs) passes = absurd cc
  text-there test (a_struct v vs) passes = absurd cc
  text-there test (an_entry k v) passes = absurd cc

  path-there : (order : Order) (v : Value) → IsFound order 1 v → is_path (text_or_empty (text_in (Some v))) ≡ true
  path-there order (a_path text) f = path-value order f.place f.said text f.within
  path-there order (a_string text) f = absurd (no f.fits)
    where
      no : false ≡ true → ⊥
      no e = absurd cc
  path-there order (a_number n x) f = absurd (no f.fits)
    where
      no : false ≡ true → ⊥
      no e = absurd cc
  path-there order (a_signature ts) f = absurd (no f.fits)
    where
      no : false ≡ true → ⊥
      no e = absurd cc
  path-there order (a_variant v) f = absurd (no f.fits)
    where
      no : false ≡ true → ⊥
      no e = absurd cc
  path-there order (an_array t vs) f = absurd (no f.fits)
    where
      no : false ≡ true → ⊥
      no e = absurd cc
  path-there order (a_struct v vs) f = absurd (no f.fits)
    where
      no : false ≡ true → ⊥
      no e = absurd cc
  path-there order (an_entry k v) f = absurd (no f.fits)
    where
      no : false ≡ true → ⊥
      no e = absurd cc

  interface-possible : is_interface_or_none (interface m) ≡ true
  interface-possible = by (field_in 2 m.fields) refl (interface m) refl
    where
      by : (o : Option Value) → field_in 2 m.fields ≡ o → (i : Option Text) → text_in o ≡ i → is_interface_or_none i ≡ true
      by None e None t = refl
      by None e (Some i) t = absurd cc
      by (Some v) e None t = refl
      by (Some v) e (Some i) t = text-value is_interface v i (found-in 2 v e).fits t

  member-possible : has_field 3 m.fields ≡ true → is_member (text_or_empty (member m)) ≡ true
  member-possible has = by (field_in 3 m.fields) refl has
    where
      by : (o : Option Value) → field_in 3 m.fields ≡ o → is_some o ≡ true → is_member (text_or_empty (text_in o)) ≡ true
      by None e is = absurd cc
      by (Some v) e is = text-there is_member v (found-in 3 v e).fits

  path-possible : has_field 1 m.fields ≡ true → is_path (text_or_empty (path m)) ≡ true
  path-possible has = by (field_in 1 m.fields) refl has
    where
      by : (o : Option Value) → field_in 1 m.fields ≡ o → is_some o ≡ true → is_path (text_or_empty (text_in o)) ≡ true
      by None e is = absurd cc
      by (Some v) e is = path-there m.order v (found-in 1 v e)

  -- ---- the request

  abbrev asked-at : ClientRole → Option Asked
  asked-at role = asked_as role (text_or_empty (path m)) (interface m) (text_or_empty (member m)) (first_text m)

  bus-call-possible : IsPossible (asked-at (role_of_bus_call (interface m)))
  bus-call-possible = by (interface m)
    where
      by : (i : Option Text) → IsPossible (asked-at (role_of_bus_call i))
      by None = bus-possible (demand_of (text_or_empty (member m))) (first_text m)
      by (Some i) = choose (is_one_of i standard_interfaces) (is_bus i)
        where
          choose : (standard own : Bool) → IsPossible (asked-at (if standard then StandardBusCall else (if own then BusCall else OtherBusCall)))
          choose true own = tt
          choose false true = bus-possible (demand_of (text_or_empty (member m))) (first_text m)
          choose false false = tt

  call-possible : (m.kind == 1) ≡ true → IsPossible (asked-at (role_of_call (destination m) (interface m)))
  call-possible call = by (destination m)
    where
      has : (has_field 1 m.fields ≡ true) × (has_field 3 m.fields ≡ true)
      has = call-has call

      to : (name : Text) → IsPossible (asked-at (CallTo name))
      to name = peer-possible name (Call name (text_or_empty (path m)) (interface m) (text_or_empty (member m)))
          (λ is. and_from (is_peer name && is_path (text_or_empty (path m)) && is_interface_or_none (interface m)) (is_member (text_or_empty (member m)))
          (and_from (is_peer name && is_path (text_or_empty (path m))) (is_interface_or_none (interface m))
          (and_from (is_peer name) (is_path (text_or_empty (path m))) is (path-possible has.0)) interface-possible) (member-possible has.1))

      by : (d : Option Text) → IsPossible (asked-at (role_of_call d (interface m)))
      by None = bus-call-possible
      by (Some name) = choose (is_bus name)
        where
          choose : (b : Bool) → IsPossible (asked-at (if b then role_of_bus_call (interface m) else CallTo name))
          choose true = bus-call-possible
          choose false = to name

  signal-possible : IsPossible (asked-at (role_of_signal (destination m)))
  signal-possible = by (destination m)
    where
      by : (d : Option Text) → IsPossible (asked-at (role_of_signal d))
      by None = tt
      by (Some name) = peer-possible name (Signal name) (λ is. is)

  pub asked-possible : IsPossible (asked_by_message m)
  unfolding client_role kind_of
  asked-possible = by (m.kind == 1) refl (m.kind == 2) (m.kind == 3) (m.kind == 4)
    where
      by : (b : Bool) → (m.kind == 1) ≡ b → (c d e : Bool) →
          IsPossible (asked-at (client_role_at (if b then kinds.Call else (if c then kinds.Return else (if d then kinds.Error else (if e then kinds.Signal else kinds.Other)))) m))
      by true call c d e = call-possible call
      by false call true d e = tt
      by false call false true e = tt
      by false call false false true = signal-possible
      by false call false false false = tt
