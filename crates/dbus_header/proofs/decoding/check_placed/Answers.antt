use Rattle.std.proofs.Common.{◌≡◌, ◌∙◌, ℕ, List, Result, Ok, Err, sym, ap, subst, arith}
use Rattle.std.specs.Prelude.{OnOk}
use Rattle.dbus_values.specs.declared.Order.{Order}
use Rattle.dbus_header.specs.KnownHeaders.{AreWithin, fields_bytes, found_at}
use Rattle.dbus_header.specs.Malformed.{fields_len}
use Rattle.dbus_header.specs.Placed.{IsPlaced}
use Rattle.dbus_header.specs.Whole.{HasParts}
use Rattle.dbus_header.proofs.WholeMessage.{fault_of_whole, whole_by}
use Rattle.dbus_header.proofs.decoding.check_placed.Goals as goal

pub returns-clause-refusal : goal.returns-clause-refusal
returns-clause-refusal c =
    let whole = whole_by c.args.bytes.now (λ i. omega (arith, c.type_inv.bytes i)) c.requires.long (sym c.requires.head) (λ head. c.requires.whole) in
    c.check_fields.ensures.refusal ∙ sym (fault_of_whole c.args.bytes.now whole)

pub returns-clause-placed : goal.returns-clause-placed
returns-clause-placed c = go c.check_fields.result c.check_fields.ensures.parts
  where
    t : List ℕ
    t = c.args.bytes.now

    fields : fields_bytes c.args.fields_len t ≡ fields_bytes (fields_len t) t
    fields = ap (λ (n : ℕ). fields_bytes n t) c.requires.len.stated

    is : HasParts t (found_at c.args.order c.fields_bytes-fields.result.now c.args.places.now) → IsPlaced t c.args.places.now
    is parts = record {
      long = c.requires.long;
      head = c.requires.head;
      exact = c.requires.whole;
      within = subst (λ (b : List ℕ). AreWithin b c.args.places.now) fields c.requires.placed.within;
      parts = subst (λ (o : Order). HasParts t (found_at o (fields_bytes (fields_len t) t) c.args.places.now)) c.requires.order
          (subst (λ (b : List ℕ). HasParts t (found_at c.args.order b c.args.places.now)) (c.fields_bytes-fields.ensures.bytes ∙ fields) parts);
    }

    go : {E : Type 0} (r : Result (Unit {0}) E) → OnOk r (HasParts t (found_at c.args.order c.fields_bytes-fields.result.now c.args.places.now)) → OnOk r (IsPlaced t c.args.places.now)
    go (Ok x) parts = is parts
    go (Err f) parts = tt
