-- The answers in place are the bytes that the code has for them.
use Rattle.std.proofs.Common.{ℕ, ◌≡◌, List, refl}
use Rattle.dbus_values.specs.declared.Order.{Order}
use Rattle.dbus_values.specs.declared.Order.TheVariants.{Little, Big}
use Rattle.dbus_header.specs.Message.{spell, with_number}
use Rattle.dbus_header.specs.declared.Instead.{Instead}
use Rattle.dbus_header.specs.declared.Instead.TheVariants.{AccessDenied, NameHasNoOwner, ServiceUnknown, False}
use Rattle.policy_view.specs.Own.{answer_in_place}
use Rattle.ping_rewrite.specs.declared.answers.TheConstants.{LITTLE_ACCESS_DENIED, LITTLE_NAME_HAS_NO_OWNER, LITTLE_SERVICE_UNKNOWN, LITTLE_FALSE, BIG_ACCESS_DENIED, BIG_NAME_HAS_NO_OWNER, BIG_SERVICE_UNKNOWN, BIG_FALSE}

-- bytes that are an answer once its two numbers are put in
pub record IsTemplate (order : Order) (what : Instead) (place : ℕ) (bytes : List ℕ) : Type 0 where
  pub numbered : (reply serial : ℕ) → with_number order place reply (with_number order 8 serial bytes) ≡ spell (answer_in_place order reply serial what)

pub little_access_denied : IsTemplate Little AccessDenied 68 LITTLE_ACCESS_DENIED
unfolding spell answer_in_place
little_access_denied = record { numbered = λ reply serial. refl }

pub little_name_has_no_owner : IsTemplate Little NameHasNoOwner 76 LITTLE_NAME_HAS_NO_OWNER
unfolding spell answer_in_place
little_name_has_no_owner = record { numbered = λ reply serial. refl }

pub little_service_unknown : IsTemplate Little ServiceUnknown 76 LITTLE_SERVICE_UNKNOWN
unfolding spell answer_in_place
little_service_unknown = record { numbered = λ reply serial. refl }

pub little_false : IsTemplate Little False 20 LITTLE_FALSE
unfolding spell answer_in_place
little_false = record { numbered = λ reply serial. refl }

pub big_access_denied : IsTemplate Big AccessDenied 68 BIG_ACCESS_DENIED
unfolding spell answer_in_place
big_access_denied = record { numbered = λ reply serial. refl }

pub big_name_has_no_owner : IsTemplate Big NameHasNoOwner 76 BIG_NAME_HAS_NO_OWNER
unfolding spell answer_in_place
big_name_has_no_owner = record { numbered = λ reply serial. refl }

pub big_service_unknown : IsTemplate Big ServiceUnknown 76 BIG_SERVICE_UNKNOWN
unfolding spell answer_in_place
big_service_unknown = record { numbered = λ reply serial. refl }

pub big_false : IsTemplate Big False 20 BIG_FALSE
unfolding spell answer_in_place
big_false = record { numbered = λ reply serial. refl }

-- for values that are equal to these
pub numbered_at : {order o : Order} {what w : Instead} {place p : ℕ} {bytes b : List ℕ} → IsTemplate o w p b → order ≡ o → what ≡ w → place ≡ p → bytes ≡ b →
    (reply serial : ℕ) → with_number order place reply (with_number order 8 serial bytes) ≡ spell (answer_in_place order reply serial what)
numbered_at t e f g h reply serial = cc (t.numbered reply serial)
