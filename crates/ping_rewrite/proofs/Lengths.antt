-- The lengths of the proxy's own messages.
use Rattle.std.proofs.Common.{ℕ, ◌≡◌, ◌+◌, ◌∙◌, List, length, refl, sym, ap, arith, Bool, true, false, if◌then◌else◌}
use Rattle.dbus_values.specs.declared.Order.{Order}
use Rattle.dbus_values.specs.declared.Order.TheVariants.{Little, Big}
use Rattle.dbus_header.specs.Message.{spell, with_serial}
use Rattle.dbus_header.specs.declared.Instead.{Instead}
use Rattle.dbus_header.specs.declared.Instead.TheVariants.{AccessDenied, NameHasNoOwner, ServiceUnknown, False}
use Rattle.name_patterns.specs.Patterns.{Pattern}
use Rattle.policy_view.specs.Own.{ping, list_names, add_match, get_owner, answer_in_place}
use Rattle.ping_rewrite.specs.Fronts.{rule_before}
use Rattle.ping_rewrite.specs.Lengths.{HasLengths}
use Rattle.ping_rewrite.proofs.CallBytes.{ping_bytes, list_names_bytes, get_owner_count, add_match_count}

-- ---- calls

pub ping_lengths : (serial : ℕ) → HasLengths (with_serial serial ping) 120 101
unfolding ping
ping_lengths serial = record { all_is = sym (ap length (ping_bytes serial)); fields_is = refl }

pub list_names_lengths : (serial : ℕ) → HasLengths (with_serial serial list_names) 136 117
unfolding list_names
list_names_lengths serial = record { all_is = sym (ap length (list_names_bytes serial)); fields_is = refl }

pub get_owner_lengths : (serial : ℕ) (name : List ℕ) → HasLengths (with_serial serial (get_owner name)) (149 + length name) 127
unfolding get_owner
get_owner_lengths serial name = record { all_is = omega (arith, get_owner_count serial name); fields_is = refl }

pub add_match_lengths : (serial : ℕ) (p : Pattern) → HasLengths (with_serial serial (add_match p)) ((if p.exact then 259 else 268) + length p.name) 127
unfolding add_match
add_match_lengths serial p = record { all_is = sym (add_match_count serial p) ∙ by_form p.exact; fields_is = refl }
  where
    by_form : (exact : Bool) → 148 + length (rule_before exact) + length p.name + 2 ≡ (if exact then 259 else 268) + length p.name
    by_form true = omega arith
    by_form false = omega arith

-- ---- answers in place

-- how many bytes an answer of each kind has, and how many of them its header fields
abbrev pub answer_length : Instead → ℕ
answer_length AccessDenied = 140
answer_length NameHasNoOwner = 142
answer_length ServiceUnknown = 140
answer_length False = 68

abbrev pub answer_fields_length : Instead → ℕ
answer_fields_length AccessDenied = 95
answer_fields_length NameHasNoOwner = 103
answer_fields_length ServiceUnknown = 103
answer_fields_length False = 47

pub answer_lengths : (order : Order) (reply serial : ℕ) (what : Instead) → HasLengths (answer_in_place order reply serial what) (answer_length what) (answer_fields_length what)
unfolding spell answer_in_place
answer_lengths Little reply serial AccessDenied = record { all_is = refl; fields_is = refl }
answer_lengths Little reply serial NameHasNoOwner = record { all_is = refl; fields_is = refl }
answer_lengths Little reply serial ServiceUnknown = record { all_is = refl; fields_is = refl }
answer_lengths Little reply serial False = record { all_is = refl; fields_is = refl }
answer_lengths Big reply serial AccessDenied = record { all_is = refl; fields_is = refl }
answer_lengths Big reply serial NameHasNoOwner = record { all_is = refl; fields_is = refl }
answer_lengths Big reply serial ServiceUnknown = record { all_is = refl; fields_is = refl }
answer_lengths Big reply serial False = record { all_is = refl; fields_is = refl }
