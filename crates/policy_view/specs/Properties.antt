-- Requests of properties (D-Bus Specification, "org.freedesktop.DBus.Properties").
use Rattle.std.specs.Prelude.{Bool, false, ◌&&◌, ◌||◌, if◌then◌else◌, Option, Some, None, codes}
use Rattle.std.specs.Str.{bytes_eq}
use Rattle.call_rules.specs.Properties.{PropertyRule, property_matches}
use Rattle.dbus_header.specs.Message.{Message, interface, member, signature, first_text, two_texts}
use Rattle.dbus_names.specs.Texts.{Text}
use Rattle.policy_view.specs.Texts.{has_text}

abbrev pub properties_interface : Text
properties_interface = codes "org.freedesktop.DBus.Properties"

-- a request of a property of an interface, or of all its properties if none is named
pub record PropertyRequest : Type 0 where
  pub interface : Text
  pub property : Option Text

-- the message has this member and its body this signature
abbrev pub is_method : Text → Text → Message → Bool
is_method name types m = has_text (member m) name && bytes_eq (signature m) types

abbrev pub is_get : Message → Bool
is_get m = is_method (codes "Get") (codes "ss") m

abbrev pub is_set : Message → Bool
is_set m = is_method (codes "Set") (codes "ssv") m

abbrev pub is_get_all : Message → Bool
is_get_all m = is_method (codes "GetAll") (codes "s") m

-- the first text is the interface, and the second the property
abbrev pub request_of_one : Option (Text × Text) → Option PropertyRequest
request_of_one None = None
request_of_one (Some texts) = Some (record { interface = texts.0; property = Some texts.1 })

-- the text is the interface
abbrev pub request_of_all : Option Text → Option PropertyRequest
request_of_all None = None
request_of_all (Some text) = Some (record { interface = text; property = None })

-- Get and Set request one property, and GetAll all
abbrev pub method_request : Message → Option PropertyRequest
method_request m =
    if is_get m || is_set m then request_of_one (two_texts m)
    else (if is_get_all m then request_of_all (first_text m) else None)

-- what a call requests by the interface of properties
unfoldable pub property_request : Message → Option PropertyRequest
property_request m = if has_text (interface m) properties_interface then method_request m else None

-- the rule matches a property request at the path; an absent path or request is matched by none
abbrev pub permits : PropertyRule → Option Text → Option PropertyRequest → Bool
permits rule None request = false
permits rule (Some path) None = false
permits rule (Some path) (Some request) = property_matches rule path request.interface request.property
