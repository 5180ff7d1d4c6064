-- The requests by which a policy is compared with another: a few for each entry, which use an element that the other
-- doesn't name.
use Rattle.std.specs.Prelude.{◌&&◌, List, [], ◌∷◌, ◌++◌, Option, Some, None, Bool, unwrap_or, if◌then◌else◌}
use Rattle.call_rules.specs.Properties.{PropertyRule}
use Rattle.dbus_names.specs.Names.{is_bus}
use Rattle.dbus_names.specs.Texts.{Text}
use Rattle.name_patterns.specs.Patterns.{Pattern}
use Rattle.policy_args.specs.declared.entry.Entry.{Entry}
use Rattle.policy_args.specs.declared.entry.Grant.{Grant}
use Rattle.policy_args.specs.declared.entry.Grant.TheVariants.{See as to_see, Talk as to_talk, Own as to_own, Call as to_call, Broadcast as to_broadcast, Property as to_property}
use Rattle.policy_args.specs.declared.requests.Access.TheVariants.{Get, Set, GetAll}
use Rattle.policy_args.specs.declared.requests.Asked.{Asked}
use Rattle.policy_args.specs.declared.requests.Asked.TheVariants.{Call, Signal, Own as OwnName, Owner, Broadcast, Property}

-- ---- parts

abbrev pub point_name : Text → Pattern → Text
point_name f p = if p.exact then p.name else p.name ++ 46 ∷ f

abbrev pub point_path : Text → Option Text → Bool → Text
point_path f None below = 47 ∷ f
point_path f (Some path) below = if below then path ++ 47 ∷ f else path

abbrev pub point_interface : Text → Option Text → Text
point_interface f interface = unwrap_or interface (f ++ 46 ∷ f)

-- the member or the property
abbrev pub point_member : Text → Option Text → Text
point_member f member = unwrap_or member f

-- ---- points

abbrev pub all_points : Text → Text → Text → Option Text → List Asked
all_points name path interface None = Property name path interface GetAll ∷ []
all_points name path interface (Some property) = []

abbrev pub property_points : Text → Text → PropertyRule → List Asked
property_points f name r =
    Property name (point_path f r.path r.below) r.interface (Get (point_member f r.property))
    ∷ Property name (point_path f r.path r.below) r.interface (Set (point_member f r.property))
    ∷ all_points name (point_path f r.path r.below) r.interface r.property

abbrev pub grant_points : Text → Text → Grant → List Asked
grant_points f name to_see = Owner name ∷ []
grant_points f name to_talk = Signal name ∷ []
grant_points f name to_own = OwnName name ∷ []
grant_points f name (to_call r) = Call name (point_path f r.path r.below) (Some (point_interface f r.interface)) (point_member f r.member) ∷ []
grant_points f name (to_broadcast r) = Broadcast name (point_path f r.path r.below) (point_interface f r.interface) (point_member f r.member) ∷ []
grant_points f name (to_property r) = property_points f name r

-- An entry of exactly the bus's own name has none.
abbrev pub points : Text → Entry → List Asked
points f e = if e.pattern.exact && is_bus e.pattern.name then [] else grant_points f (point_name f e.pattern) e.grant
