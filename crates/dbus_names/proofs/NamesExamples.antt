-- Worked examples of the grammars of names.
use Rattle.std.specs.Prelude.{◌≡◌, true, false, [], ◌∷◌, codes, refl, map, replicate, ◌++◌}
use Rattle.dbus_names.specs.Names.{is_well_known, is_interface, is_unique, is_path, is_member}

bus_name : is_well_known (codes "org.freedesktop.DBus") ≡ true
bus_name = refl

bus_interface : is_interface (codes "org.freedesktop.DBus") ≡ true
bus_interface = refl

dash : is_interface (codes "org.a-b.C") ≡ false
dash = refl

well_known : map is_well_known (codes "org" ∷ codes "org.a-b.C" ∷ codes "org.7a.C" ∷ codes ":1.42" ∷ codes "-.-" ∷ codes "" ∷ []) ≡ false ∷ true ∷ false ∷ false ∷ true ∷ false ∷ []
well_known = refl

unique : map is_unique (codes ":1.42" ∷ codes ":1" ∷ codes "1.42" ∷ []) ≡ true ∷ false ∷ false ∷ []
unique = refl

paths : map is_path (codes "/" ∷ codes "/a/b_1" ∷ codes "/a/" ∷ codes "//a" ∷ codes "" ∷ []) ≡ true ∷ true ∷ false ∷ false ∷ false ∷ []
paths = refl

members : map is_member (codes "Foo2" ∷ codes "2Foo" ∷ codes "a.b" ∷ []) ≡ true ∷ false ∷ false ∷ []
members = refl

-- the longest name: 251 bytes, a dot and three bytes, and one byte more
longest : map (λ n. is_well_known (replicate n 97 ++ codes ".abc")) (251 ∷ 252 ∷ []) ≡ true ∷ false ∷ []
longest = refl
