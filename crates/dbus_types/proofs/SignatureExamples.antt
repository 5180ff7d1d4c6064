-- Worked examples of signatures.
use Rattle.std.specs.Prelude.{◌≡◌, [], ◌∷◌, ◌++◌, codes, refl, map, replicate, Option, Some, None}
use Rattle.dbus_types.specs.Signature.{signature_fault, types_of, array, entry, variant, basic, string}
use Rattle.dbus_types.specs.declared.BadSignature.{BadSignature}
use Rattle.dbus_types.specs.declared.BadSignature.TheVariants.{TooLong, Depth, Form}

pub ok : Option BadSignature
ok = None

forms : map signature_fault (codes "a{sv}" ∷ codes "(ii)ai" ∷ codes "" ∷ codes "a{s}" ∷ codes "{sv}" ∷ codes "a" ∷ codes "z" ∷ codes "()" ∷ codes "a{vs}" ∷ codes "a(i}" ∷ codes "i)" ∷ []) ≡ None ∷ None ∷ None ∷ Some Form ∷ Some Form ∷ Some Form ∷ Some Form ∷ Some Form ∷ Some Form ∷ Some Form ∷ Some Form ∷ []
forms = refl

read_dict : types_of (codes "a{sv}") ≡ Some (array (entry (basic string) variant) ∷ [])
read_dict = refl

deep : map (λ n. signature_fault (replicate n 97 ++ codes "y")) (32 ∷ 33 ∷ []) ≡ None ∷ Some Depth ∷ []
deep = refl

long : map (λ n. signature_fault (replicate n 121)) (255 ∷ 256 ∷ []) ≡ None ∷ Some TooLong ∷ []
long = refl
