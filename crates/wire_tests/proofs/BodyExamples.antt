-- Bodies of strings that are valid.
use Rattle.std.proofs.Common.{◌≡◌, ℕ, List, [], ◌∷◌, refl, sym, subst}
use Rattle.std.specs.Prelude.{codes}
use Rattle.std.specs.Str.{is_utf8, chars}
use Rattle.std.specs.Char.{encode_utf8}
use Rattle.dbus_types.specs.Signature.{basic, number, byte, uint32, string, variant, array}
use Rattle.dbus_values.specs.Values.{a_number, a_string, a_variant, an_array, value, no_values}
use Rattle.dbus_values.specs.Bodies.{HasBody}
use Rattle.dbus_values.specs.declared.Order.TheVariants.{Little, Big}

abbrev pub three_bytes : List ℕ
three_bytes = 1 ∷ 0 ∷ 0 ∷ 0 ∷ 97 ∷ 0 ∷ 0 ∷ 0 ∷ 0 ∷ 0 ∷ 0 ∷ 0 ∷ 0 ∷ 0 ∷ 0 ∷ 0 ∷ 2 ∷ 0 ∷ 0 ∷ 0 ∷ 98 ∷ 99 ∷ 0 ∷ []

pub three_body : HasBody Little (codes "sss") three_bytes
unfolding is_utf8 chars encode_utf8
three_body = (0, basic string ∷ basic string ∷ basic string ∷ [], a_string (codes "a") ∷ a_string [] ∷ a_string (codes "bc") ∷ [], record { start = refl; spelled = refl; read = refl; all = refl })

abbrev pub list_bytes : List ℕ
list_bytes = 15 ∷ 0 ∷ 0 ∷ 0 ∷ 1 ∷ 0 ∷ 0 ∷ 0 ∷ 97 ∷ 0 ∷ 0 ∷ 0 ∷ 2 ∷ 0 ∷ 0 ∷ 0 ∷ 98 ∷ 99 ∷ 0 ∷ []

pub list_body : HasBody Little (codes "as") list_bytes
unfolding is_utf8 chars encode_utf8
list_body = (0, array (basic string) ∷ [], an_array (basic string) (value (a_string (codes "a")) (value (a_string (codes "bc")) no_values)) ∷ [], record { start = refl; spelled = refl; read = refl; all = refl })

pub first_body : (bytes : List ℕ) → bytes ≡ codes "sss" → HasBody Little bytes three_bytes
first_body bytes e = subst (λ (b : List ℕ). HasBody Little b three_bytes) (sym e) three_body

pub no_body : HasBody Little [] []
unfolding is_utf8 chars encode_utf8
no_body = (0, [], [], record { start = refl; spelled = refl; read = refl; all = refl })

pub little_s : HasBody Little (codes "s") (1 ∷ 0 ∷ 0 ∷ 0 ∷ 97 ∷ 0 ∷ [])
unfolding is_utf8 chars encode_utf8
little_s = (0, basic string ∷ [], a_string (codes "a") ∷ [], record { start = refl; spelled = refl; read = refl; all = refl })

pub little_ss : HasBody Little (codes "ss") (1 ∷ 0 ∷ 0 ∷ 0 ∷ 97 ∷ 0 ∷ 0 ∷ 0 ∷ 2 ∷ 0 ∷ 0 ∷ 0 ∷ 98 ∷ 99 ∷ 0 ∷ [])
unfolding is_utf8 chars encode_utf8
little_ss = (0, basic string ∷ basic string ∷ [], a_string (codes "a") ∷ a_string (codes "bc") ∷ [], record { start = refl; spelled = refl; read = refl; all = refl })

pub little_su : HasBody Little (codes "su") (1 ∷ 0 ∷ 0 ∷ 0 ∷ 97 ∷ 0 ∷ 0 ∷ 0 ∷ 7 ∷ 0 ∷ 0 ∷ 0 ∷ [])
unfolding is_utf8 chars encode_utf8
little_su = (0, basic string ∷ basic (number uint32) ∷ [], a_string (codes "a") ∷ a_number uint32 7 ∷ [], record { start = refl; spelled = refl; read = refl; all = refl })

pub little_us : HasBody Little (codes "us") (7 ∷ 0 ∷ 0 ∷ 0 ∷ 1 ∷ 0 ∷ 0 ∷ 0 ∷ 97 ∷ 0 ∷ [])
unfolding is_utf8 chars encode_utf8
little_us = (0, basic (number uint32) ∷ basic string ∷ [], a_number uint32 7 ∷ a_string (codes "a") ∷ [], record { start = refl; spelled = refl; read = refl; all = refl })

pub big_s : HasBody Big (codes "s") (0 ∷ 0 ∷ 0 ∷ 1 ∷ 97 ∷ 0 ∷ [])
unfolding is_utf8 chars encode_utf8
big_s = (0, basic string ∷ [], a_string (codes "a") ∷ [], record { start = refl; spelled = refl; read = refl; all = refl })

pub big_sss : HasBody Big (codes "sss") (0 ∷ 0 ∷ 0 ∷ 1 ∷ 97 ∷ 0 ∷ 0 ∷ 0 ∷ 0 ∷ 0 ∷ 0 ∷ 0 ∷ 0 ∷ 0 ∷ 0 ∷ 0 ∷ 0 ∷ 0 ∷ 0 ∷ 2 ∷ 98 ∷ 99 ∷ 0 ∷ [])
unfolding is_utf8 chars encode_utf8
big_sss = (0, basic string ∷ basic string ∷ basic string ∷ [], a_string (codes "a") ∷ a_string [] ∷ a_string (codes "bc") ∷ [], record { start = refl; spelled = refl; read = refl; all = refl })

pub big_ssv : HasBody Big (codes "ssv") (0 ∷ 0 ∷ 0 ∷ 1 ∷ 97 ∷ 0 ∷ 0 ∷ 0 ∷ 0 ∷ 0 ∷ 0 ∷ 2 ∷ 98 ∷ 99 ∷ 0 ∷ 1 ∷ 121 ∷ 0 ∷ 7 ∷ [])
unfolding is_utf8 chars encode_utf8
big_ssv = (0, basic string ∷ basic string ∷ variant ∷ [], a_string (codes "a") ∷ a_string (codes "bc") ∷ a_variant (a_number byte 7) ∷ [], record { start = refl; spelled = refl; read = refl; all = refl })
