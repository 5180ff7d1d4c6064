-- What stands in front of a sample's draws is the bytes that the code has for it.
use Rattle.std.proofs.Common.{ℕ, ◌≡◌, ◌++◌, [], ◌∷◌, List, flat_map, refl, ap, ◌∙◌, append_assoc}
use Rattle.recording.specs.Recording.{Bytes, magic, spelled_event, spelled_record}
use Rattle.recording.specs.declared.Side.TheVariants.{Client, Bus}
use Rattle.dbus_header.specs.Message.{spell}
use Rattle.sample.specs.Sample.{opening}
use Rattle.sample.specs.declared.opening.TheConstants.{HELLO, GREETED, MATCHED, OWNED}

pub opening_events : Bytes Client HELLO ∷ Bytes Bus GREETED ∷ Bytes Bus MATCHED ∷ Bytes Bus OWNED ∷ [] ≡ opening
unfolding spell
opening_events = refl

opening_bytes :
    (magic ++ 1 ∷ 0 ∷ []) ++ (spelled_record 0 HELLO ++ (spelled_record 1 GREETED ++ (spelled_record 1 MATCHED ++ spelled_record 1 OWNED)))
    ≡ magic ++ 1 ∷ 0 ∷ flat_map spelled_event opening
opening_bytes = ap (λ events. magic ++ 1 ∷ 0 ∷ flat_map spelled_event events) opening_events

-- five parts, in their order
five_parts : (o a b c d e : List ℕ) → ((((o ++ a) ++ b) ++ c) ++ d) ++ e ≡ o ++ (a ++ (b ++ (c ++ (d ++ e))))
five_parts o a b c d e = simp append_assoc

pub put_in_order : (o one two three four : List ℕ) → one ≡ o ++ (magic ++ 1 ∷ 0 ∷ []) → two ≡ one ++ spelled_record 0 HELLO → three ≡ two ++ spelled_record 1 GREETED →
    four ≡ three ++ spelled_record 1 MATCHED → four ++ spelled_record 1 OWNED ≡ o ++ (magic ++ 1 ∷ 0 ∷ flat_map spelled_event opening)
put_in_order o one two three four p q r s =
    ap (λ t. t ++ spelled_record 1 OWNED) (s ∙ ap (λ t. t ++ spelled_record 1 MATCHED) (r ∙ ap (λ t. t ++ spelled_record 1 GREETED) (q ∙ ap (λ t. t ++ spelled_record 0 HELLO) p)))
    ∙ five_parts o (magic ++ 1 ∷ 0 ∷ []) (spelled_record 0 HELLO) (spelled_record 1 GREETED) (spelled_record 1 MATCHED) (spelled_record 1 OWNED)
    ∙ ap (λ t. o ++ t) opening_bytes
