-- Texts that are put one after the other.
use Rattle.std.proofs.Common.{◌≡◌, ◌∙◌, ◌+◌, ◌<◌, ℕ, List, [], ◌∷◌, ◌++◌, ap, append_assoc, append-nil, flat_map, get_or, length, map, sym, take}
use Rattle.std.proofs.lemmas.Grind.{flat_map-append}
use Rattle.std.proofs.lemmas.List.{map_more}
use Rattle.dbus_names.specs.Texts.{Text}

-- one text more, of an element
pub more_text : {A B : Type 0} (g : A → Text) (f : B → A) (xs : List B) (i : ℕ) (d : B) (first so_far all : Text) → i < length xs → so_far ≡ first ++ flat_map g (map f (take i xs)) → all ≡ so_far ++ g (f (get_or xs i d)) →
    all ≡ first ++ flat_map g (map f (take (i + 1) xs))
more_text g f xs i d first so_far all lt before next =
    next ∙ ap (λ (t : Text). t ++ g (f (get_or xs i d))) before ∙ append_assoc first (flat_map g (map f (take i xs))) (g (f (get_or xs i d)))
    ∙ ap (λ (t : Text). first ++ t)
    (ap (λ (t : Text). flat_map g (map f (take i xs)) ++ t) (sym (append-nil (g (f (get_or xs i d))))) ∙ sym (flat_map-append g (map f (take i xs)) (f (get_or xs i d) ∷ [])) ∙ sym (ap (flat_map g) (map_more f xs i d lt)))
