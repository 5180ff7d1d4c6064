-- What follows a word's prefix.
use Rattle.std.proofs.Common.{◌≡◌, ℕ, List, ◌++◌, Option, Some, None, sym, ap, ◌∙◌}
use Rattle.std.specs.Prelude.{MatchOption, option_map}
use Rattle.std.specs.Str.Pattern.{FindsTextPrefix, StripsPrefix}
use Rattle.dbus_names.specs.Texts.{behind}
use Rattle.dbus_names.proofs.Texts.{behind-Some, behind-None}
use denote.Bor.{Bor}

-- what `strip_prefix` answers at a word
pub stripped : (front w : List ℕ) (r : Option (Bor (List ℕ))) → MatchOption r (FindsTextPrefix front w None) (λ x. StripsPrefix (FindsTextPrefix front) w x.now) →
    option_map (λ x. x.now) r ≡ behind front w
stripped front w None h = sym (behind-None front w h)
stripped front w (Some x) h = sym (behind-Some front w x.now (h.1.1 ∙ ap (λ t. front ++ t) (sym h.2)))
