-- Worked examples of suggested policies.
use Rattle.std.specs.Prelude.{◌≡◌, [], ◌∷◌, codes, refl, None, Some, List, map}
use Rattle.dbus_names.specs.Texts.{Text}
use Rattle.policy_args.specs.Policy.{entry_word}
use Rattle.policy_args.specs.declared.requests.Asked.{Asked}
use Rattle.policy_args.specs.declared.requests.Asked.TheVariants.{Call, Signal, Own, Owner}
use Rattle.policy_suggest.specs.Suggest.{suggested}

abbrev words : List Asked → List Text
words all = map entry_word (suggested all).entries

-- calls with interfaces, out of order and one given again
abbrev call : Text → Text → Asked
call name member = Call name (codes "/p") (Some (codes "org.a.I")) member

calls_suggested : words (call (codes "org.h.X") (codes "A") ∷ call (codes "org.a.T") (codes "B") ∷ call (codes "org.a.T") (codes "A") ∷ call (codes "org.a.T") (codes "B") ∷ [])
    ≡ codes "--call=org.a.T=org.a.I.A@/p" ∷ codes "--call=org.a.T=org.a.I.B@/p" ∷ codes "--call=org.h.X=org.a.I.A@/p" ∷ []
unfolding suggested
calls_suggested = refl

-- a call without an interface opens its path
abbrev call_at : Text → Asked
call_at path = Call (codes "org.b.T") path (Some (codes "org.a.I")) (codes "M")

open_suggested : words (call_at (codes "/q") ∷ call_at (codes "/r") ∷ Call (codes "org.b.T") (codes "/q") None (codes "N") ∷ [])
    ≡ codes "--call=org.b.T=@/q" ∷ codes "--call=org.b.T=org.a.I.M@/r" ∷ []
unfolding suggested
open_suggested = refl

-- each level that one entry gives
levels_suggested : words (Owner (codes "org.c.N") ∷ Signal (codes "org.d.N") ∷ call (codes "org.d.N") (codes "A") ∷ call (codes "org.b.T") (codes "A") ∷ Owner (codes "org.b.T") ∷ Own (codes "org.a.N") ∷ Signal (codes "org.a.N") ∷ [])
    ≡ codes "--own=org.a.N" ∷ codes "--call=org.b.T=org.a.I.A@/p" ∷ codes "--see=org.c.N" ∷ codes "--talk=org.d.N" ∷ []
unfolding suggested
levels_suggested = refl
