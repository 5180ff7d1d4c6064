-- Worked examples of rules and of what they match.
use Rattle.std.specs.Prelude.{◌≡◌, ℕ, Bool, true, false, List, [], ◌∷◌, Option, codes, refl, map, Some, None, is_some, option_map}
use Rattle.call_rules.specs.Rules.{Rule, rule_of, matches}

-- ---- texts

-- of any member at any path
any : List ℕ → Rule
any text = record { text = text; interface = None; member = None; path = None; below = false }

star : map rule_of (codes "*" ∷ codes "" ∷ codes "@/*" ∷ codes "*@/*" ∷ []) ≡ Some (any (codes "*")) ∷ Some (any (codes "")) ∷ Some (any (codes "@/*")) ∷ Some (any (codes "*@/*")) ∷ []
unfolding any
star = refl

path_alone : rule_of (codes "@/p") ≡ Some (record { text = codes "@/p"; interface = None; member = None; path = Some (codes "/p"); below = false })
path_alone = refl

root : rule_of (codes "*@/") ≡ Some (record { text = codes "*@/"; interface = None; member = None; path = Some (codes "/"); below = false })
root = refl

all_parts : rule_of (codes "org.a.I.M@/p/*") ≡ Some (record { text = codes "org.a.I.M@/p/*"; interface = Some (codes "org.a.I"); member = Some (codes "M"); path = Some (codes "/p"); below = true })
all_parts = refl

whole_interface : rule_of (codes "org.a.I.*") ≡ Some (record { text = codes "org.a.I.*"; interface = Some (codes "org.a.I"); member = None; path = None; below = false })
whole_interface = refl

-- a bare interface is read as a member of a shorter one
last_dot : rule_of (codes "org.a.I") ≡ Some (record { text = codes "org.a.I"; interface = Some (codes "org.a"); member = Some (codes "I"); path = None; below = false })
last_dot = refl

refused : map (λ t. is_some (rule_of t)) (codes "Foo" ∷ codes "a.M" ∷ codes "*@" ∷ codes "@" ∷ codes "org.a.I.M@p" ∷ codes "@/p//*" ∷ codes "@//*" ∷ codes "org.a.I.M@/p@q" ∷ codes "org.a.I." ∷ codes "org.a.I.M*" ∷ codes ".*" ∷ codes "@/p/" ∷ []) ≡ false ∷ false ∷ false ∷ false ∷ false ∷ false ∷ false ∷ false ∷ false ∷ false ∷ false ∷ false ∷ []
refused = refl

-- ---- calls

-- what the rule that a text says makes of a call of member M of an interface at each path
at_paths : List ℕ → Option (List ℕ) → List (List ℕ) → Option (List Bool)
at_paths text interface paths = option_map (λ r. map (λ path. matches r path interface (codes "M")) paths) (rule_of text)

tree : at_paths (codes "@/p/*") None (codes "/p" ∷ codes "/p/q" ∷ codes "/p/q/r" ∷ codes "/pq" ∷ codes "/" ∷ []) ≡ Some (true ∷ true ∷ true ∷ false ∷ false ∷ [])
unfolding at_paths
tree = refl

one_path : at_paths (codes "@/p") None (codes "/p" ∷ codes "/p/q" ∷ codes "/" ∷ []) ≡ Some (true ∷ false ∷ false ∷ [])
unfolding at_paths
one_path = refl

all_paths : at_paths (codes "@/*") None (codes "/p" ∷ codes "/" ∷ []) ≡ Some (true ∷ true ∷ [])
unfolding at_paths
all_paths = refl

-- without and with the interface, with another one, and of another member
member_named : option_map (λ r. matches r (codes "/p") None (codes "M") ∷ matches r (codes "/p") (Some (codes "org.a.I")) (codes "M") ∷ matches r (codes "/p") (Some (codes "org.a.J")) (codes "M") ∷ matches r (codes "/p") (Some (codes "org.a.I")) (codes "N") ∷ []) (rule_of (codes "org.a.I.M")) ≡ Some (false ∷ true ∷ false ∷ false ∷ [])
member_named = refl

interface_named : option_map (λ r. matches r (codes "/p") None (codes "M") ∷ matches r (codes "/p") (Some (codes "org.a.I")) (codes "M") ∷ matches r (codes "/p") (Some (codes "org.a.I")) (codes "N") ∷ []) (rule_of (codes "org.a.I.*")) ≡ Some (false ∷ true ∷ true ∷ [])
interface_named = refl
