-- Worked examples of patterns, and of what they cover.
use Rattle.std.specs.Prelude.{◌≡◌, true, false, [], ◌∷◌, codes, refl, map, Some, None}
use Rattle.name_patterns.specs.Patterns.{Pattern, covers, is_pattern, pattern_of, pattern_text}

-- ---- texts that are patterns, and texts that are none

exact : map pattern_of (codes "org.foo" ∷ codes "org.a.T" ∷ codes "a.b-c" ∷ []) ≡
    Some (record { name = codes "org.foo"; exact = true }) ∷ Some (record { name = codes "org.a.T"; exact = true }) ∷ Some (record { name = codes "a.b-c"; exact = true }) ∷ []
exact = refl

subtrees : map pattern_of (codes "org.*" ∷ codes "org.a.*" ∷ codes "-.*" ∷ []) ≡
    Some (record { name = codes "org"; exact = false }) ∷ Some (record { name = codes "org.a"; exact = false }) ∷ Some (record { name = codes "-"; exact = false }) ∷ []
subtrees = refl

refused : map pattern_of (codes "org" ∷ codes "*" ∷ codes ":1.5" ∷ codes ":1.*" ∷ codes "org.a*" ∷ codes ".*" ∷ codes "" ∷ codes "org..*" ∷ codes ".org.*" ∷ codes "org.7.*" ∷ codes "org.*.*" ∷ codes "org.*.a" ∷ []) ≡
    None ∷ None ∷ None ∷ None ∷ None ∷ None ∷ None ∷ None ∷ None ∷ None ∷ None ∷ None ∷ []
refused = refl

-- ---- what patterns cover

foo : Pattern
foo = record { name = codes "org.foo"; exact = true }

foos : Pattern
foos = record { name = codes "org.foo"; exact = false }

cover : map (covers foos) (codes "org.foo" ∷ codes "org.foo.bar" ∷ codes "org.foo.bar.baz" ∷ codes "org.foobar" ∷ codes "org" ∷ codes "org.fo" ∷ codes "" ∷ []) ≡ true ∷ true ∷ true ∷ false ∷ false ∷ false ∷ false ∷ []
unfolding foos
cover = refl

cover_exact : map (covers foo) (codes "org.foo" ∷ codes "org.foo.bar" ∷ codes "org.foo.bar.baz" ∷ codes "org.foobar" ∷ codes "org" ∷ codes "org.fo" ∷ codes "" ∷ []) ≡ true ∷ false ∷ false ∷ false ∷ false ∷ false ∷ false ∷ []
unfolding foo
cover_exact = refl

-- ---- patterns and their texts

texts : map pattern_text (foo ∷ foos ∷ []) ≡ codes "org.foo" ∷ codes "org.foo.*" ∷ []
unfolding foo foos
texts = refl

patterns : map is_pattern (foo ∷ foos ∷ record { name = codes "org"; exact = true } ∷ record { name = codes ""; exact = false } ∷ []) ≡ true ∷ true ∷ false ∷ false ∷ []
unfolding foo foos
patterns = refl
