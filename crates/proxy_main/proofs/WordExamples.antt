-- Worked examples of the words of the command line.
use Rattle.std.proofs.Common.{◌≡◌, [], ◌∷◌, Some, None, codes, map, refl}
use Rattle.tool_words.proofs.OnLiterals.{words_on_literals}
use Rattle.proxy_main.specs.Words.{Replay, Explain, Twin, Sample, Help, Version, reading}

paths : map reading ((codes "replay" ∷ codes "p" ∷ codes "r" ∷ []) ∷ (codes "replay" ∷ codes "-p" ∷ codes "r" ∷ []) ∷ (codes "replay" ∷ codes "--" ∷ codes "-p" ∷ codes "-" ∷ []) ∷ (codes "play" ∷ codes "p" ∷ codes "r" ∷ []) ∷ [])
    ≡ Some (Replay (codes "p") (codes "r")) ∷ None ∷ Some (Replay (codes "-p") (codes "-")) ∷ None ∷ []
unfolding words_on_literals
paths = refl

numbers : map (λ number. reading (codes "explain" ∷ codes "p" ∷ codes "r" ∷ number ∷ []))
    (codes "0" ∷ codes "12" ∷ codes "18446744073709551615" ∷ codes "18446744073709551616" ∷ codes "01" ∷ codes "+1" ∷ codes "-1" ∷ codes "x" ∷ [] ∷ [])
    ≡ Some (Explain (codes "p") (codes "r") 0) ∷ Some (Explain (codes "p") (codes "r") 12) ∷ Some (Explain (codes "p") (codes "r") 18446744073709551615)
    ∷ None ∷ None ∷ None ∷ None ∷ None ∷ None ∷ []
unfolding words_on_literals
numbers = refl

recordings : map reading ((codes "twin" ∷ codes "p" ∷ codes "a" ∷ codes "b" ∷ []) ∷ (codes "twin" ∷ codes "p" ∷ codes "a" ∷ []) ∷ (codes "twin" ∷ codes "p" ∷ codes "a" ∷ codes "-b" ∷ []) ∷ (codes "twin" ∷ []) ∷ [])
    ≡ Some (Twin (codes "p") (codes "a") (codes "b")) ∷ None ∷ None ∷ None ∷ []
unfolding words_on_literals
recordings = refl

draws : map (λ number. reading (codes "sample" ∷ number ∷ codes "7" ∷ [])) (codes "0" ∷ codes "100000" ∷ codes "100001" ∷ codes "00" ∷ [])
    ≡ Some (Sample 0 7) ∷ Some (Sample 100000 7) ∷ None ∷ None ∷ []
unfolding words_on_literals
draws = refl

alone : map reading ((codes "--help" ∷ []) ∷ (codes "--version" ∷ []) ∷ (codes "--help" ∷ codes "more" ∷ []) ∷ (codes "replay" ∷ codes "--help" ∷ []) ∷ (codes "-h" ∷ []) ∷ [])
    ≡ Some Help ∷ Some Version ∷ None ∷ None ∷ None ∷ []
unfolding words_on_literals
alone = refl
