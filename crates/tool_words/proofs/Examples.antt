-- Worked examples of the words that a command takes.
use Rattle.std.proofs.Common.{◌≡◌, List, [], ◌∷◌, ◌++◌, Option, Some, None, codes, map, refl}
use Rattle.clap.specs.Words.{Text}
use Rattle.tool_words.specs.Tools.{replay_places, explain_places, twin_places, sample_places, within_places, audit_places, suggest_places, show_places, compose_places, session_places, sessions_places, more_recordings, taken, taken_with}
use Rattle.tool_words.proofs.OnLiterals.{words_on_literals}

abbrev replay : List Text → Option (List Text)
replay words = taken (codes "replay") replay_places (codes "replay" ∷ words)

-- each place has one word, in this order
each_place : map replay ([] ∷ (codes "p" ∷ []) ∷ (codes "p" ∷ codes "r" ∷ []) ∷ (codes "p" ∷ codes "r" ∷ codes "s" ∷ []) ∷ (codes "help" ∷ [] ∷ []) ∷ [])
    ≡ None ∷ None ∷ Some (codes "p" ∷ codes "r" ∷ []) ∷ None ∷ Some (codes "help" ∷ [] ∷ []) ∷ []
unfolding words_on_literals
each_place = refl

-- an option is never taken
options : map replay ((codes "-p" ∷ codes "r" ∷ []) ∷ (codes "--p" ∷ codes "r" ∷ []) ∷ (codes "p" ∷ codes "r" ∷ codes "-h" ∷ []) ∷ (codes "--help" ∷ []) ∷ (codes "--version" ∷ []) ∷ [])
    ≡ None ∷ None ∷ None ∷ None ∷ None ∷ []
unfolding words_on_literals
options = refl

-- a dash alone is a word, and so is all that follows `--`
dashes : map replay ((codes "-" ∷ codes "-" ∷ []) ∷ (codes "--" ∷ codes "-p" ∷ codes "--" ∷ []) ∷ (codes "p" ∷ codes "--" ∷ codes "r" ∷ []) ∷ (codes "p" ∷ codes "r" ∷ codes "--" ∷ []) ∷ (codes "--" ∷ codes "p" ∷ []) ∷ [])
    ≡ Some (codes "-" ∷ codes "-" ∷ []) ∷ Some (codes "-p" ∷ codes "--" ∷ []) ∷ Some (codes "p" ∷ codes "r" ∷ []) ∷ Some (codes "p" ∷ codes "r" ∷ []) ∷ None ∷ []
unfolding words_on_literals
dashes = refl

others : taken (codes "explain") explain_places (codes "explain" ∷ codes "p" ∷ codes "r" ∷ codes "1" ∷ []) ≡ Some (codes "p" ∷ codes "r" ∷ codes "1" ∷ [])
unfolding words_on_literals
others = refl

recordings : map (λ words. taken (codes "twin") twin_places (codes "twin" ∷ words)) ((codes "p" ∷ codes "a" ∷ codes "b" ∷ []) ∷ (codes "p" ∷ codes "a" ∷ []) ∷ (codes "p" ∷ codes "a" ∷ codes "b" ∷ codes "c" ∷ []) ∷ [])
    ≡ Some (codes "p" ∷ codes "a" ∷ codes "b" ∷ []) ∷ None ∷ None ∷ []
unfolding words_on_literals
recordings = refl

draws : taken (codes "sample") sample_places (codes "sample" ∷ codes "3" ∷ codes "1" ∷ []) ≡ Some (codes "3" ∷ codes "1" ∷ [])
unfolding words_on_literals
draws = refl

policies : taken (codes "within") within_places (codes "within" ∷ codes "a" ∷ codes "b" ∷ []) ≡ Some (codes "a" ∷ codes "b" ∷ [])
unfolding words_on_literals
policies = refl

files : map (taken (codes "show") show_places) ((codes "show" ∷ codes "m" ∷ []) ∷ (codes "show" ∷ []) ∷ (codes "show" ∷ codes "m" ∷ codes "n" ∷ []) ∷ [])
    ++ map (taken (codes "compose") compose_places) ((codes "compose" ∷ codes "-t" ∷ []) ∷ (codes "compose" ∷ codes "--" ∷ codes "-t" ∷ []) ∷ [])
    ≡ Some (codes "m" ∷ []) ∷ None ∷ None ∷ None ∷ Some (codes "-t" ∷ []) ∷ []
unfolding words_on_literals
files = refl

one_recording : taken (codes "session") session_places (codes "session" ∷ codes "r" ∷ codes "2" ∷ []) ∷ taken (codes "session") session_places (codes "session" ∷ codes "r" ∷ [])
    ∷ taken (codes "sessions") sessions_places (codes "sessions" ∷ codes "r" ∷ []) ∷ taken (codes "sessions") sessions_places (codes "sessions" ∷ codes "r" ∷ codes "2" ∷ []) ∷ []
    ≡ Some (codes "r" ∷ codes "2" ∷ []) ∷ None ∷ Some (codes "r" ∷ []) ∷ None ∷ []
unfolding words_on_literals
one_recording = refl

-- one recording or more, up to 16
abbrev audit : List Text → Option (List Text)
audit words = taken_with (codes "audit") audit_places more_recordings (codes "audit" ∷ codes "p" ∷ words)

abbrev same : List Text → List Text
same words = codes "r" ∷ codes "r" ∷ codes "r" ∷ codes "r" ∷ codes "r" ∷ codes "r" ∷ codes "r" ∷ codes "r" ∷ words

many_recordings : map audit ([] ∷ (codes "a" ∷ []) ∷ (codes "a" ∷ codes "b" ∷ codes "a" ∷ []) ∷ same (same []) ∷ same (same (codes "r" ∷ [])) ∷ (codes "-h" ∷ []) ∷ (codes "--" ∷ codes "-h" ∷ []) ∷ [])
    ≡ None ∷ Some (codes "p" ∷ codes "a" ∷ []) ∷ Some (codes "p" ∷ codes "a" ∷ codes "b" ∷ codes "a" ∷ []) ∷ Some (codes "p" ∷ same (same [])) ∷ None ∷ None ∷ Some (codes "p" ∷ codes "-h" ∷ []) ∷ []
unfolding words_on_literals
many_recordings = refl

abbrev suggest : List Text → Option (List Text)
suggest words = taken_with (codes "suggest") suggest_places more_recordings (codes "suggest" ∷ words)

recordings_alone : map suggest ([] ∷ (codes "a" ∷ []) ∷ (codes "a" ∷ codes "b" ∷ []) ∷ same (same []) ∷ same (same (codes "r" ∷ [])) ∷ [])
    ≡ None ∷ Some (codes "a" ∷ []) ∷ Some (codes "a" ∷ codes "b" ∷ []) ∷ Some (same (same [])) ∷ None ∷ []
unfolding words_on_literals
recordings_alone = refl
