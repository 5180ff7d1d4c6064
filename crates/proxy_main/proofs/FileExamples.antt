-- Worked examples of the files that a comparison needs.
use Rattle.std.proofs.Common.{◌≡◌, ℕ, List, [], ◌∷◌, ◌++◌, Option, Some, None, bytes_eq, codes, map, refl, if◌then◌else◌}
use Rattle.policy_args.specs.Words.{options_of, words_in}
use Rattle.recording.specs.Recording.{record_len, events_at, head_of, recording_of}
use Rattle.proxy_main.specs.declared.TheConstants.{POLICY_LIMIT}
use Rattle.proxy_main.specs.Words.{Twin}
use Rattle.proxy_main.specs.Answers.{checked_policy, checked_recording}
use Rattle.proxy_main.specs.FilesRead.{needed}

-- a policy file that is good, and a recording that is good and one that is bad; nothing is told of another file
abbrev told : List ℕ → Option (List ℕ)
told path =
    if bytes_eq path (codes "policy") then Some []
    else (if bytes_eq path (codes "good") then Some (codes "DBPR" ++ 1 ∷ 0 ∷ [])
    else (if bytes_eq path (codes "bad") then Some (codes "DBP")
    else None))

comparisons : map (λ command. needed told (Some command))
    (Twin (codes "policy") (codes "bad") (codes "good") ∷ Twin (codes "policy") (codes "good") (codes "bad") ∷ Twin (codes "policy") (codes "untold") (codes "good") ∷ [])
    ≡ (codes "policy" ∷ codes "bad" ∷ []) ∷ (codes "policy" ∷ codes "good" ∷ codes "bad" ∷ []) ∷ (codes "policy" ∷ codes "untold" ∷ codes "good" ∷ []) ∷ []
unfolding checked_policy checked_recording options_of words_in record_len events_at head_of recording_of
comparisons = refl

-- a policy file has 16 MiB at most
longest_policy : POLICY_LIMIT ≡ 16777216
longest_policy = refl
