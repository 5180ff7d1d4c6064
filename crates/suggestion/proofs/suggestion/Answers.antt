use Rattle.std.proofs.Common.{◌≡◌, ◌∙◌, List, ap, map}
use Rattle.policy_args.specs.declared.requests.Asked.{Asked}
use Rattle.policy_args.specs.Policy.{Policy}
use Rattle.policy_suggest.specs.Needs.{once}
use Rattle.policy_suggest.specs.Suggest.{suggested}
use Rattle.recording.specs.Seen.{recording_seen}
use Rattle.suggestion.specs.Suggestion.{all_asked, file_of, policy_for, suggestion_of}
use Rattle.suggestion.proofs.suggestion.Goals as goal

pub returns-clause-text : goal.returns-clause-text
unfolding suggestion_of
returns-clause-text g c =
    let asked = all_asked (map recording_seen c.args.recordings.now) in
    let same : suggested c.as_slice.result.now ≡ suggested asked =
    ap suggested (c.as_slice.ensures.requests ∙ c.in_ok-requests.ensures.once) ∙ c.once_suffices.ensures asked c.in_ok-requests.ensures.grammar in
    c.in_ok-file_of.ensures ∙ ap file_of (c.in_ok-policy.ensures.policy ∙ same)
