use Rattle.std.proofs.Common.{◌≡◌, ◌∙◌, List, subst, sym}
use Rattle.std.specs.List.{AllZip}
use Rattle.std.proofs.lemmas.Result.{IfOk-weaker}
use Rattle.policy_args.specs.Words.{PolicyOptions}
use Rattle.policy_args.specs.declared.requests.Asked.{Asked}
use Rattle.recording.specs.Seen.{recording_seen}
use Rattle.replay.specs.PlayedNotes.{notes_under}
use Rattle.suggestion.specs.Requests.{were_gathered}
use Rattle.suggestion.proofs.Joining.{AreGathered, all-grammar, joined-all}
use Rattle.suggestion.proofs.requests.requests_of.Goals as goal

pub returns-clause-once : goal.returns-clause-once
returns-clause-once g c =
    let recordings = c.args.recordings.now in
    let under_filter = subst (λ (o : PolicyOptions). AllZip (λ recording requests. were_gathered (notes_under o (recording_seen recording)) requests) recordings c.in_ok-all.all.items) c.filter_options-options.ensures c.in_ok-all.ensures in
    let zipped = subst (λ (all : List (List Asked)). AreGathered recordings all) (sym c.deref.ensures.value) under_filter in
    IfOk-weaker c.joined_of.result _ _ (λ requests is. is ∙ joined-all recordings c.deref.result.now zipped) c.joined_of.ensures

pub returns-clause-grammar : goal.returns-clause-grammar
returns-clause-grammar g c =
    let recordings = c.args.recordings.now in
    let under_filter = subst (λ (o : PolicyOptions). AllZip (λ recording requests. were_gathered (notes_under o (recording_seen recording)) requests) recordings c.in_ok-all.all.items) c.filter_options-options.ensures c.in_ok-all.ensures in
    let zipped = subst (λ (all : List (List Asked)). AreGathered recordings all) (sym c.deref.ensures.value) under_filter in
    IfOk-weaker c.joined_of.result _ _ (λ requests is. all-grammar recordings c.deref.result.now zipped) c.joined_of.ensures
