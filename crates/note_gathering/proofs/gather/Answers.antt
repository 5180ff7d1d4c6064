use Rattle.std.proofs.Common.{subst}
use Rattle.std.proofs.lemmas.Result.{IfOk-weaker}
use Rattle.policy_args.specs.Seen.{options_seen}
use Rattle.policy_args.specs.declared.options.Options.{Options}
use Rattle.recording.specs.Seen.{recording_seen}
use Rattle.recording.specs.declared.Recording.{Recording}
use Rattle.replay.specs.PlayedNotes.{notes_under}
use Rattle.note_gathering.proofs.Zips.{zip-over}
use Rattle.note_gathering.proofs.gather.Goals as goal

pub returns : goal.returns
returns g c =
    let stands_for = g.G.Gatherer.stands_for in
    IfOk-weaker c.answers.result _ _
    (λ all zipped. zip-over _ _ _ c.args.recordings.now c.in_ok-jobs.jobs.items c.deref.result.now all.items c.deref.ensures.value
    (λ recording job answer same of. subst (λ (r : Recording). stands_for c.args.gather.now (notes_under (options_seen c.args.options.now) (recording_seen r)) answer) same.2
    (subst (λ (o : Options). stands_for c.args.gather.now (notes_under (options_seen o) (recording_seen job.recording.now)) answer) same.1
    (subst (λ x. stands_for x (notes_under (options_seen job.options.now) (recording_seen job.recording.now)) answer) same.0 of)))
    c.in_ok-jobs.ensures zipped)
    c.answers.ensures
