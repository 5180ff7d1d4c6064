use Rattle.std.proofs.Common.{◌∙◌, ap, sym, subst, IfSome, option_map}
use Rattle.link_traits.specs.Told.{Part}
use Rattle.policy_args.specs.Seen.{options_seen}
use Rattle.recording.specs.Seen.{recording_seen}
use Rattle.replay_output.specs.Explained.{explanation}
use Rattle.replay.proofs.Explanations.{explained_of, never_none, written}
use Rattle.replay.proofs.explain.Goals as goal

pub returns-in-Some-clause-ok : goal.returns-in-Some-clause-ok
returns-in-Some-clause-ok g c =
    let is = explained_of (options_seen c.args.options.now) (recording_seen c.args.recording.now) c.in_ok-session.session.notes c.args.number c.note_of.result c.in_ok-session.ensures.noted c.note_of.ensures
    ∙ ap (option_map (explanation c.args.options.now.policy)) c.in-Some.is in
    written c.write_explanation.result _ _ _ _ is c.write_explanation.ensures.ok

pub returns-in-Some-clause-part : goal.returns-in-Some-clause-part
returns-in-Some-clause-part g c =
    let is = explained_of (options_seen c.args.options.now) (recording_seen c.args.recording.now) c.in_ok-session.session.notes c.args.number c.note_of.result c.in_ok-session.ensures.noted c.note_of.ensures
    ∙ ap (option_map (explanation c.args.options.now.policy)) c.in-Some.is in
    subst (λ o. IfSome o (λ bytes. Part (g.O.Sink.view c.args.out.now).told (g.O.Sink.view c.write_explanation.new.out).told bytes)) (sym is) c.write_explanation.ensures.part

pub returns-in-Some-clause-none : goal.returns-in-Some-clause-none
returns-in-Some-clause-none g c =
    never_none _ _ _ (explained_of (options_seen c.args.options.now) (recording_seen c.args.recording.now) c.in_ok-session.session.notes c.args.number c.note_of.result c.in_ok-session.ensures.noted c.note_of.ensures
    ∙ ap (option_map (explanation c.args.options.now.policy)) c.in-Some.is)

pub returns-clause-missing : goal.returns-clause-missing
returns-clause-missing g c = λ missing.
    explained_of (options_seen c.args.options.now) (recording_seen c.args.recording.now) c.in_ok-session.session.notes c.args.number c.note_of.result c.in_ok-session.ensures.noted c.note_of.ensures
    ∙ ap (option_map (explanation c.args.options.now.policy)) c.in-None.is
