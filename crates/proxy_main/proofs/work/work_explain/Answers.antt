use Rattle.std.proofs.Common.{[], ◌∷◌, ◌≡◌, ◌⊎◌, inl, inr, Some, Result, Err, IsErrOf}
use Rattle.line_words.proofs.ReadLaws.{read_all}
use Rattle.policy_args.specs.Seen.{options_seen}
use Rattle.recording.specs.Seen.{recording_seen}
use Rattle.replay_output.specs.Explained.{explained}
use Rattle.replay.specs.declared.ExplainFault.{ExplainFault}
use Rattle.replay.specs.declared.ExplainFault.TheVariants.{NoSuchMessage, Out, Memory}
use Rattle.proxy_main.specs.Words.{Explain}
use Rattle.proxy_main.specs.Answers.{explained_at}
use Rattle.proxy_main.specs.FilesRead.{needed}
use Rattle.proxy_main.proofs.Endings.{explaining_front, front_as}
use Rattle.proxy_main.proofs.work.work_explain.Goals as goal

-- one fault is no other
no_other : (fault : ExplainFault) (r : Result (Unit {0}) ExplainFault) → r ≡ Err fault → fault ≡ Out → IsErrOf r NoSuchMessage ⊎ IsErrOf r Memory → ⊥
no_other fault r is out (inl other) = cc
no_other fault r is out (inr other) = cc

pub returns-in-Err-Out-clause-keeps : goal.returns-in-Err-Out-clause-keeps
returns-in-Err-Out-clause-keeps g c =
    front_as _ (explained_at c.args.number (options_seen c.in-Ok.loaded.options) (recording_seen c.in-Ok.loaded.recording)) _ _ (c.in-Ok.ensures.loaded (explained_at c.args.number))
    (explaining_front (explained (options_seen c.in-Ok.loaded.options) (recording_seen c.in-Ok.loaded.recording) c.args.number) _ _ c.explain.ensures.part
    (λ none. no_other c.in-Err-Out.field-0 c.explain.result c.in-Err-Out.is c.in-Err-Out.field-0-is (c.explain.ensures.none none)))

pub returns-in-Ok-clause-until : goal.returns-in-Ok-clause-until
returns-in-Ok-clause-until g c = read_all (c.args.policy.now ∷ c.args.recording.now ∷ []) (g.F.Files.view c.args.files.now).reads (g.F.Files.view c.load.new.files).reads c.in-Ok.ensures.read

pub returns-clause-until : goal.returns-clause-until
returns-clause-until g c = c.in-Err.ensures.until []

pub returns-in-Ok-clause-needed : goal.returns-in-Ok-clause-needed
returns-in-Ok-clause-needed g c =
    read_all (needed (g.F.Files.view c.args.files.now).told (Some (Explain c.args.policy.now c.args.recording.now c.args.number))) (g.F.Files.view c.args.files.now).reads (g.F.Files.view c.load.new.files).reads c.in-Ok.ensures.needed

pub returns-clause-needed : goal.returns-clause-needed
returns-clause-needed g c = c.in-Err.ensures.needed_until [] (explained_at c.args.number)

pub returns-in-Err-NoSuchMessage-clause-needed : goal.returns-in-Err-NoSuchMessage-clause-needed
returns-in-Err-NoSuchMessage-clause-needed g c = (
  read_all (needed (g.F.Files.view c.args.files.now).told (Some (Explain c.args.policy.now c.args.recording.now c.args.number))) (g.F.Files.view c.args.files.now).reads (g.F.Files.view c.load.new.files).reads c.in-Ok.ensures.needed,
  λ settled. c.in-Ok.ensures.needed,
)
