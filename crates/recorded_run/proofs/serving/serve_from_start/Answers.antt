use Rattle.std.proofs.Common.{rules, ap, ap₂, sym, ◌∙◌, subst, ◌≤◌, string_bytes}
use Rattle.record_net.specs.Tapes.{tape_of}
use Rattle.recorded_run.proofs.Whole.{began_before, recording_at, served_at}
use Rattle.recorded_run.proofs.serving.serve_from_start.Goals as goal

pub serve_over-recorder-requires-clause-recording : goal.serve_over-recorder-requires-clause-recording
serve_over-recorder-requires-clause-recording g c =
    rw (c.new-recorder.ensures.net, c.new-recorder.ensures.files, c.new-recorder.ensures.file, c.in_ok-file.ensures.path) (c.in_ok-file.ensures.starts _)

pub returns-clause-served : goal.returns-clause-served
returns-clause-served g c =
    served_at _ _ _ _ _ _ _ _ _ (ap g.N.Net.view c.new-recorder.ensures.net) (ap g.N.Net.view (search rules)) c.serve_over-recorder.ensures.served

pub returns-clause-recording : goal.returns-clause-recording
returns-clause-recording g c =
    began_before _ _ _
    (g.F.Files.view c.new-recorder.result.files.now) _ _
    (λ p n. ap (λ files. (g.F.Files.view files).told p) c.new-recorder.ensures.files ∙ c.create.ensures.others p n)
    (subst (λ files. (g.F.Files.view c.args.files.now).faults ≤ (g.F.Files.view files).faults) (sym c.new-recorder.ensures.files) c.create.ensures.count)
    (ap (λ files. (g.F.Files.view files).reads) c.new-recorder.ensures.files ∙ c.create.ensures.unread)
    (recording_at _ _ _ _ _ _ _ _ _
    (ap (λ net. (g.N.Net.view net).journal) c.new-recorder.ensures.net)
    (ap (λ file. string_bytes file.path) c.new-recorder.ensures.file ∙ c.in_ok-file.ensures.path)
    (ap (λ net. (g.N.Net.view net).journal) (search rules))
    (ap₂ (λ files failed. tape_of (g.F.Files.view files) failed) (search rules) (sym c.failed.ensures))
    c.serve_over-recorder.ensures.recording)

pub returns-clause-others : goal.returns-clause-others
returns-clause-others g c = (returns-clause-recording g c).others

pub returns-clause-unread : goal.returns-clause-unread
returns-clause-unread g c = (returns-clause-recording g c).unread

pub returns-clause-faults : goal.returns-clause-faults
returns-clause-faults g c = (returns-clause-recording g c).count
