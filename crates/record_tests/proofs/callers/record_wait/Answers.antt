use Rattle.std.proofs.Common.{◌≡◌, ◌++◌, ◌∙◌, rules, ap, Some, None, string_bytes}
use Rattle.record_tests.proofs.callers.record_wait.Goals as goal

pub wait_tracked-recorder-requires-clause-recording : goal.wait_tracked-recorder-requires-clause-recording
wait_tracked-recorder-requires-clause-recording g c =
    rw (c.new-recorder.ensures.net, c.new-recorder.ensures.files, c.new-recorder.ensures.file, c.in_ok-file.ensures.path) (c.in_ok-file.ensures.starts _)

pub returns : goal.returns
returns g c before since bytes b n told none =
    let start_is : (g.N.Net.view c.new-recorder.result.net.now).journal ≡ Some before = ap (λ m. (g.N.Net.view m).journal) c.new-recorder.ensures.net ∙ b in
    let journal_is : (g.N.Net.view c.wait_tracked-recorder.result.net.now).journal ≡ Some (since ++ before) = search rules in
    let told_is : (g.F.Files.view c.wait_tracked-recorder.result.files.now).told (string_bytes c.new-recorder.result.file.now.path) ≡ Some bytes = search rules in
    let none_is : c.wait_tracked-recorder.result.file.now.failed ≡ None = search rules in
    c.wait_tracked-recorder.ensures.recording.whole before since bytes start_is journal_is told_is none_is
