use Rattle.std.proofs.Common.{◌≡◌, append_assoc, ◌∙◌, string_bytes}
use Rattle.std.proofs.lemmas.Result.{IfOk-weaker}
use Rattle.process_streams.specs.Faults.{word_line}
use Rattle.process_streams.proofs.faults.word_text.Goals as goal

pub returns : goal.returns
returns c = IfOk-weaker c.format.result _ (λ text. string_bytes text ≡ word_line c.args.index) (λ s e. e ∙ simp append_assoc) c.format.ensures.ok
