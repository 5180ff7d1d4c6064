use Rattle.std.proofs.Common.{◌≡◌, append_assoc, ◌∙◌, string_bytes}
use Rattle.std.proofs.lemmas.Result.{IfOk-weaker}
use Rattle.proxy_main.specs.Lines.{plain_word_line}
use Rattle.proxy_main.proofs.lines.plain_word_text.Goals as goal

pub returns : goal.returns
returns c = IfOk-weaker c.format.result _ (λ text. string_bytes text ≡ plain_word_line c.args.index c.args.kind.now) (λ s e. e ∙ simp append_assoc) c.format.ensures.ok
