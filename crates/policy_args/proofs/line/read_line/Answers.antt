use Rattle.std.proofs.Common.{Result, map, string_bytes, ap, subst, sym, ◌∙◌}
use Rattle.std.proofs.lemmas.List.{length-map}
use Rattle.policy_args.specs.declared.BadWord.{BadWord}
use Rattle.policy_args.specs.Gives.{Gives}
use Rattle.policy_args.specs.ProxyLine.{LineValue, finished}
use Rattle.policy_args.specs.Reading.{line_seen}
use Rattle.policy_args.proofs.ReadingLine.{line-fails, line-reads}
use Rattle.policy_args.proofs.line.read_line.Goals as goal

pub returns-in-Ok : goal.returns-in-Ok
returns-in-Ok c =
    subst (λ (read : Result LineValue BadWord). Gives line_seen c.finish.result read)
    (sym (line-reads (map (λ w. string_bytes w) c.args.words.now) c.in-Ok.reading c.in-Ok.ensures ∙ ap (λ n. finished n c.in-Ok.reading) (length-map c.args.words.now (λ w. string_bytes w))))
    c.finish.ensures

pub returns-in-Err : goal.returns-in-Err
returns-in-Err c = line-fails (map (λ w. string_bytes w) c.args.words.now) c.in-Err.refusal c.in-Err.ensures
