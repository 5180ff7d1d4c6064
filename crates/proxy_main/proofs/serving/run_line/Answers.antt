use Rattle.std.proofs.Common.{◌≡◌, ◌∙◌, ℕ, List, ap, sym, Option, Some, option_map, string_bytes}
use Rattle.proxy_main.specs.LineRuns.{Plain, Records}
use Rattle.proxy_main.proofs.LineEndings.{said_all}
use Rattle.proxy_main.proofs.serving.run_line.Goals as goal

abbrev some : List ℕ → Option (List ℕ)
some p = Some p

pub returns-in-Some-clause-ran : goal.returns-in-Some-clause-ran
returns-in-Some-clause-ran g c = Records (string_bytes c.in-Some.path) (ap (option_map (λ p. string_bytes p)) (sym c.take.ensures.value ∙ c.in-Some.is)) c.record_line.ensures.ran

pub returns-in-Some-clause-others : goal.returns-in-Some-clause-others
returns-in-Some-clause-others g c = λ p apart.
    c.record_line.ensures.others p (λ same. apart (ap (option_map (λ q. string_bytes q)) (sym c.take.ensures.value ∙ c.in-Some.is) ∙ ap some (sym same)))

pub returns-in-None-clause-ran : goal.returns-in-None-clause-ran
returns-in-None-clause-ran g c =
    Plain (ap (option_map (λ p. string_bytes p)) (sym c.take.ensures.value ∙ c.in-None.is)) c.serve-end.result
    (g.E.Sink.view c.serve-end.new.log)
    (record { did = c.serve-end.ensures.did; links = c.serve-end.ensures.links; log = c.serve-end.ensures.log; listen = c.serve-end.ensures.listen; wait = c.serve-end.ensures.wait })
    (said_all (g.E.Sink.view c.args.err.now) (g.E.Sink.view c.serve-end.new.log)
    (g.E.Sink.view c.tell_end.new.err) c.tell_end.result.code c.serve-end.result c.serve-end.ensures.count c.tell_end.ensures.told)
