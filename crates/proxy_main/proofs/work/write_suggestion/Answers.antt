use Rattle.std.proofs.Common.{◌≡◌, ◌∙◌, List, ℕ, Err, ap, map, subst}
use Rattle.link_traits.specs.Told.{Part, added}
use Rattle.recording.specs.Seen.{recording_seen}
use Rattle.suggestion.specs.Suggestion.{suggestion_of}
use Rattle.proxy_main.proofs.Suggesting.{few-done, few-front, few-work, many-stops}
use Rattle.proxy_main.proofs.work.write_suggestion.Goals as goal

pub returns-in-Ok-write_all-clause-done : goal.returns-in-Ok-write_all-clause-done
returns-in-Ok-write_all-clause-done g c =
    let recordings = map recording_seen c.args.recordings.now in
    let out = (g.O.Sink.view c.args.out.now).told in
    let bytes : c.as_bytes.result.now ≡ suggestion_of recordings = c.as_bytes.ensures.value ∙ c.in-Ok.ensures.text in
    few-done recordings out (g.O.Sink.view c.write_all.new.sink).told c.in-Ok.ensures.few (c.in-Ok-write_all.ensures.ok ∙ ap (λ (b : List ℕ). added b out) bytes)

pub returns-in-Ok-clause-stops : goal.returns-in-Ok-clause-stops
returns-in-Ok-clause-stops g c = λ told command agrees is. few-work (map recording_seen c.args.recordings.now) told command agrees c.in-Ok.ensures.few

pub returns-in-Ok-clause-keeps : goal.returns-in-Ok-clause-keeps
returns-in-Ok-clause-keeps g c =
    let recordings = map recording_seen c.args.recordings.now in
    let out = (g.O.Sink.view c.args.out.now).told in
    let new_out = (g.O.Sink.view c.write_all.new.sink).told in
    let bytes : c.as_bytes.result.now ≡ suggestion_of recordings = c.as_bytes.ensures.value ∙ c.in-Ok.ensures.text in
    few-front recordings out new_out c.in-Ok.ensures.few (subst (λ (b : List ℕ). Part out new_out b) bytes c.write_all.ensures.part)

pub returns-in-Err-TooMany-clause-stops : goal.returns-in-Err-TooMany-clause-stops
returns-in-Err-TooMany-clause-stops g c = λ told command agrees is. many-stops (map recording_seen c.args.recordings.now) told command agrees (c.in-Err-TooMany.ensures.too_many (ap Err c.in-Err-TooMany.field-0-is)) is
