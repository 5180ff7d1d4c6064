use Rattle.std.proofs.Common.{map, string_bytes, ap, ◌∙◌}
use Rattle.policy_args.specs.Seen.{options_seen}
use Rattle.sample.proofs.SummaryWords.{options_read}
use Rattle.sample.proofs.playing.sample_options.Goals as goal

pub returns-in-Ok : goal.returns-in-Ok
returns-in-Ok c =
    options_read (map (λ w. string_bytes w) c.deref.result.now) (string_bytes c.in_ok-from_str.field-0) (string_bytes c.in_ok-from_str-2.field-0)
    (options_seen c.in-Ok.options) (ap (map (λ w. string_bytes w)) (c.deref.ensures.value ∙ c.in_ok-words.ensures.items)) c.in_ok-from_str.ensures.ok c.in_ok-from_str-2.ensures.ok c.in-Ok.ensures
