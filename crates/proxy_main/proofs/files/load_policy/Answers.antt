use Rattle.std.proofs.Common.{◌≡◌, ◌∙◌, Ok, Err, ap, sym, subst}
use Rattle.policy_args.specs.Gives.{Fails}
use Rattle.policy_args.specs.Seen.{options_seen}
use Rattle.proxy_main.specs.Answers.{options_in}
use Rattle.proxy_main.proofs.Loading.{policy_long, policy_read}
use Rattle.proxy_main.proofs.files.load_policy.Goals as goal

pub returns-in-Ok-policy_options-clause-loads : goal.returns-in-Ok-policy_options-clause-loads
returns-in-Ok-policy_options-clause-loads g c =
    let exact : options_in c.in-Ok.bytes.items ≡ Ok (options_seen c.in-Ok-policy_options.options) = ap options_in (sym c.deref.ensures.value) ∙ c.in-Ok-policy_options.ensures in
    policy_read _ c.in-Ok.bytes.items _ c.in-Ok.ensures.given exact

pub returns-in-Err-Bad-clause-loads : goal.returns-in-Err-Bad-clause-loads
returns-in-Err-Bad-clause-loads g c =
    let exact : options_in c.in-Ok.bytes.items ≡ Err c.in-Err-Bad.word = ap options_in (sym c.deref.ensures.value)
    ∙ subst (λ x. Fails x (options_in c.deref.result.now)) c.in-Err-Bad.field-0-is c.in-Err-Bad.ensures in
    (policy_read _ c.in-Ok.bytes.items _ c.in-Ok.ensures.given exact, tt)

pub returns-in-Err-TooLong-clause-loads : goal.returns-in-Err-TooLong-clause-loads
returns-in-Err-TooLong-clause-loads g c = (policy_long _ (c.in-Err-TooLong.ensures.too_long (ap Err c.in-Err-TooLong.field-0-is)), tt)
