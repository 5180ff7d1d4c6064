use Rattle.std.proofs.lemmas.Result.{err_from_is_err_and}
use Rattle.call_rules.specs.Properties.{property_rule_of}
use Rattle.policy_args.specs.declared.entry.Grant.TheVariants.{Property}
use Rattle.policy_args.proofs.EntryReading.{rule_entry-fails, rule_entry-lacks, rule_entry-reads}
use Rattle.policy_args.proofs.entry.property.Goals as goal

pub returns-in-Err : goal.returns-in-Err
returns-in-Err c = rule_entry-fails property_rule_of Property c.args.text.now c.in-Err.refusal c.in-Err.ensures

pub returns-in_err-read : goal.returns-in_err-read
returns-in_err-read c =
    let p = err_from_is_err_and c.from_residual.result c.from_residual.ensures.1 in
    rw (p.1, p.2) (rule_entry-lacks property_rule_of Property c.args.text.now c.in-Ok.parts.0 c.in-Ok.parts.1.now _ c.in-Ok.ensures c.in_err-read.ensures.form)

pub returns : goal.returns
returns c = rule_entry-reads property_rule_of Property c.args.text.now c.in-Ok.parts.0 c.in-Ok.parts.1.now c.in_ok-read.field-0 c.in-Ok.ensures c.in_ok-read.ensures.ok
