use Rattle.std.proofs.Common.{inr, arith, sym, ◌∙◌}
use Rattle.dbus_names.proofs.OnePass.{others_of, run_end, others_shorter, begins_wrong, begins_right, nothing_behind, nothing_left, no_separator_behind, separator_behind, element_count-from}
use Rattle.dbus_names.proofs.Runs.{kind_is_apart}
use Rattle.dbus_names.proofs.count_elements.Goals as goal

pub loop-left-init : goal.loop-left-init
loop-left-init c = record {
  counted = element_count-from c.args.first c.args.rest c.args.separator c.args.text.now;
  within = omega arith;
}

pub returns-then-not-is_among : goal.returns-then-not-is_among
returns-then-not-is_among c =
    sym (begins_wrong c.args.first c.args.rest c.args.separator c.loop-left.left.now c.loop-left.count c.in-len1-up.len_at_least (inr (sym c.is_among.ensures ∙ c.if-not-is_among.true)))
    ∙ c.loop-left.invariant.counted

pub returns-in-empty : goal.returns-in-empty
returns-in-empty c =
    sym (begins_right c.args.first c.args.rest c.args.separator c.loop-left.left.now c.after_run.result.now c.loop-left.count c.in-len1-up.len_at_least (kind_is_apart c.args.first c.args.separator _ c.requires.kinds.0 c.requires.separator (sym c.is_among.ensures ∙ c.if-not-is_among.false))
    (sym c.is_among.ensures ∙ c.if-not-is_among.false) c.after_run.ensures ∙ nothing_behind c.args.first c.args.rest c.args.separator c.after_run.result.now c.loop-left.count c.in-empty.len_below)
    ∙ c.loop-left.invariant.counted

pub returns-then-byte-separator : goal.returns-then-byte-separator
returns-then-byte-separator c =
    sym (begins_right c.args.first c.args.rest c.args.separator c.loop-left.left.now c.after_run.result.now c.loop-left.count c.in-len1-up.len_at_least (kind_is_apart c.args.first c.args.separator _ c.requires.kinds.0 c.requires.separator (sym c.is_among.ensures ∙ c.if-not-is_among.false))
    (sym c.is_among.ensures ∙ c.if-not-is_among.false) c.after_run.ensures
    ∙ no_separator_behind c.args.first c.args.rest c.args.separator c.after_run.result.now c.loop-left.count c.in-len1-up-after_run.len_at_least c.if-byte-separator.true)
    ∙ c.loop-left.invariant.counted

pub loop-left-smaller : goal.loop-left-smaller
loop-left-smaller c = omega (arith, others_shorter c.loop-left.left.now c.after_run.result.now (run_end c.args.first c.args.rest c.args.separator (others_of c.args.first c.args.rest c.args.separator c.loop-left.left.now)) c.in-len1-up.len_at_least c.in-len1-up-after_run.len_at_least c.after_run.ensures)

pub loop-left-preserved : goal.loop-left-preserved
loop-left-preserved c = record {
  counted = sym (begins_right c.args.first c.args.rest c.args.separator c.loop-left.left.now c.after_run.result.now c.loop-left.count c.in-len1-up.len_at_least (kind_is_apart c.args.first c.args.separator _ c.requires.kinds.0 c.requires.separator (sym c.is_among.ensures ∙ c.if-not-is_among.false))
      (sym c.is_among.ensures ∙ c.if-not-is_among.false) c.after_run.ensures
      ∙ separator_behind c.args.first c.args.rest c.args.separator c.after_run.result.now c.loop-left.count c.in-len1-up-after_run.len_at_least c.if-byte-separator.false)
      ∙ c.loop-left.invariant.counted;
  within = omega (arith, c.loop-left.invariant.within, others_shorter c.loop-left.left.now c.after_run.result.now (run_end c.args.first c.args.rest c.args.separator (others_of c.args.first c.args.rest c.args.separator c.loop-left.left.now)) c.in-len1-up.len_at_least c.in-len1-up-after_run.len_at_least c.after_run.ensures);
}

pub returns : goal.returns
returns c = nothing_left c.args.first c.args.rest c.args.separator c.loop-left.left.now c.loop-left.count c.in_default.len_below ∙ c.loop-left.invariant.counted
