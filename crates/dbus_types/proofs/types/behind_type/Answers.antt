use Rattle.std.proofs.Common.{◌+◌, ◌-◌, length, drop, sym, ◌∙◌, arith}
use Rattle.std.proofs.lemmas.List.{take_all, length-drop}
use Rattle.dbus_types.proofs.BehindLaws.{type_in_front, behind_ends, behind_goes_on, behind_in_array, behind_all, grows}
use Rattle.dbus_types.proofs.types.behind_type.Goals.{else-not-is_array-via-then-not-is_array+else-brackets-eq0, else-not-is_array-via-else-not-is_array}
use Rattle.dbus_types.proofs.types.behind_type.Goals as goal

pub returns-then-brackets-eq0-clause-rest : goal.returns-then-brackets-eq0-clause-rest
returns-then-brackets-eq0-clause-rest c t rest e =
    take_all (length c.args.types.now - (c.loop-index.index + 1)) (drop (c.loop-index.index + 1) c.args.types.now) (omega (arith, length-drop (c.loop-index.index + 1) c.args.types.now))
    ∙ sym (behind_ends c.args.types.now c.loop-index.index c.loop-index.brackets c.brackets_after-brackets.result c.code_of-code.result
    c.loop-index-test.true c.code_of-code.ensures (sym c.is_array.ensures ∙ c.if-not-is_array.true) c.brackets_after-brackets.ensures c.if-brackets-eq0.true)
    ∙ c.loop-index.invariant.same
    ∙ type_in_front c.args.types.now t rest e

pub loop-index-preserved : goal.loop-index-preserved
loop-index-preserved c = record {
  same =
      sym (elim c.else-not-is_array.branch [
        | else-not-is_array-via-then-not-is_array+else-brackets-eq0 w ↦
            behind_goes_on c.args.types.now c.loop-index.index c.loop-index.brackets c.brackets_after-brackets.result c.code_of-code.result
            c.loop-index-test.true c.code_of-code.ensures (sym c.is_array.ensures ∙ w.if-not-is_array.true) c.brackets_after-brackets.ensures w.if-brackets-eq0.false
        | else-not-is_array-via-else-not-is_array w ↦
            behind_in_array c.args.types.now c.loop-index.index c.loop-index.brackets c.brackets_after-brackets.result c.code_of-code.result
            c.loop-index-test.true c.code_of-code.ensures (sym c.is_array.ensures ∙ w.if-not-is_array.false) c.brackets_after-brackets.ensures
      ])
      ∙ c.loop-index.invariant.same;
  within = omega (arith, grows c.code_of-code.result c.loop-index.brackets);
}

pub returns-clause-rest : goal.returns-clause-rest
returns-clause-rest c t rest e =
    sym (behind_all c.args.types.now c.loop-index.index c.loop-index.brackets (omega arith))
    ∙ c.loop-index.invariant.same
    ∙ type_in_front c.args.types.now t rest e
