use Rattle.std.proofs.Common.{◌++◌, Some, ap, sym, ◌∙◌, subst, append_assoc, arith}
use Rattle.std.specs.List.{AllByRecursion}
use Rattle.link_traits.proofs.Parts.{part_middle, part_so_far, then_all}
use Rattle.replay.specs.SessionsPlayed.{IsShort}
use Rattle.replay.specs.Waiting.{named_output}
use Rattle.replay.proofs.SessionOutputs.{all_outputs}
use Rattle.replay.proofs.session_writing.write_sessions.Goals as goal

pub returns-in_err-write_session-clause-part : goal.returns-in_err-write_session-clause-part
returns-in_err-write_session-clause-part g c =
    let loop = c.loop-number.invariant in
    part_middle _ _ _ (all_outputs c.args.running.now.entries) loop.written (named_output (Some c.in-Some.number) c.in-Some.session) (all_outputs c.pop_first.new.self.entries) loop.got c.write_session.ensures.part
    (loop.split ∙ ap (λ es. loop.written ++ all_outputs es) c.in-Some.ensures.removal)

pub loop-number-preserved : goal.loop-number-preserved
loop-number-preserved g c =
    let loop = c.loop-number.invariant in
    let next = named_output (Some c.in-Some.number) c.in-Some.session in
    record {
      written = loop.written ++ next;
      split = loop.split ∙ ap (λ es. loop.written ++ all_outputs es) c.in-Some.ensures.removal ∙ sym (append_assoc loop.written next (all_outputs c.pop_first.new.self.entries));
      got = then_all _ _ _ loop.written next loop.got c.in_ok-write_session.ensures.ok;
      few = (subst (λ es. AllByRecursion IsShort es) c.in-Some.ensures.removal loop.few).1;
      count = omega arith;
    }

pub returns-clause-part : goal.returns-clause-part
returns-clause-part g c =
    let loop = c.loop-number.invariant in
    part_so_far _ _ (all_outputs c.args.running.now.entries) loop.written (all_outputs c.loop-number.running.entries) loop.got loop.split
