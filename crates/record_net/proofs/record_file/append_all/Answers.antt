use Rattle.std.proofs.Common.{ℕ, List, rules, ap, ◌∙◌, take, drop, arith}
use Rattle.std.proofs.lemmas.List.{take_all}
use Rattle.link_traits.specs.Told.{added}
use Rattle.link_traits.proofs.Parts.{take-then, added-twice, range-rest}
use Rattle.record_net.proofs.record_file.append_all.Goals as goal

pub loop-done-preserved : goal.loop-done-preserved
loop-done-preserved g c =
    let bytes = c.args.bytes.now in
    let done = c.loop-done.done in
    let before = (g.F.Files.view c.args.files.now).told c.args.path.now in
    record {
      within = search rules;
      told = c.in-Ok.ensures.added
          ∙ ap (λ t. added (take c.in-Ok.n t) ((g.F.Files.view c.loop-done.files).told c.args.path.now)) (range-rest done bytes)
          ∙ ap (added (take c.in-Ok.n (drop done bytes))) c.loop-done.invariant.told
          ∙ added-twice (take done bytes) (take c.in-Ok.n (drop done bytes)) before
          ∙ ap (λ t. added t before) (take-then done c.in-Ok.n bytes c.loop-done.invariant.within);
      others = λ p other. c.in-Ok.ensures.others p other ∙ c.loop-done.invariant.others p other;
      count = search rules;
      unread = c.in-Ok.ensures.unread ∙ c.loop-done.invariant.unread;
    }

pub returns-in-Err : goal.returns-in-Err
returns-in-Err g c = record {
  whole = tt;
  part = record { count = c.loop-done.done; lacks = c.loop-done-test.true; got = c.in-Err.ensures.err c.args.path.now ∙ c.loop-done.invariant.told };
  others = λ p other. c.in-Err.ensures.err p ∙ c.loop-done.invariant.others p other;
  cause = λ failed. let rose = c.in-Err.ensures.cause (cc) in let le = c.loop-done.invariant.count in λ below. omega (arith, rose below, le);
  short = λ long. c.in-Err.ensures.short (cc);
  count = search rules;
  unread = c.in-Err.ensures.unread ∙ c.loop-done.invariant.unread;
}

pub returns : goal.returns
returns g c = record {
  whole = c.loop-done.invariant.told ∙ ap (λ (l : List ℕ). added l ((g.F.Files.view c.args.files.now).told c.args.path.now)) (take_all c.loop-done.done c.args.bytes.now c.loop-done-test.false);
  part = tt;
  others = c.loop-done.invariant.others;
  cause = λ failed. absurd (cc);
  short = λ long. absurd (cc);
  count = c.loop-done.invariant.count;
  unread = c.loop-done.invariant.unread;
}
