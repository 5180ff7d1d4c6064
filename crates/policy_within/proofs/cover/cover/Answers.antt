use Rattle.std.proofs.Common.{◌≡◌, ◌∙◌, ◌≤◌, ap, sym, refl, arith, length, slice_get, Some, None, Ok}
use Rattle.std.proofs.lemmas.Option.{slice_get_read}
use Rattle.policy_within.specs.Points.{points}
use Rattle.policy_within.specs.Within.{lowest}
use Rattle.policy_within.proofs.Covers.{all-taken, no-requests, one-more, one-refused, one-request}
use Rattle.policy_within.proofs.cover.cover.Goals as goal

pub loop-index-init : goal.loop-index-init
loop-index-init c = record {
  same = refl;
  taken = record {
    numbers_are = c.new-numbers.ensures.items ∙ no-requests c.args.policy.now.entries;
    permitted = refl;
  };
}

pub returns-in-None : goal.returns-in-None
returns-in-None c =
    let requests = c.loop-index.points.items in
    let are : requests ≡ points c.args.fresh.now c.args.entry.now = c.loop-index.invariant.same ∙ c.in_ok-points.ensures.points in
    let count : length requests ≡ length c.in_ok-points.points.items = ap length c.loop-index.invariant.same in
    let here : slice_get requests c.loop-index.index ≡ Some c.index.result.now = slice_get_read requests (length requests) c.loop-index.index c.index.result.now refl (omega arith) c.index.ensures in
    let there : slice_get requests c.loop-index.index ≡ Some c.swap_remove.result = slice_get_read requests (length requests) c.loop-index.index c.swap_remove.result refl (omega arith) c.swap_remove.ensures.value in
    let same : c.index.result.now ≡ c.swap_remove.result = cc in
    let request = one-request c.args.fresh.now c.args.entry.now requests c.loop-index.index c.swap_remove.result c.requires c.points.ensures.grammar are there in
    let none : lowest c.args.policy.now.entries c.swap_remove.result ≡ None = ap (lowest c.args.policy.now.entries) (sym same) ∙ sym c.lowest.ensures ∙ c.in-None.is in
    one-refused c.permits_by_entries.ensures c.args.policy.now c.args.fresh.now c.args.entry.now requests c.loop-index.index c.loop-index.numbers.items c.swap_remove.result are there request none c.loop-index.invariant.taken

pub loop-index-preserved : goal.loop-index-preserved
loop-index-preserved c =
    let requests = c.loop-index.points.items in
    let are : requests ≡ points c.args.fresh.now c.args.entry.now = c.loop-index.invariant.same ∙ c.in_ok-points.ensures.points in
    let count : length requests ≡ length c.in_ok-points.points.items = ap length c.loop-index.invariant.same in
    let here : slice_get requests c.loop-index.index ≡ Some c.index.result.now = slice_get_read requests (length requests) c.loop-index.index c.index.result.now refl (omega arith) c.index.ensures in
    let request = one-request c.args.fresh.now c.args.entry.now requests c.loop-index.index c.index.result.now c.requires c.points.ensures.grammar are here in
    record {
      same = c.loop-index.invariant.same;
      taken = one-more c.permits_by_entries.ensures c.args.policy.now requests c.loop-index.index c.loop-index.numbers.items c.add.new.numbers.items c.index.result.now c.in-Some.number here request
          (sym c.lowest.ensures ∙ c.in-Some.is) c.in_ok-add-in-Some.ensures c.loop-index.invariant.taken;
    }

pub returns : goal.returns
returns c =
    let requests = c.loop-index.points.items in
    let are : requests ≡ points c.args.fresh.now c.args.entry.now = c.loop-index.invariant.same ∙ c.in_ok-points.ensures.points in
    let count : length requests ≡ length c.in_ok-points.points.items = ap length c.loop-index.invariant.same in
    let past : length requests ≤ c.loop-index.index = omega arith in
    ap Ok c.new.ensures ∙ all-taken c.args.policy.now c.args.fresh.now c.args.entry.now requests c.loop-index.index c.loop-index.numbers.items are past c.loop-index.invariant.taken
