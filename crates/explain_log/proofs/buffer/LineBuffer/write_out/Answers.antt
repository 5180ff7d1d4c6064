use Rattle.std.proofs.Common.{◌≡◌, ◌∙◌, subst, List, ℕ}
use Rattle.std.proofs.lemmas.Result.{err_from_is_err_and}
use Rattle.link_traits.specs.Told.{Part}
use Rattle.explain_log.proofs.Buffers.{part_goes}
use Rattle.explain_log.proofs.buffer.LineBuffer.write_out.Goals as goal

pub returns-in_err-write_all-clause-err : goal.returns-in_err-write_all-clause-err
returns-in_err-write_all-clause-err g c =
    let is : c.deref.result.now ≡ c.args.self.now = c.deref.ensures.value ∙ c.self.view_is in
    let p = err_from_is_err_and c.from_residual.result c.from_residual.ensures.1 in
    rw p.1 (part_goes c.args.self.now _ _ (rw is at c.write_all.ensures.part))
