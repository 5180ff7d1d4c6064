use Rattle.std.proofs.Common.{◌≡◌, OnOk, subst}
use Rattle.sample.proofs.OpeningBytes.{put_in_order}
use Rattle.sample.proofs.writing.put_opening.Goals as goal

pub returns : goal.returns
returns c =
    subst (λ bytes. OnOk c.put_record-4.result (c.put_record-4.new.out.items ≡ bytes))
    (put_in_order c.args.out.now.items _ _ _ _ c.in_ok-extend_from_slice.ensures.ok c.in_ok-put_record.ensures c.in_ok-put_record-2.ensures c.in_ok-put_record-3.ensures)
    c.put_record-4.ensures
