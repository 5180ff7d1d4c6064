use Rattle.std.proofs.Common.{refl}
use Rattle.policy_args.proofs.EntryReading.{next_front}
use Rattle.policy_args.proofs.entry.read_entry.Goals as goal

pub returns : goal.returns
returns c =
    next_front _ _ _ _ c.in_default.ensures (next_front _ _ _ _ c.in_default-behind.ensures (next_front _ _ _ _ c.in_default-behind-2.ensures
    (next_front _ _ _ _ c.in_default-behind-3.ensures (next_front _ _ _ _ c.in_default-behind-4.ensures (next_front _ _ _ _ c.in_default-behind-5.ensures refl)))))
