use Rattle.wire_tests.proofs.BodyExamples.{big_s, big_sss, big_ssv}
use Rattle.wire_tests.proofs.values.told_in_big.Goals as goal

pub told_first-requires : goal.told_first-requires
told_first-requires c = big_s

pub told_first-requires-2 : goal.told_first-requires-2
told_first-requires-2 c = big_sss

pub told_first-requires-3 : goal.told_first-requires-3
told_first-requires-3 c = big_ssv
