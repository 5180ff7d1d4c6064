use Rattle.wire_tests.proofs.BodyExamples.{no_body, little_s, little_ss, little_su, little_us}
use Rattle.wire_tests.proofs.values.told_in_little.Goals as goal

pub told_first-requires : goal.told_first-requires
told_first-requires c = no_body

pub told_first-requires-2 : goal.told_first-requires-2
told_first-requires-2 c = little_s

pub told_first-requires-3 : goal.told_first-requires-3
told_first-requires-3 c = little_ss

pub told_first-requires-4 : goal.told_first-requires-4
told_first-requires-4 c = little_su

pub told_first-requires-5 : goal.told_first-requires-5
told_first-requires-5 c = little_us
