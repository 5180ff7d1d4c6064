use Rattle.wire_tests.proofs.BodyExamples.{first_body, three_body}
use Rattle.wire_tests.proofs.values.told_texts.Goals as goal

pub texts3-requires : goal.texts3-requires
texts3-requires c = three_body

pub first_text-requires : goal.first_text-requires
first_text-requires c = first_body c.in-Ok.signature.bytes.now c.in-Ok.ensures.bytes
