use Rattle.wire_tests.proofs.BodyExamples.{list_body}
use Rattle.wire_tests.proofs.values.told_list.Goals as goal

pub text_list-texts-requires : goal.text_list-texts-requires
text_list-texts-requires c = list_body
