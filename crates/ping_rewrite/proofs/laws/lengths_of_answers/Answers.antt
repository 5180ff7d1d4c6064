use Rattle.dbus_header.specs.declared.Instead.TheVariants.{AccessDenied, NameHasNoOwner, ServiceUnknown, False}
use Rattle.ping_rewrite.proofs.Lengths.{answer_lengths}
use Rattle.ping_rewrite.proofs.laws.lengths_of_answers.Goals as goal

pub returns : goal.returns
returns c = record {
  access_denied = λ order reply serial. answer_lengths order reply serial AccessDenied;
  name_has_no_owner = λ order reply serial. answer_lengths order reply serial NameHasNoOwner;
  service_unknown = λ order reply serial. answer_lengths order reply serial ServiceUnknown;
  returned_false = λ order reply serial. answer_lengths order reply serial False;
}
