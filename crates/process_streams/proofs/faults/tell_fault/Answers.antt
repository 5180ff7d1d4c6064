use Rattle.process_streams.proofs.Telling.{by_fault}
use Rattle.process_streams.proofs.faults.tell_fault.Goals as goal

pub returns-in-NotText-clause-ends : goal.returns-in-NotText-clause-ends
returns-in-NotText-clause-ends g c = by_fault _ _ _ _ _ _ _ c.in-NotText.is c.deref.ensures.value c.tell_not_text.ensures.ends
