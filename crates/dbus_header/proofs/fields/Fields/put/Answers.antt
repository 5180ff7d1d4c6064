use Rattle.dbus_header.proofs.fields.Fields.put.Goals as goal

pub returns-in-Number-clause-begins : goal.returns-in-Number-clause-begins
returns-in-Number-clause-begins c = λ message before is. c.put_number.ensures.begins message before
