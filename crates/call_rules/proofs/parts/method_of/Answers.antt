use Rattle.call_rules.proofs.Cutting.{interface-IsCut, member-IsCut}
use Rattle.call_rules.proofs.parts.method_of.Goals as goal

pub returns-then-eq-2-clause-cuts : goal.returns-then-eq-2-clause-cuts
returns-then-eq-2-clause-cuts c = record {
  interface = interface-IsCut c.args.text.now c.args.end c.in-Some.dot c.utf8.text c.requires.0 c.in-Some.ensures;
  member = tt;
}

pub returns-clause-cuts : goal.returns-clause-cuts
returns-clause-cuts c = record {
  interface = interface-IsCut c.args.text.now c.args.end c.in-Some.dot c.utf8.text c.requires.0 c.in-Some.ensures;
  member = member-IsCut c.args.text.now c.args.end c.in-Some.dot c.utf8.text c.requires c.in-Some.ensures;
}
