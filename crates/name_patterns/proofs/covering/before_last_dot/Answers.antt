use Rattle.std.proofs.Common.{sym}
use Rattle.name_patterns.proofs.PatternFronts.{before-last_dot, no-dot}
use Rattle.name_patterns.proofs.NamePrefixes.{prefixes-cut, prefixes-none}
use Rattle.name_patterns.proofs.covering.before_last_dot.Goals as goal

pub returns-in-Some-clause-texts : goal.returns-in-Some-clause-texts
returns-in-Some-clause-texts c = sym (prefixes-cut c.args.text.now c.in-Some.front.now (before-last_dot c.args.text.now c.in-Some.front.now c.in-Some.field-0-1.now c.in-Some.ensures.cases))

pub returns-in-None-clause-texts : goal.returns-in-None-clause-texts
returns-in-None-clause-texts c = sym (prefixes-none c.args.text.now (no-dot c.args.text.now c.in-None.ensures.cases))
