use Rattle.std.proofs.Common.{◌∙◌, Option, ap, refl, sym}
use Rattle.std.specs.Option.{option_map}
use Rattle.link_traits.specs.Texts.{texts_of}
use Rattle.proxy_main.specs.declared.Refusal.TheVariants.{Usage}
use Rattle.proxy_main.specs.declared.Stop.TheVariants.{Refused}
use Rattle.proxy_main.specs.declared.words.CommandWords.{CommandWords}
use Rattle.proxy_main.specs.Words.{reading}
use Rattle.proxy_main.specs.Read.{command_of}
use Rattle.proxy_main.specs.FilesRead.{paths_of}
use Rattle.proxy_main.proofs.Logs.{lines_none}
use Rattle.proxy_main.proofs.Needed.{needed_until, none_needed}
use Rattle.proxy_main.proofs.work.work.Goals as goal

pub returns-in-Err-clause-log : goal.returns-in-Err-clause-log
returns-in-Err-clause-log g c = lines_none _ _ _ _ refl

pub returns-in-Ok-None-clause-needed : goal.returns-in-Ok-None-clause-needed
returns-in-Ok-None-clause-needed g c =
    needed_until _ _ (g.F.Files.view c.args.files.now).reads (g.F.Files.view c.args.files.now).reads
    (none_needed (g.F.Files.view c.args.files.now).told (reading (texts_of c.args.words.now)) (g.F.Files.view c.args.files.now).reads (sym (ap paths_of c.in-Ok-None.ensures.words) ∙ ap (λ (o : Option CommandWords). paths_of (option_map command_of o)) c.in-Ok-None.field-0-is)) (Refused Usage)
