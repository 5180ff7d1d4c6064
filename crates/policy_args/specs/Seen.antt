-- The models of the options, and of an optional text.
use Rattle.std.specs.Prelude.{ℕ, false, List, [], Option, option_map}
use Rattle.policy_args.specs.declared.options.FirstOptions.{FirstOptions}
use Rattle.policy_args.specs.declared.options.Options.{Options}
use Rattle.policy_args.specs.Policy.{policy_with}
use Rattle.policy_args.specs.Words.{PolicyOptions}
use denote.Bor.{Bor}

abbrev pub options_seen : Options → PolicyOptions
options_seen o = record { filter = o.filter; log = o.log; policy = o.policy }

abbrev pub first_seen : FirstOptions → PolicyOptions
first_seen f = record { filter = false; log = false; policy = policy_with [] f.sloppy f.known_fields f.start_called }

abbrev pub part_seen : Option (Bor (List ℕ)) → Option (List ℕ)
part_seen part = option_map (λ t. t.now) part
