use Rattle.std.proofs.Common.{◌∷◌, ◌++◌, ℕ, sym, subst}
use Rattle.link_traits.specs.Told.{Part}
use Rattle.link_traits.proofs.Parts.{part_first}
use Rattle.replay_output.specs.Output.{fault_bytes}
use Rattle.replay.specs.SessionsOutput.{named_header}
use Rattle.replay.proofs.Records.{malformed-length}
use Rattle.replay.proofs.writing.write_malformed.Goals as goal

pub returns-in_err-write_header-clause-part : goal.returns-in_err-write_header-clause-part
returns-in_err-write_header-clause-part g c =
    let bytes = c.args.number ∷ fault_bytes c.args.fault in
    subst (λ (n : ℕ). Part (g.O.Sink.view c.args.out.now).told (g.O.Sink.view c.write_header.new.out).told (named_header c.args.named 18 n ++ bytes)) (sym (malformed-length c.args.number c.args.fault))
    (part_first _ _ (named_header c.args.named 18 11) bytes c.write_header.ensures.part)
