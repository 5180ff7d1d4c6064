use Rattle.std.proofs.Common.{ap, sym, ◌∙◌}
use Rattle.std.proofs.lemmas.Bool.{false≢true}
use Rattle.std.proofs.lemmas.Str.{IsUtf8-string_bytes}
use Rattle.policy_args.proofs.BusPaths.{path-is, no-path}
use Rattle.policy_args.proofs.address.checked.Goals as goal

pub returns-in-Ok : goal.returns-in-Ok
returns-in-Ok c =
    path-is c.args.path.items _ c.deref.result.now c.deref.ensures.value (sym c.has_path_bytes.ensures ∙ c.if-not-has_path_bytes.false)
    (ap (λ v. v.items) c.in-Ok.ensures.ok) (IsUtf8-string_bytes c.in-Ok.path)

pub returns : goal.returns
returns c = no-path c.args.path.items (λ utf8. false≢true (c.in-Err.ensures.succeeds utf8))
