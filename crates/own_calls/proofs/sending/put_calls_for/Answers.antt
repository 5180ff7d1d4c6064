use Rattle.std.proofs.Common.{List, [], ◌∷◌, ap, sym, subst, ◌∙◌}
use Rattle.policy_view.specs.Sent.{Sent, OwnMatch, OwnOwner}
use Rattle.policy_view.specs.Texts.{only_if}
use Rattle.own_calls.specs.Sending.{AreCutOff}
use Rattle.own_calls.proofs.SendingLaws.{cut_first, cut_later, refused}
use Rattle.own_calls.proofs.sending.put_calls_for.Goals as goal

pub returns-in_err-put_match-clause-cut : goal.returns-in_err-put_match-clause-cut
returns-in_err-put_match-clause-cut c =
    let pattern = c.args.pattern.now in
    refused c.from_residual.result (cut_first (OwnMatch pattern ∷ []) (only_if pattern.exact (OwnOwner pattern.name)) c.in_err-put_match.ensures.cut)

pub returns-in_err-put_owner-clause-cut : goal.returns-in_err-put_owner-clause-cut
returns-in_err-put_owner-clause-cut c =
    let pattern = c.args.pattern.now in
    let at_owner = subst (λ (s : List Sent). AreCutOff s c.put_match.new.calls.items c.put_match.new.serials c.put_match.new.ledger c.put_owner.new.calls.items c.put_owner.new.serials c.put_owner.new.ledger)
    (ap (λ name. OwnOwner name ∷ []) c.name.ensures.name ∙ ap (λ b. only_if b (OwnOwner pattern.name)) (sym c.if-is_exact.true ∙ c.is_exact.ensures)) c.in_err-put_owner.ensures.cut in
    refused c.from_residual-in_err-put_owner.result (cut_later (OwnMatch pattern ∷ []) (only_if pattern.exact (OwnOwner pattern.name)) c.in_ok-put_match.ensures.sent at_owner)
