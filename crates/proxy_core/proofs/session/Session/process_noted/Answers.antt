use Rattle.std.proofs.Common.{List, [], ◌∷◌, ◌++◌, ◌+◌, ap, ◌∙◌, sym}
use Rattle.std.specs.Prelude.{is_some}
use Rattle.policy_view.specs.Notes.{Note}
use Rattle.proxy_core.specs.Sessions.{SessionView}
use Rattle.proxy_core.proofs.Noting.{given_back, note_as, put_back}
use Rattle.proxy_core.proofs.Taking.{bytes_in, read, tree}
use Rattle.proxy_core.proofs.session.Session.process_noted.Goals as goal

pub new-requires : goal.new-requires
new-requires c =
    let x = c.args.incoming.now.message.now in
    (tree x, (c.is_spelled.ensures (tree x) (read x)).0, c.in-Ok.ensures ∙ bytes_in x c.is_spelled.ensures)

pub returns-then-is_some : goal.returns-then-is_some
returns-then-is_some c =
    given_back c.args.policy.now c.args.side (tree c.args.incoming.now.message.now) c.args.self.now c.reserved_notes.new.self c.process_of_side-decision.new.self _ c.requires.notes c.requires.running c.in-Ok-reserved_notes.ensures.ok
    (ap (λ (v : SessionView). is_some v.ended) (sym c.self-2.view_is) ∙ sym c.is_some.ensures ∙ c.if-is_some.true)
    c.process_of_side-decision.ensures.took
    (ap (λ (v : SessionView). record v { notes = c.in-Ok-reserved_notes.queue.items }) c.self-2.view_is ∙ ap (λ (notes : List Note). record c.process_of_side-decision.new.self { notes = notes }) c.in-Ok-reserved_notes.ensures.notes)

pub returns : goal.returns
returns c =
    put_back c.args.policy.now c.args.side (tree c.args.incoming.now.message.now) c.args.self.now c.reserved_notes.new.self c.process_of_side-decision.new.self c.put_note.new.self c.new.result c.requires.notes c.in-Ok-reserved_notes.ensures.ok
    (ap (λ (v : SessionView). is_some v.ended) (sym c.self-2.view_is) ∙ sym c.is_some.ensures ∙ c.if-is_some.false)
    c.process_of_side-decision.ensures.took
    (c.put_note.ensures ∙ ap (λ (notes : List Note). record c.process_of_side-decision.new.self { notes = notes ++ c.new.result ∷ []; numbered = c.new.result.number }) c.in-Ok-reserved_notes.ensures.notes)
    (note_as c.args.policy.now c.args.side (tree c.args.incoming.now.message.now) c.args.self.now c.reserved_notes.new.self c.new.result c.in-Some.number c.in-Ok.frame c.process_of_side-decision.result c.new.ensures
    (c.in-Some.ensures.1 ∙ ap (λ (v : SessionView). v.numbered + 1) c.self.view_is) (c.in-Ok.ensures ∙ bytes_in c.args.incoming.now.message.now c.is_spelled.ensures) c.in-Ok-reserved_notes.ensures.ok c.process_of_side-decision.ensures.decision)
