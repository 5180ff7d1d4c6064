use Rattle.std.proofs.Common.{sym, ◌∙◌}
use Rattle.replay.proofs.PlayersLaws.{all-made, all-there, none-is}
use Rattle.replay.proofs.PlayingLaws.{plays-start}
use Rattle.replay.proofs.session_playing.start_if_new.Goals as goal

pub returns-then-contains_key-clause-all : goal.returns-then-contains_key-clause-all
returns-then-contains_key-clause-all c = λ events named all.
    all-there c.args.policy.now c.args.mode events named c.args.running.now c.args.number all (sym c.contains_key.ensures ∙ c.if-contains_key.true)

pub returns-clause-all : goal.returns-clause-all
returns-clause-all c = λ events named all.
    all-made c.args.policy.now c.args.mode events named c.args.running.now c.insert.new.self c.args.number c.in_ok-session.session all
    (none-is _ (sym c.contains_key.ensures ∙ c.if-contains_key.false)) c.in_ok-insert.ensures.updates.0 c.in_ok-insert.ensures.entries c.insert.ensures.ordered
    (λ none. plays-start c.args.policy.now c.args.mode events c.args.number c.in_ok-session.session none c.in_ok-session.ensures.start c.in_ok-session.ensures.stands c.in_ok-session.ensures.light)
