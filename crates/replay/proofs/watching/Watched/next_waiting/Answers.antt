use Rattle.replay.proofs.Elements.{gave-waiting}
use Rattle.replay.proofs.watching.Watched.next_waiting.Goals as goal

pub returns-clause-gave : goal.returns-clause-gave
returns-clause-gave c = λ policy recording given gave.
    gave-waiting policy recording c.args.self.now c.next_visible.new.self given c.next_visible.result c.next_visible.ensures.none c.next_visible.ensures.some (c.next_visible.ensures.stands policy) gave
