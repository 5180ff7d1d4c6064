use Rattle.std.proofs.Common.{ap, refl, sym, subst}
use Rattle.sasl_watch.specs.Watching.{BusGives}
use Rattle.proxy_core.specs.Streams.{StreamView, counted, GaveLine}
use Rattle.proxy_core.proofs.Streams.{lines_gave, none_counted, gave_none}
use Rattle.proxy_core.proofs.stream.Stream.next_bus_line.Goals as goal
use Rattle.proxy_core.proofs.stream.Stream.next_bus_line.Goals.{in-Line, in_default}

pub returns-clause-ok : goal.returns-clause-ok
returns-clause-ok c = elim c.match-next.branch [
  | in-Line w ↦ subst (λ (s : StreamView). GaveLine (BusGives c.args.unanswered c.args.begun) c.args.self.now c.in_ok-next-in-Lines.next s) (sym w.self-is)
      (lines_gave (BusGives c.args.unanswered c.args.begun) c.self.inside.came c.self.inside.lines 1 c.self.inside.content c.in-Lines.lines c.next_of_bus.new.self c.args.self.now c.in_ok-next-in-Lines.next c.in-Lines.is c.self.view_is c.in_ok-next-in-Lines.ensures.gives (ap counted w.in-Line.is))
  | in_default w ↦ subst (λ (s : StreamView). GaveLine (BusGives c.args.unanswered c.args.begun) c.args.self.now c.in_ok-next-in-Lines.next s) (sym w.self-is)
      (gave_none (BusGives c.args.unanswered c.args.begun) c.self.inside.came c.self.inside.lines c.next_of_bus.new.self c.args.self.now c.in_ok-next-in-Lines.next
      (lines_gave (BusGives c.args.unanswered c.args.begun) c.self.inside.came c.self.inside.lines 0 c.self.inside.content c.in-Lines.lines c.next_of_bus.new.self c.args.self.now c.in_ok-next-in-Lines.next c.in-Lines.is c.self.view_is c.in_ok-next-in-Lines.ensures.gives (none_counted c.in_ok-next-in-Lines.next _ w.in_default.not-Line (λ x. (x, refl)))))
]
