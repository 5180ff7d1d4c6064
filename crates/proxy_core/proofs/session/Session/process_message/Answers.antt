use Rattle.std.proofs.Common.{List, [], ◌++◌, Option, false, ap, ◌∙◌, sym}
use Rattle.std.specs.Global.{Box}
use Rattle.std.specs.Prelude.{is_some}
use Rattle.policy_view.specs.declared.visible.Visible.{Visible as Element}
use Rattle.proxy_core.specs.Messages.{elements_by, unless_ended}
use Rattle.proxy_core.specs.Sessions.{SessionView, waiting_in}
use Rattle.proxy_core.proofs.Taking.{tree}
use Rattle.proxy_core.proofs.Watching.{put_back, unwatched}
use Rattle.proxy_core.proofs.session.Session.process_message.Goals as goal

pub returns-in-None : goal.returns-in-None
returns-in-None c =
    unwatched c.args.policy.now c.args.side (tree c.args.incoming.now.message.now) c.args.self.now _ c.process_unwatched.new.self (ap (λ (v : SessionView). v.watches) (sym c.self.view_is) ∙ ap is_some (sym c.in-None.ensures.value))
    (ap (λ (watch : Option (Box (List Element))). record { mode = c.self.inside.mode; bus_side = c.self.inside.to_bus; client_side = c.self.inside.to_client; ended = c.self.inside.ended; client = c.self.inside.client; bus = c.self.inside.bus; sent = c.self.inside.serials; greeted = c.self.inside.greeted; ledger = c.self.inside.ledger; ids = c.self.inside.tracker; notes = c.self.inside.notes.items; numbered = c.self.inside.numbered; watches = is_some watch; visible = waiting_in watch })
    (c.take.ensures.after ∙ c.in-None.ensures.value) ∙ c.self.view_is)
    c.process_unwatched.ensures

pub returns-in-Some : goal.returns-in-Some
returns-in-Some c =
    let kept = c.process_watched.new.watch in
    put_back c.args.policy.now c.args.side (tree c.args.incoming.now.message.now) c.args.self.now _ c.process_watched.new.self c.put_watch.new.self kept (ap (λ (v : SessionView). v.watches) (sym c.self.view_is) ∙ ap is_some (sym c.in-Some.ensures.value)) c.requires
    (ap (λ (watch : Option (Box (List Element))). record { mode = c.self.inside.mode; bus_side = c.self.inside.to_bus; client_side = c.self.inside.to_client; ended = c.self.inside.ended; client = c.self.inside.client; bus = c.self.inside.bus; sent = c.self.inside.serials; greeted = c.self.inside.greeted; ledger = c.self.inside.ledger; ids = c.self.inside.tracker; notes = c.self.inside.notes.items; numbered = c.self.inside.numbered; watches = is_some watch; visible = waiting_in watch })
    c.take.ensures.after ∙ ap (λ (v : SessionView). record v { watches = false; visible = [] }) c.self.view_is)
    c.process_watched.ensures.took
    (c.process_watched.ensures.kept
    ∙ ap (λ (es : List Element). es ++ unless_ended c.process_watched.new.self.ended (elements_by c.args.policy.now c.self.inside.tracker c.self.inside.ledger c.args.side (tree c.args.incoming.now.message.now))) (c.deref_mut.ensures.value ∙ ap waiting_in c.in-Some.ensures.value ∙ ap (λ (v : SessionView). v.visible) c.self.view_is))
    c.put_watch.ensures
