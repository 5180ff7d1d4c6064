-- What was written to a link, with its state.
use Rattle.std.proofs.Common.{◌≡◌, inl, inr, Bool, true, false, ◌||◌, is_some, [], refl, ap, ◌∙◌, sym}
use Rattle.link_traits.specs.Journals.{Journal}
use Rattle.link_traits.specs.declared.links.Link.{Link}
use Rattle.proxy_core.specs.Sessions.{SessionView}
use Rattle.proxy_loop.specs.declared.link_work.LinkState.{LinkState}
use Rattle.proxy_loop.specs.Kinds.{all_are, some_of, gone_by}
use Rattle.proxy_loop.specs.Works.{queue_of, IsDrained, WroteOut}
use Rattle.proxy_loop.specs.Writing.{Written}
use Rattle.proxy_loop.proofs.Holding.{or_nothing}

pub written_none : (link : Link) (session : SessionView) (state : LinkState) → state.gone || state.shut ≡ true → Written link session session state state []
unfolding all_are some_of
written_none link session state done = record {
  all = refl;
  stops = refl;
  none = λ closed. refl;
  took = refl;
  gone = refl;
  ended = or_nothing (is_some session.ended) (is_some session.ended) refl;
  drained = inr (inl done);
}

neither : (x y : Bool) → x || y ≡ false → x ≡ false
neither true y e = cc
neither false y e = refl

gone_then : (x y z : Bool) → x ≡ y → z ≡ false → y ≡ (x || z)
gone_then true y z e f = sym e
gone_then false y z e f = sym e ∙ sym f

pub written_out : (link : Link) (old new : SessionView) (state : LinkState) (failed : Bool) (added : Journal) → state.gone || state.shut ≡ false →
    WroteOut link old new failed added → Written link old new state (record { gone = failed; shut = false }) added
written_out link old new state failed added open_ w = record {
  all = w.writes.all;
  stops = w.stops;
  none = λ closed. let open_too : state.gone || state.shut ≡ false = open_ in cc;
  took = w.writes.took;
  gone = gone_then (some_of (gone_by link) added) failed state.gone w.writes.gone (neither state.gone state.shut open_);
  ended = w.writes.ended ∙ ap (λ (b : Bool). is_some old.ended || b) (sym w.writes.gone);
  drained = drained failed w.drained;
}
  where
    drained : (b : Bool) → IsDrained link (queue_of link.side new) b added → IsDrained link (queue_of link.side new) (b || false) added
    drained b (inl e) = inl e
    drained true (inr (inl e)) = inr (inl refl)
    drained false (inr (inl e)) = cc
    drained b (inr (inr e)) = inr (inr e)
