-- What is written to one link.
use Rattle.std.specs.Prelude.{◌≡◌, true, [], ◌++◌, is_some, ◌||◌}
use Rattle.link_traits.specs.Journals.{Journal, written}
use Rattle.link_traits.specs.declared.links.Link.{Link}
use Rattle.proxy_core.specs.Sessions.{SessionView}
use Rattle.proxy_loop.specs.declared.link_work.LinkState.{LinkState}
use Rattle.proxy_loop.specs.Kinds.{is_write, all_are, some_of, gone_by, only_newest_stops}
use Rattle.proxy_loop.specs.Works.{queue_of, IsDrained}

-- What was written to a link: nothing if it is gone or shut; otherwise bytes were taken from the start of its queue,
-- until nothing waited, or a write failed or wasn't ready, which is the last one. A failed write ends the session.
pub record Written (link : Link) (old new : SessionView) (state after : LinkState) (added : Journal) : Type 0 where
  pub all : all_are (is_write link) added ≡ true
  pub stops : only_newest_stops link added ≡ true
  pub none : state.gone || state.shut ≡ true → added ≡ []
  pub took : queue_of link.side old ≡ written link added ++ queue_of link.side new
  pub gone : after.gone ≡ (some_of (gone_by link) added || state.gone)
  pub ended : is_some new.ended ≡ (is_some old.ended || some_of (gone_by link) added)
  pub drained : IsDrained link (queue_of link.side new) (after.gone || after.shut) added
