use Rattle.std.proofs.Common.{◌++◌, ap, string_bytes, subst, sym}
use Rattle.recording.specs.SessionsSeen.{sessions_seen}
use Rattle.session_files.proofs.Texts.{AreCounts, are-counts, lines_of, listed-all}
use Rattle.session_files.proofs.lines.listing.Goals as goal

pub loop-session-init : goal.loop-session-init
loop-session-init c =
    let events = (sessions_seen c.args.sessions.now).events in
    record {
      text = ap (λ t. t ++ lines_of events c.into_iter-session-iterator.result) c.new-text.ensures.bytes;
      counts = subst (λ es. AreCounts events es) (sym c.into_iter-session-iterator.ensures.into_iter_gives.0) (are-counts events _ c.in_ok-all.all c.in_ok-all.ensures);
    }

pub returns : goal.returns
returns c =
    listed-all (sessions_seen c.args.sessions.now) c.in_ok-all.all (string_bytes c.loop-session.text) _ _ c.in_ok-all.ensures c.into_iter-session-iterator.ensures.into_iter_gives.0 c.in-None.ensures.steps.0
    c.loop-session.invariant.text
