use Rattle.std.proofs.Common.{[], take, map}
use Rattle.proxy_core.specs.Sessions.{StandsFor, nothing}
use Rattle.proxy_core.specs.Steps.{IsLight}
use Rattle.recording.specs.Seen.{seen, size}
use Rattle.replay_output.specs.Output.{events_of}
use Rattle.replay.proofs.playing.play_events.Given as goal

abbrev pub invariant-loop-event : goal.invariant-loop-event
invariant-loop-event l = record {
  stands : StandsFor l.policy l.fn.session [] nothing → StandsFor l.policy l.session (events_of (map seen (take l.event-index l.events))) nothing;
  light : IsLight l.policy (size (map seen (take l.event-index l.events))) l.fn.session l.session;
}
