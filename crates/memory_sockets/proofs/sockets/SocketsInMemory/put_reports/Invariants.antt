use Rattle.std.proofs.Common.{◌≡◌, ◌≤◌, vec_len, vec_capacity}
use Rattle.proxy_net.specs.declared.system.TheConstants.{REPORTS}
use Rattle.std.specs.List.{All}
use Rattle.memory_sockets.specs.Streams.{IsRoomAwaited, KeepsWatches}
use Rattle.memory_sockets.specs.Sockets.{KeepsBytes}
use Rattle.memory_sockets.proofs.sockets.SocketsInMemory.put_reports.Given as goal

abbrev pub invariant-loop-place : goal.invariant-loop-place
invariant-loop-place l = record {
  notes : l.self.notes ≡ l.fn.self.notes;
  kept : KeepsBytes l.fn.self l.self;
  count : vec_len l.reports ≤ REPORTS;
  capacity : vec_capacity l.reports ≡ vec_capacity l.fn.reports;
  awaited : All (IsRoomAwaited l.fn.self.script.streams) l.reports.items;
  watches : KeepsWatches l.fn.self.script.streams l.self.script.streams;
}
