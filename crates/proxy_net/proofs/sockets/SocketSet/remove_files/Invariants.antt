use Rattle.std.proofs.Common.{ℕ, ◌≡◌, ◌≤◌, ◌<◌, false, take, vec_len}
use Rattle.proxy_net.specs.Steps.{Steps, AreRemovals}
use Rattle.proxy_net.specs.Sockets.{GoesOn, file_at, files_of, has_file_at}
use Rattle.proxy_net.proofs.sockets.SocketSet.remove_files.Given as goal

abbrev pub invariant-loop-place : goal.invariant-loop-place
invariant-loop-place g l = record {
  goes : GoesOn l.fn.self l.self;
  told : Steps (AreRemovals (take l.place (files_of l.fn.self))) (g.S.Sockets.journal l.fn.system) (g.S.Sockets.journal l.system);
  files : (other : ℕ) → l.place ≤ other → file_at l.self other ≡ file_at l.fn.self other;
  number : vec_len l.self.listeners ≡ vec_len l.fn.self.listeners;
  removed : (other : ℕ) → other < l.place → has_file_at l.self other ≡ false;
}
