use Rattle.std.proofs.Common.{◌≡◌, ◌++◌, take, drop}
use Rattle.std.specs.List.{list_any}
use Rattle.memory_sockets.specs.Listeners.{has_client, taken}
use Rattle.memory_sockets.proofs.listeners.serve_first.Given as goal

abbrev pub invariant-loop-listener : goal.invariant-loop-listener
invariant-loop-listener l = record {
  any : list_any (has_client l.number) (drop l.listener-index l.listeners) ≡ list_any (has_client l.number) l.fn.listeners;
  items : take l.listener-index l.listeners ++ taken l.number (drop l.listener-index l.listeners) ≡ taken l.number l.fn.listeners;
}
