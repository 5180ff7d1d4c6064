use Rattle.std.proofs.Common.{◌≤◌, ◌-◌, ◌∙◌, ap, List, ℕ, arith, length-take, take, drop}
use Rattle.memory_sockets.proofs.Prefixes.{read-bytes}
use Rattle.memory_sockets.proofs.streams.StreamInMemory.read.Goals as goal

pub returns-clause-bytes : goal.returns-clause-bytes
returns-clause-bytes c =
    let row = c.args.self.now in
    let end = c.min-end.result in
    let n = c.copy_prefix-n.result in
    let le : n ≤ end - row.read = omega (arith, c.copy_prefix-n.ensures.count, length-take (end - row.read) (drop row.read c.deref.result.now)) in
    read-bytes row.bytes.items c.copy_prefix-n.new.into row.read end n le
    (c.copy_prefix-n.ensures.bytes ∙ ap (λ (l : List ℕ). take n (take (end - row.read) (drop row.read l))) c.deref.ensures.value)
