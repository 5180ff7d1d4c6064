use Rattle.std.proofs.Common.{◌≤◌, length, arith, drop}
use Rattle.memory_sockets.proofs.Prefixes.{copied}
use Rattle.memory_sockets.proofs.streams.copy_prefix.Goals as goal

pub returns-clause-bytes : goal.returns-clause-bytes
returns-clause-bytes c =
    let le : c.min-n.result ≤ length c.args.bytes.now = omega (arith, c.min-n.ensures) in
    copied c.args.bytes.now c.copy_from_slice.new.self (drop c.min-n.result c.args.into.now) c.min-n.result le c.copy_from_slice.ensures.after
