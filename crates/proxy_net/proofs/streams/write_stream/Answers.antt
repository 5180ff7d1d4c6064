use Rattle.std.specs.IoError.{error_kind}
use Rattle.proxy_net.proofs.Meaning.{write_told}
use Rattle.proxy_net.proofs.streams.write_stream.Goals as goal

pub returns-clause-told : goal.returns-clause-told
returns-clause-told g c = write_told error_kind c.args.stream.now.number _ c.write.result c.write_of.result c.write.ensures.told c.write_of.ensures.meant
