use Rattle.std.proofs.Common.{refl, arith}
use Rattle.link_traits.specs.Views.{FilesView}
use Rattle.record_net.proofs.Recordings.{starts_if}
use Rattle.record_net.proofs.record_file.begin.Goals as goal

pub returns-clause-starts : goal.returns-clause-starts
returns-clause-starts g c =
    let files : FilesView = g.F.Files.view c.create_with_head.new.files in
    starts_if c.create_with_head.result files files c.args.path.now c.create_with_head.ensures.head (λ p other. refl) (omega arith) refl
