use Rattle.std.proofs.Common.{length}
use Rattle.proxy_main.proofs.files.+load_recordings.Given as goal

abbrev pub decreases-load_recordings : goal.decreases-load_recordings
decreases-load_recordings g l = length l.paths.now
