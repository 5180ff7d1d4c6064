-- What a proof unfolds to compute the words that are taken of words that are written out.
use Rattle.std.specs.Prelude.{⊤}
use Rattle.clap.proofs.OnLiterals.{clap_on_literals}
use Rattle.tool_words.specs.Tools.{taken, taken_with}

unfoldable pub words_on_literals : ⊤
unfolding clap_on_literals taken taken_with
words_on_literals = tt
