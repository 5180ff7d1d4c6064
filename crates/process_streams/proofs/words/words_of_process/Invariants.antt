use Rattle.std.proofs.Common.{◌≡◌, length, take, drop, IfSome, suc}
use Rattle.link_traits.specs.Texts.{texts_of}
use Rattle.process_streams.proofs.words.words_of_process.Given as goal

-- the texts are those of the words from the second one to this one
abbrev pub invariant-loop-index : goal.invariant-loop-index
invariant-loop-index g l = record {
  count : l.index ≡ suc (length l.texts.items);
  texts : IfSome (g.A.Arguments.told l.arguments) (λ words. texts_of l.texts.items ≡ take (length l.texts.items) (drop 1 words));
}
