use Rattle.std.proofs.Common.{◌≡◌, ◌++◌, map, string_bytes, take}
use Rattle.proxy_main.specs.WithinText.{spaced}
use Rattle.proxy_main.proofs.containment.push_words.Given as goal

abbrev pub invariant-loop-word : goal.invariant-loop-word
invariant-loop-word l = string_bytes l.text ≡ string_bytes l.fn.text ++ spaced (map (λ word. word.now) (take l.word-index l.words))
