use Rattle.std.proofs.Common.{◌≡◌, ◌++◌, decimal, map, string_bytes, take}
use Rattle.proxy_main.specs.WithinText.{spaced}
use Rattle.proxy_main.proofs.containment.push_numbers.Given as goal

abbrev pub invariant-loop-number : goal.invariant-loop-number
invariant-loop-number l = string_bytes l.text ≡ string_bytes l.fn.text ++ spaced (map (λ n. decimal n) (take l.number-index l.numbers))
