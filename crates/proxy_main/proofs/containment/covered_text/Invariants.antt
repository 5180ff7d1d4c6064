use Rattle.std.proofs.Common.{◌≡◌, ◌++◌, codes, flat_map, map, string_bytes, take}
use Rattle.proxy_main.specs.WithinText.{covered_line}
use Rattle.proxy_main.proofs.containment.covered_text.Given as goal

abbrev pub invariant-loop-entry : goal.invariant-loop-entry
invariant-loop-entry l = string_bytes l.text ≡ codes "within\n" ++ flat_map covered_line (map (λ entry. entry) (take l.entry-index l.entries))
