use Rattle.std.proofs.Common.{◌≡◌, map, take}
use Rattle.proxy_core.proofs.elements.kept_names.Given as goal

abbrev pub invariant-loop-name : goal.invariant-loop-name
invariant-loop-name l = l.kept.items ≡ map (λ name. name.now) (take l.name-index l.names)
