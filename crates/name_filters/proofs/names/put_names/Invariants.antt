use Rattle.std.proofs.Common.{◌≡◌, ◌≤◌, ◌<◌, ◌++◌, ◌-◌, ◌^◌, length}
use Rattle.name_filters.specs.Names.{kept_names, names_bytes}
use Rattle.name_filters.proofs.names.put_names.Given as goal

abbrev pub invariant-loop-name : goal.invariant-loop-name
invariant-loop-name l = record {
  built : l.into.items ++ names_bytes l.order (length l.into.items - l.start) (kept_names l.policy l.tracker l.name-iterator)
      ≡ l.initial.into.items ++ names_bytes l.order (length l.initial.into.items - l.start) (kept_names l.policy l.tracker l.fn.names);
  low : l.start ≤ length l.into.items;
  room : length (names_bytes l.order (length l.into.items - l.start) l.name-iterator) ≤ l.into.spare;
  short : length (names_bytes l.order (length l.into.items - l.start) l.name-iterator) < 2 ^ 32;
}
