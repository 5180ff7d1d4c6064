use Rattle.std.proofs.Common.{◌≡◌, ◌++◌, true, All, map}
use Rattle.dbus_names.specs.Names.{is_well_known}
use Rattle.policy_view.specs.Sent.{asked}
use Rattle.own_calls.proofs.listed.asked.Given as goal

abbrev pub invariant-loop-name : goal.invariant-loop-name
invariant-loop-name l = record {
  listed : map (λ name. name.now) l.asked.items ++ asked l.policy l.name-iterator ≡ asked l.policy l.fn.names;
  well_known : All (λ name. is_well_known name.now ≡ true) l.asked.items;
}
