use Rattle.std.proofs.Common.{Bool, ◌+◌, subst, length, if◌then◌else◌}
use Rattle.dbus_header.specs.Message.{with_serial}
use Rattle.policy_view.specs.Own.{add_match}
use Rattle.ping_rewrite.specs.Lengths.{HasLengths}
use Rattle.ping_rewrite.proofs.Lengths.{ping_lengths, list_names_lengths, add_match_lengths, get_owner_lengths}
use Rattle.ping_rewrite.proofs.laws.lengths_of_calls.Goals as goal

pub returns : goal.returns
returns c = record {
  ping = ping_lengths;
  list_names = list_names_lengths;
  add_match_exact = λ serial p e. subst (λ (b : Bool). HasLengths (with_serial serial (add_match p)) ((if b then 259 else 268) + length p.name) 127) e (add_match_lengths serial p);
  add_match_subtree = λ serial p e. subst (λ (b : Bool). HasLengths (with_serial serial (add_match p)) ((if b then 259 else 268) + length p.name) 127) e (add_match_lengths serial p);
  get_owner = get_owner_lengths;
}
