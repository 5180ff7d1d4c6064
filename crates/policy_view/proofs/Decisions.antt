-- The decision on a message depends only on the facts, the sent messages and the owed replies.
use Rattle.std.proofs.Common.{ℕ, ◌≡◌, List, Option, ap, ap₂}
use Rattle.dbus_header.specs.Message.{Message}
use Rattle.policy_args.specs.Levels.{entries, level_of}
use Rattle.policy_args.specs.Policy.{Policy}
use Rattle.policy_args.specs.declared.fact.Fact.{Fact}
use Rattle.reply_ledger.specs.declared.kind.Kind.{Kind as Expected}
use Rattle.policy_view.specs.Knowledge.{Knowledge, knowledge}
use Rattle.policy_view.specs.Laws.{DecideTheSame, KnowTheSame}
use Rattle.policy_view.specs.Past.{due_at, due_on, has_greeted, judged, due, role}
use Rattle.policy_view.specs.Sent.{Exchange, Past, Sent, owed}
use Rattle.policy_view.specs.Shown.{bus_role, shown, showing}
use Rattle.policy_view.specs.Verdicts.{verdict}
use Rattle.policy_view.specs.declared.Verdict.{Verdict}

-- all that the tables use
known_alike : (policy : Policy) (one other : Past) → KnowTheSame one other → knowledge policy one.told ≡ knowledge policy other.told
unfolding knowledge
known_alike policy one other same =
    let owed_is : (λ to. owed one.told to) ≡ (λ to. owed other.told to) = λ i to. same.owed to i in
    ap₂ (λ (facts : List Fact) (counts : Exchange → ℕ). record { level = level_of policy facts; entries = entries policy facts; owed = counts }) same.facts owed_is

judged_alike : (policy : Policy) (one other : Past) → KnowTheSame one other → (m : Message) → judged policy one.told m ≡ judged policy other.told m
unfolding judged
judged_alike policy one other same m = ap (λ (k : Knowledge). verdict policy k m) (known_alike policy one other same)

pub decide_alike : (policy : Policy) (one other : Past) → KnowTheSame one other → DecideTheSame policy one other
unfolding due shown role
decide_alike policy one other same = record {
  verdicts = judged_alike policy one other same;
  client_due = λ m. ap₂ (λ (sent : List Sent) (v : Verdict). due_on policy (has_greeted sent) m v) same.sent (judged_alike policy one other same m);
  showings = λ m answer. ap₂ (λ (k : Knowledge) (o : Option Expected). showing policy k o m) (known_alike policy one other same) answer;
  bus_due = λ m answer. ap (λ (o : Option Expected). due_at policy m (bus_role o m)) answer;
}
