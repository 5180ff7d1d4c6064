-- A message of the client: what the session does is what the history has.
use Rattle.std.proofs.Common.{ℕ, ◌≡◌, ◌-◌, ◌+◌, Bool, List, ◌∷◌, Some, None, refl, ap, ◌∙◌, sym, subst, arith, append-nil}
use Rattle.dbus_header.specs.Message.{Message}
use Rattle.policy_args.specs.Policy.{Policy}
use Rattle.policy_view.specs.Knowledge.{Knowledge}
use Rattle.policy_view.specs.Sent.{Exchange, Past, owed}
use Rattle.policy_view.specs.Past.{History, Msg, after, due, due_on, judged, past, replied_on}
use Rattle.policy_view.specs.History.{followed_by}
use Rattle.policy_view.specs.Outputs.{client_bytes, seen_of, to_client}
use Rattle.policy_view.specs.Verdicts.{client_role, verdict}
use Rattle.policy_view.specs.declared.Side.TheVariants.{Client}
use Rattle.policy_view.specs.declared.Verdict.{Verdict}
use Rattle.policy_view.proofs.PastLaws.{used_sent}
use Rattle.policy_view.proofs.RepliesLaws.{times, times_append}
use Rattle.verdicts.specs.Kept.{owed_by}
use Rattle.verdicts.proofs.KnowledgeLaws.{CoversNoUniqueName, knowledge_is}
use Rattle.proxy_core.specs.Sessions.{SessionView, Taken}
use Rattle.proxy_core.specs.Messages.{known, less_for, with_client_message, with_replied, with_verdict}
use Rattle.proxy_core.proofs.Replies.{less_for_owed}
use Rattle.proxy_core.proofs.Placing.{HoldsSides}
use Rattle.proxy_core.proofs.Sent.{Based, answered_is, sending_holds}

module _ (policy : Policy) (apart : CoversNoUniqueName policy) (view : SessionView) (items : History) (taken : Taken) (m : Message) (runs : view.ended ≡ None) (holds : HoldsSides policy view items taken) where
  abbrev before : Past
  before = past policy items

  abbrev replied : List Exchange
  replied = replied_on m (client_role m) (judged policy before.told m)

  pub verdict_is : verdict policy (known policy view) m ≡ judged policy before.told m
  unfolding judged
  verdict_is = ap (λ (k : Knowledge). verdict policy k m) (knowledge_is policy view.ids view.ledger before apart (holds.knows runs).stand)

  due_is : due policy before (Msg Client m) ≡ due_on policy view.greeted m (judged policy before.told m)
  unfolding due
  due_is = ap (λ (g : Bool). due_on policy g m (judged policy before.told m)) (sym (holds.knows runs).greeted)

  replies_are : (e : Exchange) → owed_by (less_for view.ledger.owed replied) e ≡ owed (past policy (Msg Client m ∷ items)).told e
  unfolding past after owed
  replies_are e =
      less_for_owed replied view.ledger.owed e
      ∙ ap (λ (n : ℕ). n - times e replied) ((holds.knows runs).stand.replies e)
      ∙ twice (times e before.told.called) (times e before.told.replied) (times e replied)
      ∙ ap (λ (n : ℕ). times e before.told.called - n) (sym (times_append e before.told.replied replied))
    where
      twice : (a b c : ℕ) → (a - b) - c ≡ a - (b + c)
      twice a b c = omega arith

  based : Based policy view items taken Client m runs holds (with_replied replied view)
  unfolding past after client_bytes to_client seen_of
  based = record {
    ended = runs;
    bus_side = refl;
    client_side = holds.for_client ∙ sym (append-nil (client_bytes policy items));
    sent = refl;
    greeted = refl;
    facts = (holds.knows runs).stand.facts;
    replies = replies_are;
    answers = λ r. (holds.knows runs).stand.answers (Some r) ∙ answered_is before r;
    used = used_sent policy items;
  }

  pub client_holds : HoldsSides policy (with_client_message policy m view) (followed_by policy items (Msg Client m)) taken
  client_holds =
      subst (λ (v : Verdict). HoldsSides policy (with_verdict policy m v view) (followed_by policy items (Msg Client m)) taken) (sym verdict_is)
      (sending_holds policy view items taken Client m runs holds view (with_replied replied view) (due_on policy view.greeted m (judged policy before.told m)) (record { bus_side = refl; client_side = refl; sent = refl }) based due_is)
