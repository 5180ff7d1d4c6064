-- A message of the bus: what the session does is what the history has.
use Rattle.std.proofs.Common.{ℕ, ◌≡◌, ◌-◌, ◌+◌, ◌≤◌, List, [], ◌∷◌, ◌++◌, length, Option, Some, None, refl, ap, ap₂, ◌∙◌, sym, subst, arith, append-nil, append_assoc}
use Rattle.std.specs.Prelude.{flat_map}
use Rattle.std.specs.FinMap.{FinMap, get}
use Rattle.std.specs.Ordering.{nat_cmp}
use Rattle.dbus_header.specs.Kinds.{Kind, Call, Return, Error, Signal, Other, kind_of}
use Rattle.dbus_header.specs.Message.{Message, reply_serial, spell}
use Rattle.dbus_names.specs.Texts.{Text}
use Rattle.policy_args.specs.Levels.{level_of}
use Rattle.policy_args.specs.Policy.{Policy}
use Rattle.policy_args.specs.declared.Level.{Level}
use Rattle.policy_args.specs.declared.fact.Fact.{Fact}
use Rattle.policy_view.specs.Knowledge.{Knowledge, knowledge}
use Rattle.policy_view.specs.Sent.{Exchange, Past, Sent, owed}
use Rattle.policy_view.specs.Past.{History, Msg, after, called_at, due, due_at, learned_at, past, role, used_at, used_by}
use Rattle.policy_view.specs.History.{followed_by}
use Rattle.policy_view.specs.Outputs.{client_bytes, seen_of, to_client}
use Rattle.policy_view.specs.Shown.{BusRole, bus_role, seen, seen_as, showing, showing_at, shown}
use Rattle.policy_view.specs.declared.Side.TheVariants.{Bus}
use Rattle.policy_view.proofs.PastLaws.{used_before, used_sent}
use Rattle.policy_view.proofs.RepliesLaws.{replied_within, times, times_append}
use Rattle.reply_ledger.specs.declared.kind.Kind.{Kind as Expected}
use Rattle.unique_names.specs.Taught.{Ids, Taught, kept_level, learned}
use Rattle.unique_names.proofs.Learned.{learned-taught}
use Rattle.verdicts.specs.Kept.{expected_at, owed_by}
use Rattle.verdicts.proofs.KnowledgeLaws.{CoversNoUniqueName, knowledge_is}
use Rattle.proxy_core.specs.Sessions.{SessionView, Taken}
use Rattle.proxy_core.specs.Messages.{known, more_for, taught, used_up, with_bus_message, with_role, with_shown, with_told, with_used}
use Rattle.proxy_core.proofs.LedgerLaws.{answered_in, answers}
use Rattle.proxy_core.proofs.Replies.{more_for_owed}
use Rattle.proxy_core.proofs.Placing.{HoldsSides}
use Rattle.proxy_core.proofs.Sent.{Based, answered_is, sending_holds}

-- a tracker that learns facts
taught_facts : (policy : Policy) (facts : List Fact) (ids : Ids) (known : List Fact) → Taught ids policy known → Taught (taught policy ids facts) policy (known ++ facts)
taught_facts policy [] ids known t = subst (λ (fs : List Fact). Taught ids policy fs) (sym (append-nil known)) t
taught_facts policy (fact ∷ facts) ids known t =
    subst (λ (fs : List Fact). Taught (taught policy (learned policy ids fact) facts) policy fs) (append_assoc known (fact ∷ []) facts)
    (taught_facts policy facts (learned policy ids fact) (known ++ fact ∷ []) (learned-taught ids policy known fact t))

-- what a return or an error uses up
used_answers : (l : FinMap nat_cmp Expected) (used : List ℕ) (sent : List Sent) (k : Kind) (r : Option ℕ) → ((q : ℕ) → get l q ≡ answered_in used sent q) →
    (q : ℕ) → get (used_up k r l) q ≡ answered_in (used ++ used_at (length sent) k r) sent q
used_answers l used sent k r each q = by k r
  where
    same : get l q ≡ answered_in (used ++ []) sent q
    same = each q ∙ ap (λ (us : List ℕ). answered_in us sent q) (sym (append-nil used))

    by : (k : Kind) (r : Option ℕ) → get (used_up k r l) q ≡ answered_in (used ++ used_at (length sent) k r) sent q
    by Call r = same
    by Return None = same
    by Return (Some a) = answers l used sent a each q
    by Error None = same
    by Error (Some a) = answers l used sent a each q
    by Signal r = same
    by Other r = same

module _ (policy : Policy) (apart : CoversNoUniqueName policy) (view : SessionView) (items : History) (taken : Taken) (m : Message) (runs : view.ended ≡ None) (holds : HoldsSides policy view items taken) where
  abbrev before : Past
  before = past policy items

  abbrev now : BusRole
  now = role before m

  known_is : known policy view ≡ knowledge policy before.told
  known_is = knowledge_is policy view.ids view.ledger before apart (holds.knows runs).stand

  pub level_is : kept_level policy view.ids ≡ level_of policy before.told.facts
  unfolding knowledge
  level_is = ap (λ (k : Knowledge). k.level) known_is

  pub role_is : bus_role (expected_at view.ledger.expected (reply_serial m)) m ≡ now
  unfolding role
  role_is = ap (λ (o : Option Expected). bus_role o m) ((holds.knows runs).stand.answers (reply_serial m))

  due_is : due policy before (Msg Bus m) ≡ due_at policy m now
  unfolding due
  due_is = refl

  shown_is : seen_as (kept_level policy view.ids) m (showing_at policy (known policy view) m now) ≡ seen policy before m
  unfolding seen shown showing role
  shown_is = ap₂ (λ (level : Text → Level) (k : Knowledge). seen_as level m (showing_at policy k m now)) level_is known_is

  pub showing_is : showing_at policy (known policy view) m (bus_role (expected_at view.ledger.expected (reply_serial m)) m) ≡ shown policy before m
  unfolding shown showing role
  showing_is = ap₂ (λ (k : Knowledge) (o : Option Expected). showing_at policy k m (bus_role o m)) known_is ((holds.knows runs).stand.answers (reply_serial m))

  client_is : client_bytes policy (Msg Bus m ∷ items) ≡ client_bytes policy items ++ flat_map spell (seen policy before m)
  unfolding client_bytes to_client seen_of
  client_is = refl

  abbrev base : SessionView
  base = with_told policy m now (with_shown policy m (showing_at policy (known policy view) m now) (with_used m view))

  replies_are : (e : Exchange) → owed_by (more_for view.ledger.owed (called_at m now)) e ≡ owed (past policy (Msg Bus m ∷ items)).told e
  unfolding past after owed
  replies_are e =
      let h = replied_within policy items e in
      more_for_owed (called_at m now) view.ledger.owed e
      ∙ ap (λ (n : ℕ). n + times e (called_at m now)) ((holds.knows runs).stand.replies e)
      ∙ more (times e before.told.called) (times e before.told.replied) (times e (called_at m now)) h
      ∙ ap (λ (n : ℕ). n - times e before.told.replied) (sym (times_append e before.told.called (called_at m now)))
    where
      more : (a b c : ℕ) → b ≤ a → (a - b) + c ≡ (a + c) - b
      more a b c h = omega (arith, h)

  based : Based policy view items taken Bus m runs holds base
  unfolding past after used_by
  based = record {
    ended = runs;
    bus_side = refl;
    client_side =
        sym (append_assoc taken.client_side view.client_side (flat_map spell (seen_as (kept_level policy view.ids) m (showing_at policy (known policy view) m now))))
        ∙ ap₂ (λ (w : List ℕ) (ms : List Message). w ++ flat_map spell ms) holds.for_client shown_is
        ∙ sym client_is;
    sent = refl;
    greeted = refl;
    facts = taught_facts policy (learned_at policy m now) view.ids before.told.facts (holds.knows runs).stand.facts;
    replies = replies_are;
    answers = used_answers view.ledger.expected before.used before.told.sent (kind_of m) (reply_serial m) (λ r. (holds.knows runs).stand.answers (Some r) ∙ answered_is before r);
    used = used_before (length before.told.sent) before.used (kind_of m) (reply_serial m) (used_sent policy items);
  }

  by_role : with_bus_message policy m view ≡ with_role policy m now (with_used m view)
  by_role = ap (λ (r : BusRole). with_role policy m r (with_used m view)) role_is

  pub bus_holds : HoldsSides policy (with_bus_message policy m view) (followed_by policy items (Msg Bus m)) taken
  bus_holds =
      subst (λ (v : SessionView). HoldsSides policy v (followed_by policy items (Msg Bus m)) taken) (sym by_role)
      (sending_holds policy view items taken Bus m runs holds (with_used m view) base (due_at policy m now) (record { bus_side = refl; client_side = refl; sent = refl }) based due_is)
