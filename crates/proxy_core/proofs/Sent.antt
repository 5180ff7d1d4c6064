-- A message that is taken and what is due for it: what the session then holds is what the history gives.
use Rattle.std.proofs.Common.{ℕ, ◌≡◌, ◌+◌, ◌≤◌, nat_eq, nat_le, Bool, true, false, cond, List, [], ◌∷◌, ◌++◌, length, Option, Some, None, refl, ap, ap₂, ◌∙◌, sym, subst, arith, append-nil, append_assoc, length-append}
use Rattle.std.specs.Prelude.{◌||◌}
use Rattle.std.specs.List.{list_any}
use Rattle.std.specs.FinMap.{get}
use Rattle.std.proofs.lemmas.Bool.Decides.{nat_tests}
use Rattle.std.proofs.lemmas.List.Folds.{list_any-append}
use Rattle.dbus_header.specs.Message.{Message}
use Rattle.policy_args.specs.Policy.{Policy}
use Rattle.policy_view.specs.Sent.{Exchange, Past, Sent, answered, call_at, is_passed_hello, owed, spelled_from}
use Rattle.policy_view.specs.Past.{History, Item, Msg, due, has_greeted, past}
use Rattle.policy_view.specs.History.{end_of, followed_by, most_sent}
use Rattle.policy_view.specs.Outputs.{bus_bytes, client_bytes, to_bus}
use Rattle.policy_view.specs.declared.Side.{Side}
use Rattle.policy_view.specs.declared.End.TheVariants.{SerialsSpent}
use Rattle.policy_view.proofs.PastLaws.{sent_after}
use Rattle.own_calls.specs.Sending.{expecting}
use Rattle.unique_names.specs.Taught.{Taught}
use Rattle.verdicts.specs.Kept.{expected_at, owed_by}
use Rattle.proxy_core.specs.Sessions.{SessionView, Taken}
use Rattle.proxy_core.specs.Messages.{ended_by, sending, with_sent}
use Rattle.proxy_core.proofs.LedgerLaws.{answered_in, sends}
use Rattle.proxy_core.proofs.Placing.{HoldsSides, followed, placed_itself, placed_spent, ended_sides}

-- what a past answers is read off its lists
pub answered_is : (before : Past) (r : ℕ) → answered before (Some r) ≡ answered_in before.used before.told.sent r
unfolding answered call_at
answered_is before r = refl

pub answered_none : (before : Past) → answered before None ≡ None
unfolding answered call_at
answered_none before = refl

module _ (policy : Policy) (view : SessionView) (items : History) (taken : Taken) (side : Side) (m : Message) (runs : view.ended ≡ None) (holds : HoldsSides policy view items taken) where
  abbrev before : Past
  before = past policy items

  abbrev behind : Past
  behind = past policy (Msg side m ∷ items)

  -- what the session holds of the message without what is due: the expected answers are those to the messages that were
  -- sent before
  pub record Based (base : SessionView) : Type 0 where
    pub ended : base.ended ≡ None
    pub bus_side : base.bus_side ≡ view.bus_side
    pub client_side : taken.client_side ++ base.client_side ≡ client_bytes policy (Msg side m ∷ items)
    pub sent : base.sent ≡ view.sent
    pub greeted : base.greeted ≡ view.greeted
    pub facts : Taught base.ids policy behind.told.facts
    pub replies : (e : Exchange) → owed_by base.ledger.owed e ≡ owed behind.told e
    pub answers : (r : ℕ) → get base.ledger.expected r ≡ answered_in behind.used before.told.sent r
    pub used : (r : ℕ) → list_any (nat_eq r) behind.used ≡ true → r ≤ length before.told.sent

  -- what waits, and the serials, are as they were
  pub record IsOrigin (origin : SessionView) : Type 0 where
    pub bus_side : origin.bus_side ≡ view.bus_side
    pub client_side : origin.client_side ≡ view.client_side
    pub sent : origin.sent ≡ view.sent

  ends : end_of items ≡ None
  ends = sym holds.end_is ∙ runs

  sent_is : behind.told.sent ≡ before.told.sent ++ due policy before (Msg side m)
  unfolding past
  sent_is = sent_after policy before (Msg side m)

  bus_is : bus_bytes policy (Msg side m ∷ items) ≡ bus_bytes policy items ++ spelled_from (length before.told.sent + 1) (due policy before (Msg side m))
  unfolding bus_bytes to_bus
  bus_is = refl

  -- if nothing is due
  none_due : (base : SessionView) → Based base → due policy before (Msg side m) ≡ [] → HoldsSides policy base (Msg side m ∷ items) taken
  none_due base b d =
      let same : behind.told.sent ≡ before.told.sent = sent_is ∙ ap (λ (ds : List Sent). before.told.sent ++ ds) d ∙ append-nil before.told.sent in
      record {
        for_bus =
            ap (λ (w : List ℕ). taken.bus_side ++ w) b.bus_side ∙ holds.for_bus ∙ sym (append-nil (bus_bytes policy items))
            ∙ ap (λ (ds : List Sent). bus_bytes policy items ++ spelled_from (length before.told.sent + 1) ds) (sym d) ∙ sym bus_is;
        for_client = b.client_side;
        end_is = b.ended ∙ sym ends;
        knows = λ n. record {
          count = b.sent ∙ (holds.knows runs).count ∙ ap length (sym same);
          fits = subst (λ (xs : List Sent). length xs ≤ most_sent) (sym same) (holds.knows runs).fits;
          greeted = b.greeted ∙ (holds.knows runs).greeted ∙ ap has_greeted (sym same);
          stand = record { facts = b.facts; replies = b.replies; answers = answers_are };
        };
      }
    where
      answers_are : (r : Option ℕ) → expected_at base.ledger.expected r ≡ answered behind r
      answers_are None = sym (answered_none behind)
      answers_are (Some r) =
          b.answers r ∙ ap (λ (xs : List Sent). answered_in behind.used xs r) (sym (sent_is ∙ ap (λ (ds : List Sent). before.told.sent ++ ds) d ∙ append-nil before.told.sent)) ∙ sym (answered_is behind r)

  -- if it is sent
  all_due : (base : SessionView) (ds : List Sent) → Based base → due policy before (Msg side m) ≡ ds → length before.told.sent + length ds ≤ most_sent → HoldsSides policy (with_sent ds base) (Msg side m ∷ items) taken
  all_due base ds b d room =
      let same : behind.told.sent ≡ before.told.sent ++ ds = sent_is ∙ ap (λ (xs : List Sent). before.told.sent ++ xs) d in
      let count : base.sent ≡ length before.told.sent = b.sent ∙ (holds.knows runs).count in
      record {
        for_bus =
            ap (λ (w : List ℕ). taken.bus_side ++ (w ++ spelled_from (base.sent + 1) ds)) b.bus_side
            ∙ sym (append_assoc taken.bus_side view.bus_side (spelled_from (base.sent + 1) ds))
            ∙ ap (λ (w : List ℕ). w ++ spelled_from (base.sent + 1) ds) holds.for_bus
            ∙ ap (λ (n : ℕ). bus_bytes policy items ++ spelled_from (n + 1) ds) count
            ∙ ap (λ (xs : List Sent). bus_bytes policy items ++ spelled_from (length before.told.sent + 1) xs) (sym d)
            ∙ sym bus_is;
        for_client = b.client_side;
        end_is = b.ended ∙ sym ends;
        knows = λ n. record {
          count = ap (λ (k : ℕ). k + length ds) count ∙ sym (length-append before.told.sent ds) ∙ ap length (sym same);
          fits = subst (λ (xs : List Sent). length xs ≤ most_sent) (sym same) (subst (λ (k : ℕ). k ≤ most_sent) (sym (length-append before.told.sent ds)) room);
          greeted = ap (λ (g : Bool). g || has_greeted ds) (b.greeted ∙ (holds.knows runs).greeted) ∙ sym (list_any-append is_passed_hello before.told.sent ds) ∙ ap has_greeted (sym same);
          stand = record { facts = b.facts; replies = b.replies; answers = answers_are };
        };
      }
    where
      answers_are : (r : Option ℕ) → expected_at (expecting base.ledger.expected (base.sent + 1) ds) r ≡ answered behind r
      answers_are None = sym (answered_none behind)
      answers_are (Some r) =
          sends ds base.ledger.expected behind.used before.told.sent (base.sent + 1) (ap (λ (k : ℕ). k + 1) (b.sent ∙ (holds.knows runs).count)) b.used b.answers r
          ∙ ap (λ (xs : List Sent). answered_in behind.used xs r) (sym (sent_is ∙ ap (λ (xs : List Sent). before.told.sent ++ xs) d))
          ∙ sym (answered_is behind r)

  -- what is due is sent if serials are left; else the session ends
  sending_by : (origin base : SessionView) (s : Sent) (ds : List Sent) → IsOrigin origin → Based base → due policy before (Msg side m) ≡ s ∷ ds → (fits : Bool) → nat_le (origin.sent + length (s ∷ ds)) most_sent ≡ fits →
      HoldsSides policy (cond fits (with_sent (s ∷ ds) base) (ended_by SerialsSpent origin)) (followed_by policy items (Msg side m)) taken
  sending_by origin base s ds o b d true fits =
      let count : origin.sent ≡ length before.told.sent = o.sent ∙ (holds.knows runs).count in
      let room : nat_le (length before.told.sent + length (due policy before (Msg side m))) most_sent ≡ true =
      ap₂ (λ (n : ℕ) (xs : List Sent). nat_le (n + length xs) most_sent) (sym count) d ∙ fits in
      let enough : length before.told.sent + length (s ∷ ds) ≤ most_sent = grind (arith, nat_tests, fits, count) in
      subst (λ (i : History). HoldsSides policy (with_sent (s ∷ ds) base) i taken)
      (sym (followed policy items (Msg side m) ends ∙ ap (λ (i : Item). i ∷ items) (placed_itself policy before (Msg side m) room)))
      (all_due base (s ∷ ds) b d enough)
  sending_by origin base s ds o b d false fits =
      let count : origin.sent ≡ length before.told.sent = o.sent ∙ (holds.knows runs).count in
      let room : nat_le (length before.told.sent + length (due policy before (Msg side m))) most_sent ≡ false =
      ap₂ (λ (n : ℕ) (xs : List Sent). nat_le (n + length xs) most_sent) (sym count) d ∙ fits in
      subst (λ (i : History). HoldsSides policy (ended_by SerialsSpent origin) i taken)
      (sym (followed policy items (Msg side m) ends ∙ ap (λ (i : Item). i ∷ items) (placed_spent policy before (Msg side m) room)))
      (ended_sides policy view origin items taken SerialsSpent o.bus_side o.client_side holds)

  pub sending_holds : (origin base : SessionView) (ds : List Sent) → IsOrigin origin → Based base → due policy before (Msg side m) ≡ ds → HoldsSides policy (sending ds origin base) (followed_by policy items (Msg side m)) taken
  sending_holds origin base [] o b d =
      let fits = (holds.knows runs).fits in
      let none : length (due policy before (Msg side m)) ≡ 0 = ap length d in
      let room : nat_le (length before.told.sent + length (due policy before (Msg side m))) most_sent ≡ true = grind (arith, nat_tests, none, fits) in
      subst (λ (i : History). HoldsSides policy base i taken)
      (sym (followed policy items (Msg side m) ends ∙ ap (λ (i : Item). i ∷ items) (placed_itself policy before (Msg side m) room)))
      (none_due base b d)
  sending_holds origin base (s ∷ ds) o b d = sending_by origin base s ds o b d (nat_le (origin.sent + length (s ∷ ds)) most_sent) refl
