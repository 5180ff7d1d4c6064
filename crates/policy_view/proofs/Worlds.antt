-- All that a history of a session that filters gives out is a function of its visible part.
use Rattle.std.proofs.Common.{ℕ, ◌≡◌, ◌+◌, Bool, true, false, if◌then◌else◌, List, [], ◌∷◌, ◌++◌, length, map, flat_map, fold, Option, Some, None, is_some, option_map, refl, ap, ◌∙◌, sym, ◌⊎◌, inl, inr, append-nil, subst}
use Rattle.std.proofs.lemmas.List.Sums.{fold-append}
use Rattle.std.specs.List.{AllByRecursion}
use Rattle.dbus_header.specs.Kinds.{Kind, Call, Return, Error, Signal, Other, kind_of}
use Rattle.dbus_header.specs.Message.{Message, destination, reply_serial, sender, spell, text_list, three_texts, with_reply_serial}
use Rattle.dbus_names.specs.Texts.{Text}
use Rattle.policy_args.specs.Levels.{level_of}
use Rattle.policy_args.specs.Policy.{Policy}
use Rattle.policy_args.specs.declared.fact.Fact.TheVariants.{Owned}
use Rattle.policy_args.specs.declared.Level.{Level}
use Rattle.reply_ledger.specs.declared.kind.Kind.{Kind as Expected}
use Rattle.reply_ledger.specs.declared.kind.Kind.TheVariants as expects
use Rattle.sasl_watch.specs.Lines.{for_bus}
use Rattle.policy_view.specs.Knowledge.{knowledge}
use Rattle.policy_view.specs.Own.{answer_in_place}
use Rattle.policy_view.specs.Sent.{OwnOwner, Sent, Told, answered, call_at, expected_of, if_expected, is_used, owed, sent_at, spelled_from}
use Rattle.policy_view.specs.Verdicts.{number_or_0}
use Rattle.policy_view.specs.Shown.{BusRole, NoRole, Unexpected, MatchAnswer, OwnerAnswer, NamesAnswer, PingAnswer, NameList, HelloAnswer, OtherAnswer, CallIn, OwnerChange, SignalIn, BroadcastIn, bus_role, bus_role_at, cut, is_owner_change, may_broadcast, role_of_reply, role_of_signal, seen, seen_as, showing, showing_at, shown}
use Rattle.policy_view.specs.Past.{Item, Line, Msg, Raw, Ended, History, after, due, due_at, due_on, fact_of, has_greeted, judged, names_due, past, returned_names, role, with_bus, with_client}
use Rattle.policy_view.specs.History.{end_of}
use Rattle.policy_view.specs.Outputs.{bus_bytes, client_bytes, seen_in, seen_of, to_bus, to_client}
use Rattle.policy_view.specs.Visible.{Visible, VisibleLine, FromClient, ShownWhole, ShownCut, PingAnswered, OwnerAnswered, NamesAnswered, Closed, names_asked, part, position_of, visible_as, visible_of}
use Rattle.policy_view.specs.Laws.{SameOnBothSides}
use Rattle.policy_view.specs.declared.Side.TheVariants.{Client, Bus}
use Rattle.policy_view.specs.declared.End.{End}
use Rattle.policy_view.specs.declared.Showing.TheVariants.{Whole, Hide}
use Rattle.policy_view.specs.declared.Reason.TheVariants.{SenderNotTalk}
use Rattle.policy_view.proofs.Covered.{change_cases}
use Rattle.policy_view.proofs.Filtered.{IsNotRaw}

-- what is known after a history and what it gave out, except for the answers that it used up
record World : Type 0 where
  told : Told
  bus_side : List ℕ
  seen_side : List Message
  client_side : List ℕ
  ended : Option End

abbrev world_of : Policy → History → World
world_of policy items = record {
  told = (past policy items).told;
  bus_side = bus_bytes policy items;
  seen_side = seen_in policy items;
  client_side = client_bytes policy items;
  ended = end_of items;
}

-- ---- what one element of the visible part does to a world

abbrev seen_by : Policy → World → Message → BusRole → List Message
seen_by policy w m r = seen_as (level_of policy w.told.facts) m (showing_at policy (knowledge policy w.told) m r)

-- a world with a message of the bus in this role
abbrev with_message : Policy → World → Message → BusRole → World
with_message policy w m r = record {
  told = with_bus policy m r w.told;
  bus_side = w.bus_side ++ spelled_from (length w.told.sent + 1) (due_at policy m r);
  seen_side = w.seen_side ++ seen_by policy w m r;
  client_side = w.client_side ++ flat_map spell (seen_by policy w m r);
  ended = w.ended;
}

-- what the answer to a sent message would be for, used up or not
abbrev expected_at : World → Option ℕ → Option Expected
expected_at w r = option_map expected_of (call_at w.told r)

abbrev expected_in : World → ℕ → Option Expected
expected_in w position = option_map expected_of (if_expected (sent_at w.told.sent position))

-- the role of a message whose answer wasn't used up
abbrev fresh_role : World → Message → BusRole
fresh_role w m = bus_role_at (kind_of m) m (expected_at w (reply_serial m))

abbrev with_seen : World → List Message → World
with_seen w ms = record w { seen_side = w.seen_side ++ ms; client_side = w.client_side ++ flat_map spell ms }

abbrev with_list : World → Message → Option Expected → World
with_list w m (Some (expects.Names serial)) = with_seen w (with_reply_serial serial m ∷ [])
with_list w m _ = w

abbrev with_ping : World → ℕ → Option Expected → World
with_ping w answer (Some (expects.Ping serial order what)) = with_seen w (answer_in_place order serial answer what ∷ [])
with_ping w answer _ = w

abbrev with_owner : World → Option Text → Option Expected → World
with_owner w owner (Some (expects.OwnOwner name)) = record w { told = record w.told { facts = w.told.facts ++ fact_of (Owned name) owner } }
with_owner w owner _ = w

abbrev owners_asked : Option (List Text) → List Sent
owners_asked None = []
owners_asked (Some names) = map OwnOwner names

abbrev with_asked : World → Option (List Text) → World
with_asked w names = record w {
  told = record w.told { sent = w.told.sent ++ owners_asked names };
  bus_side = w.bus_side ++ spelled_from (length w.told.sent + 1) (owners_asked names);
}

abbrev follow : Policy → World → Visible → World
follow policy w (VisibleLine Client bytes) = record w { bus_side = w.bus_side ++ for_bus bytes }
follow policy w (VisibleLine Bus bytes) = record w { client_side = w.client_side ++ bytes }
follow policy w (FromClient m) = record w {
  told = with_client policy m (judged policy w.told m) w.told;
  bus_side = w.bus_side ++ spelled_from (length w.told.sent + 1) (due_on policy (has_greeted w.told.sent) m (judged policy w.told m));
}
follow policy w (ShownWhole m) = with_message policy w m (fresh_role w m)
follow policy w (ShownCut m) = with_list w m (expected_at w (reply_serial m))
follow policy w (PingAnswered position serial) = with_ping w serial (expected_in w position)
follow policy w (OwnerAnswered position owner) = with_owner w owner (expected_in w position)
follow policy w (NamesAnswered position names) = with_asked w names
follow policy w (Closed end) = record w { ended = Some end }

-- adding nothing changes nothing
idle : (w : World) → record {
  told = record { facts = w.told.facts ++ []; sent = w.told.sent ++ []; called = w.told.called ++ []; replied = w.told.replied };
  bus_side = w.bus_side ++ [];
  seen_side = w.seen_side ++ [];
  client_side = w.client_side ++ [];
  ended = w.ended;
} ≡ w
idle w = simp append-nil

-- ---- what follows from the role of the answer

abbrev told_by : BusRole → Option Expected → Option Expected
told_by (OwnerAnswer name) x = Some (expects.OwnOwner name)
told_by NamesAnswer x = Some expects.OwnNames
told_by (PingAnswer serial order what) x = Some (expects.Ping serial order what)
told_by (NameList serial) x = Some (expects.Names serial)
told_by _ x = x

signal_tells : (m : Message) (x : Option Expected) → told_by (role_of_signal m) x ≡ x
signal_tells m x = by (is_owner_change m) (is_some (destination m))
  where
    by : (a b : Bool) → told_by (if a then OwnerChange else (if b then SignalIn else BroadcastIn)) x ≡ x
    by true b = refl
    by false true = refl
    by false false = refl

reply_tells : (is_return : Bool) (x : Option Expected) → told_by (role_of_reply is_return x) x ≡ x
reply_tells b None = refl
reply_tells b (Some (expects.Call serial)) = refl
reply_tells b (Some (expects.Hello serial)) = refl
reply_tells true (Some (expects.Names serial)) = refl
reply_tells false (Some (expects.Names serial)) = refl
reply_tells b (Some (expects.Ping serial order what)) = refl
reply_tells b (Some expects.OwnMatch) = refl
reply_tells b (Some (expects.OwnOwner name)) = refl
reply_tells b (Some expects.OwnNames) = refl

role_tells : (k : Kind) (m : Message) (x : Option Expected) → told_by (bus_role_at k m x) x ≡ x
role_tells Call m x = refl
role_tells Return m x = reply_tells true x
role_tells Error m x = reply_tells false x
role_tells Signal m x = signal_tells m x
role_tells Other m x = refl

-- what was answered, from the role
answer_is : (w : World) (m : Message) (r : BusRole) → fresh_role w m ≡ r → told_by r (expected_at w (reply_serial m)) ≡ expected_at w (reply_serial m)
answer_is w m r e =
    subst (λ (r : BusRole). told_by r (expected_at w (reply_serial m)) ≡ expected_at w (reply_serial m)) e
    (role_tells (kind_of m) m (expected_at w (reply_serial m)))

-- the position of an answer names the same call
position_same : (w : World) (m : Message) → expected_in w (position_of m) ≡ expected_at w (reply_serial m)
unfolding call_at
position_same w m = by (reply_serial m)
  where
    by : (r : Option ℕ) → option_map expected_of (if_expected (sent_at w.told.sent (number_or_0 r))) ≡ option_map expected_of (call_at w.told r)
    by None = refl
    by (Some n) = refl

owners_same : (policy : Policy) (names : Option (List Text)) → owners_asked (names_asked policy names) ≡ names_due policy names
owners_same policy None = refl
owners_same policy (Some names) = refl

broadcast_cases : (b : Bool) → ((if b then Whole else Hide SenderNotTalk) ≡ Whole) ⊎ ((if b then Whole else Hide SenderNotTalk) ≡ Hide SenderNotTalk)
broadcast_cases true = inl refl
broadcast_cases false = inr refl

-- a list that is cut answers the same call
cut_answers : (level : Text → Level) (m : Message) → reply_serial (cut level m) ≡ reply_serial m
unfolding cut
cut_answers level m = refl

-- ---- a message of the bus

module _ (policy : Policy) where
  -- its elements
  abbrev elements : World → Message → BusRole → List Visible
  elements w m r = visible_as policy (level_of policy w.told.facts) m r (showing_at policy (knowledge policy w.told) m r)

  -- they do what it does in its role
  step_at : (w : World) (m : Message) (r : BusRole) → fresh_role w m ≡ r → fold (follow policy) w (elements w m r) ≡ with_message policy w m r
  step_at w m NoRole e = sym (idle w)
  step_at w m Unexpected e = sym (idle w)
  step_at w m MatchAnswer e = sym (idle w)
  step_at w m (OwnerAnswer name) e =
      let t : expected_in w (position_of m) ≡ Some (expects.OwnOwner name) = position_same w m ∙ sym (answer_is w m (OwnerAnswer name) e) in
      rw t (simp append-nil)
  step_at w m NamesAnswer e = rw (owners_same policy (returned_names m)) (simp append-nil)
  step_at w m (PingAnswer serial order what) e =
      let t : expected_in w (position_of m) ≡ Some (expects.Ping serial order what) = position_same w m ∙ sym (answer_is w m (PingAnswer serial order what) e) in
      rw t (simp append-nil)
  step_at w m (NameList serial) e = by (text_list m) refl
    where
      answers_it : expected_at w (reply_serial (cut (level_of policy w.told.facts) m)) ≡ Some (expects.Names serial)
      answers_it = ap (expected_at w) (cut_answers (level_of policy w.told.facts) m) ∙ sym (answer_is w m (NameList serial) e)

      by : (names : Option (List Text)) → text_list m ≡ names → fold (follow policy) w (elements w m (NameList serial)) ≡ with_message policy w m (NameList serial)
      by None t = rw t (sym (idle w))
      by (Some names) t = rw (t, answers_it) (simp append-nil)
  step_at w m (HelloAnswer serial) e = ap (with_message policy w m) e
  step_at w m (OtherAnswer serial) e = ap (with_message policy w m) e
  step_at w m CallIn e = ap (with_message policy w m) e
  step_at w m OwnerChange e =
      elim (change_cases policy w.told (three_texts m)) [
        | inl s ↦ rw s (ap (with_message policy w m) e ∙ rw s refl)
        | inr (reason, s, o) ↦ rw (s, o) (sym (idle w))
      ]
  step_at w m SignalIn e = ap (with_message policy w m) e
  step_at w m BroadcastIn e =
      elim (broadcast_cases (may_broadcast policy (knowledge policy w.told) m (sender m))) [
        | inl s ↦ rw s (ap (with_message policy w m) e ∙ rw s refl)
        | inr s ↦ rw s (sym (idle w))
      ]

  step_unexpected : (w : World) (m : Message) → fold (follow policy) w (elements w m Unexpected) ≡ with_message policy w m Unexpected
  step_unexpected w m = sym (idle w)

  -- if the answer was used up, the message is erased
  step_used : (w : World) (m : Message) (k : Kind) → kind_of m ≡ k → fold (follow policy) w (elements w m (bus_role_at k m None)) ≡ with_message policy w m (bus_role_at k m None)
  step_used w m Call e = step_at w m CallIn (rw e refl)
  step_used w m Return e = step_unexpected w m
  step_used w m Error e = step_unexpected w m
  step_used w m Signal e = step_at w m (role_of_signal m) (rw e refl)
  step_used w m Other e = step_at w m NoRole (rw e refl)

  step_bus : (w : World) (m : Message) (was_used : Bool) →
      fold (follow policy) w (elements w m (bus_role_at (kind_of m) m (if was_used then None else expected_at w (reply_serial m))))
      ≡ with_message policy w m (bus_role_at (kind_of m) m (if was_used then None else expected_at w (reply_serial m)))
  step_bus w m true = step_used w m (kind_of m) refl
  step_bus w m false = step_at w m (fresh_role w m) refl

  -- ---- a history

  step : (before : History) (item : Item) → IsNotRaw item → fold (follow policy) (world_of policy before) (visible_of policy (past policy before) item) ≡ world_of policy (item ∷ before)
  unfolding visible_of past after bus_bytes client_bytes seen_in to_bus to_client seen_of due seen shown showing role bus_role answered
  step before (Line Client bytes) no_raw = simp append-nil
  step before (Line Bus bytes) no_raw = simp append-nil
  step before (Msg Client m) no_raw = simp append-nil
  step before (Msg Bus m) no_raw = step_bus (world_of policy before) m (is_used (past policy before).used (reply_serial m))
  step before (Raw side bytes) no_raw = absurd no_raw
  step before (Ended end) no_raw = simp append-nil

  world_of_part : (items : History) → AllByRecursion IsNotRaw items → world_of policy items ≡ fold (follow policy) (world_of policy []) (part policy items)
  unfolding part
  world_of_part [] no_raw = refl
  world_of_part (item ∷ before) no_raw =
      sym (step before item no_raw.0)
      ∙ ap (λ (w : World). fold (follow policy) w (visible_of policy (past policy before) item)) (world_of_part before no_raw.1)
      ∙ sym (fold-append (follow policy) (world_of policy []) (part policy before) (visible_of policy (past policy before) item))

  pub worlds : (one other : History) → AllByRecursion IsNotRaw one → AllByRecursion IsNotRaw other → part policy one ≡ part policy other → SameOnBothSides policy one other
  worlds one other one_no_raw other_no_raw e =
      let same : world_of policy one ≡ world_of policy other = world_of_part one one_no_raw ∙ ap (fold (follow policy) (world_of policy [])) e ∙ sym (world_of_part other other_no_raw) in
      record {
        sent = ap (λ (w : World). w.told.sent) same;
        seen = ap (λ (w : World). w.seen_side) same;
        to_bus = ap (λ (w : World). w.bus_side) same;
        to_client = ap (λ (w : World). w.client_side) same;
        ended = ap (λ (w : World). w.ended) same;
        known = record {
          facts = ap (λ (w : World). w.told.facts) same;
          sent = ap (λ (w : World). w.told.sent) same;
          owed = λ to. ap (λ (w : World). owed w.told to) same;
        };
      }
