-- The visible part of a history follows from its given elements and its End.
use Rattle.std.proofs.Common.{ℕ, ◌≡◌, Bool, true, false, if◌then◌else◌, List, [], ◌∷◌, ◌++◌, map, flat_map, Option, Some, None, refl, ap, ap₂, sym, ◌∙◌, append-nil}
use Rattle.std.proofs.lemmas.List.{map-append}
use Rattle.std.specs.Prelude.{option_to_list}
use Rattle.std.specs.List.{AllByRecursion}
use Rattle.std.proofs.lemmas.Grind.{flat_map-append}
use Rattle.dbus_header.specs.Message.{Message, Valid, spell, reply_serial, text_list, three_texts, sender, with_reply_serial}
use Rattle.dbus_header.proofs.ReplyLaws.{spell-with_reply_serial}
use Rattle.dbus_names.specs.Texts.{Text}
use Rattle.policy_args.specs.Levels.{level_of}
use Rattle.policy_args.specs.Policy.{Policy}
use Rattle.policy_args.specs.declared.Level.{Level}
use Rattle.policy_view.specs.Elements.{TellThePart, element_of, elements, given_of}
use Rattle.policy_view.specs.History.{Event, end_of, history}
use Rattle.policy_view.specs.Knowledge.{Knowledge, knowledge}
use Rattle.dbus_header.specs.Contents.{message_in}
use Rattle.dbus_header.proofs.MessageIn.{message-is}
use Rattle.policy_view.specs.Past.{Item, Line, Msg, Raw, Ended, History, past, role}
use Rattle.policy_view.specs.Sent.{Past}
use Rattle.policy_view.specs.Shown.{BusRole, NoRole, Unexpected, MatchAnswer, OwnerAnswer, NamesAnswer, PingAnswer, NameList, HelloAnswer, OtherAnswer, CallIn, OwnerChange, SignalIn, BroadcastIn, cut, may_broadcast, on_names, on_owner_change, sees_change, showing, showing_at, shown}
use Rattle.policy_view.specs.Visible.{Visible, FromClient, ShownWhole, ShownCut, Closed, part, visible_as, visible_of}
use Rattle.policy_view.specs.declared.Showing.TheVariants.{Whole, Hide}
use Rattle.policy_view.specs.declared.Reason.TheVariants.{NameHidden, SenderNotTalk}
use Rattle.policy_view.specs.declared.Mode.{Mode}
use Rattle.policy_view.specs.declared.Side.TheVariants.{Client, Bus}
use Rattle.policy_view.proofs.CutNames.{cut_valid}
use Rattle.policy_view.proofs.Frames.{spelled_message}
use Rattle.policy_view.proofs.Sound.{AllBytes, EndsOnce, HasValid, Runs, once_history, valid_history}

-- the given elements are given again
abbrev Again : List Visible → Type 0
Again vs = map element_of (flat_map given_of vs) ≡ vs

pub message_again : (m : Message) → Valid m → message_in (spell m) ≡ m
message_again m valid = message-is (spell m) m (spelled_message (spell m) m valid refl)

whole_again : (m : Message) → Valid m → Again (ShownWhole m ∷ [])
whole_again m valid = ap (λ (n : Message). ShownWhole n ∷ []) (message_again m valid)

again_in : (policy : Policy) (known : Knowledge) (level : Text → Level) (m : Message) → Valid m → (r : BusRole) → Again (visible_as policy level m r (showing_at policy known m r))
again_in policy known level m valid NoRole = refl
again_in policy known level m valid Unexpected = refl
again_in policy known level m valid MatchAnswer = refl
again_in policy known level m valid (OwnerAnswer name) = refl
again_in policy known level m valid NamesAnswer = refl
again_in policy known level m valid (PingAnswer serial order what) = refl
again_in policy known level m valid (NameList serial) = by (text_list m) refl
  where
    by : (names : Option (List Text)) → text_list m ≡ names → Again (visible_as policy level m (NameList serial) (on_names serial names))
    by None e = refl
    by (Some names) e = ap (λ (n : Message). ShownCut n ∷ []) (message_again (cut level m) (cut_valid level m names e valid))
again_in policy known level m valid (HelloAnswer serial) = whole_again m valid
again_in policy known level m valid (OtherAnswer serial) = whole_again m valid
again_in policy known level m valid CallIn = whole_again m valid
again_in policy known level m valid OwnerChange = by (three_texts m)
  where
    seen : (b : Bool) → Again (visible_as policy level m OwnerChange (if b then Whole else Hide NameHidden))
    seen true = whole_again m valid
    seen false = refl

    by : (texts : Option (Text × Text × Text)) → Again (visible_as policy level m OwnerChange (on_owner_change policy.sloppy known texts))
    by None = refl
    by (Some texts) = seen (sees_change policy.sloppy known texts.0)
again_in policy known level m valid SignalIn = whole_again m valid
again_in policy known level m valid BroadcastIn = by (may_broadcast policy known m (sender m))
  where
    by : (b : Bool) → Again (visible_as policy level m BroadcastIn (if b then Whole else Hide SenderNotTalk))
    by true = whole_again m valid
    by false = refl

-- ---- an item that is no End

abbrev IsNoEnd : Item → Type 0
IsNoEnd (Line side bytes) = Unit {0}
IsNoEnd (Msg side m) = Unit {0}
IsNoEnd (Raw side bytes) = Unit {0}
IsNoEnd (Ended end) = ⊥

pub again_of : (policy : Policy) (before : Past) (item : Item) → HasValid item → IsNoEnd item → Again (visible_of policy before item)
unfolding visible_of shown showing role
again_of policy before (Line side bytes) valid runs = refl
again_of policy before (Msg Client m) valid runs = ap (λ (n : Message). FromClient n ∷ []) (message_again m valid)
again_of policy before (Msg Bus m) valid runs = again_in policy (knowledge policy before.told) (level_of policy before.told.facts) m valid (role before m)
again_of policy before (Raw side bytes) valid runs = refl
again_of policy before (Ended end) valid runs = absurd runs

again_append : (xs ys : List Visible) → Again xs → Again ys → Again (xs ++ ys)
again_append xs ys x y = ap (map element_of) (flat_map-append given_of xs ys) ∙ map-append element_of (flat_map given_of xs) (flat_map given_of ys) ∙ ap₂ (λ (a b : List Visible). a ++ b) x y

first_runs : (item : Item) (before : History) → Runs (item ∷ before) → IsNoEnd item × Runs before
first_runs (Line side bytes) before runs = (tt, runs)
first_runs (Msg side m) before runs = (tt, runs)
first_runs (Raw side bytes) before runs = (tt, runs)
first_runs (Ended end) before runs = absurd runs

again_running : (policy : Policy) (items : History) → AllByRecursion HasValid items → Runs items → Again (part policy items)
unfolding part
again_running policy [] valid runs = refl
again_running policy (item ∷ before) valid runs =
    let parts = first_runs item before runs in
    again_append (part policy before) (visible_of policy (past policy before) item) (again_running policy before valid.1 parts.1) (again_of policy (past policy before) item valid.0 parts.0)

no_end : (items : History) → Runs items → end_of items ≡ None
no_end [] runs = refl
no_end (Line side bytes ∷ before) runs = no_end before runs
no_end (Msg side m ∷ before) runs = no_end before runs
no_end (Raw side bytes ∷ before) runs = no_end before runs
no_end (Ended end ∷ before) runs = absurd runs

told_running : (policy : Policy) (items : History) → AllByRecursion HasValid items → Runs items → TellThePart policy items
unfolding elements
told_running policy items valid runs =
    sym (ap (λ o. map element_of (elements policy items) ++ map Closed (option_to_list o)) (no_end items runs) ∙ append-nil (map element_of (elements policy items)) ∙ again_running policy items valid runs)

told : (policy : Policy) (items : History) → AllByRecursion HasValid items → EndsOnce items → TellThePart policy items
unfolding elements part visible_of
told policy [] valid once = refl
told policy (Line side bytes ∷ before) valid once = told_running policy (Line side bytes ∷ before) valid once
told policy (Msg side m ∷ before) valid once = told_running policy (Msg side m ∷ before) valid once
told policy (Raw side bytes ∷ before) valid once = told_running policy (Raw side bytes ∷ before) valid once
told policy (Ended end ∷ before) valid once =
    ap (λ (vs : List Visible). vs ++ Closed end ∷ [])
    (sym (again_running policy before valid.1 once) ∙ sym (ap (map element_of) (flat_map-append given_of (part policy before) (Closed end ∷ []) ∙ append-nil (flat_map given_of (part policy before)))))

pub told_history : (policy : Policy) (mode : Mode) (events : List Event) → AllBytes events → TellThePart policy (history policy mode events)
told_history policy mode events are = told policy (history policy mode events) (valid_history policy mode events are) (once_history policy mode events)

-- ---- for a session that gives elements as it goes

-- what an item adds to the elements
pub elements_step : (policy : Policy) (before : History) (item : Item) → elements policy (item ∷ before) ≡ elements policy before ++ flat_map given_of (visible_of policy (past policy before) item)
unfolding elements part
elements_step policy before item = flat_map-append given_of (part policy before) (visible_of policy (past policy before) item)

-- a message with the reply serial that it has
pub own_reply : (serial : ℕ) (m : Message) → Valid m → reply_serial m ≡ Some serial → spell (with_reply_serial serial m) ≡ spell m
own_reply serial m valid e = let one = spell-with_reply_serial serial serial m valid e in one.new_is ∙ sym one.old_is

-- a list that is cut with the reply serial that it came with
pub cut_with_own_reply : (level : Text → Level) (serial : ℕ) (names : List Text) (m : Message) → Valid m → text_list m ≡ Some names → reply_serial m ≡ Some serial → spell (with_reply_serial serial (cut level m)) ≡ spell (cut level m)
unfolding cut
cut_with_own_reply level serial names m valid listed e = own_reply serial (cut level m) (cut_valid level m names listed valid) e
