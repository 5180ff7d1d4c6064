-- A message and the note on it: what the code does with it, and that the session then holds the notes of its history.
use Rattle.std.proofs.Common.{ℕ, ◌≡◌, ◌+◌, nat_le, Bool, true, false, cond, List, [], ◌∷◌, ◌++◌, length, Option, Some, None, refl, ap, ap₂, ◌∙◌, sym, subst, append_assoc, inl, inr}
use Rattle.std.specs.Prelude.{◌&&◌, is_none, is_some, not, IsTrue}
use Rattle.std.proofs.Math.Bool.{and-false}
use Rattle.dbus_header.specs.Message.{Message, spell}
use Rattle.policy_args.specs.Policy.{Policy}
use Rattle.policy_view.specs.History.{followed_by, most_sent, placed}
use Rattle.policy_view.specs.Notes.{Note, decision_on, notes, notes_made, numbered}
use Rattle.policy_view.specs.Past.{History, Item, Msg, Ended, due, past}
use Rattle.policy_view.specs.declared.Decision.{Decision}
use Rattle.policy_view.specs.declared.Decision.TheVariants.{Judged, Shown}
use Rattle.policy_view.specs.declared.End.{End}
use Rattle.policy_view.specs.declared.End.TheVariants.{SerialsSpent}
use Rattle.policy_view.specs.declared.Mode.{Mode}
use Rattle.policy_view.specs.declared.Side.{Side}
use Rattle.policy_view.specs.declared.Side.TheVariants.{Client, Bus}
use Rattle.verdicts.proofs.KnowledgeLaws.{CoversNoUniqueName}
use Rattle.proxy_core.specs.Sessions.{SessionView, Taken, Holds}
use Rattle.proxy_core.specs.Messages.{decision_in, with_message, with_note, with_note_on, with_noted_message}
use Rattle.proxy_core.specs.Steps.{TookMessage}
use Rattle.proxy_core.proofs.Keeping.{count_left, message_kept, notes_apart, notes_left, sides_kept}
use Rattle.proxy_core.proofs.Placing.{HoldsNotes, HoldsSides, followed, knows_still, placed_itself, placed_spent, sides_of}
use Rattle.proxy_core.proofs.ClientSteps.{client_holds, verdict_is}
use Rattle.proxy_core.proofs.BusSteps.{bus_holds, showing_is}

-- ---- if a note is made

-- by whether the session makes notes, and whether it runs
noted_by : (side : Side) (m : Message) (decision : Decision) (view : SessionView) (makes runs : Bool) → view.mode.notes ≡ makes → is_none view.ended ≡ runs →
    with_note_on side m decision view ≡ cond (makes && runs) (with_note side m decision view) view
noted_by side m decision view makes runs a b = ap₂ (λ (x y : Bool). cond (x && y) (with_note side m decision view) view) a b

none_made : (side : Side) (m : Message) (decision : Decision) (view : SessionView) → view.mode.notes ≡ false → with_note_on side m decision view ≡ view
none_made side m decision view off = noted_by side m decision view false (is_none view.ended) off refl

-- ---- what the code does

not_some : (o : Option End) (b : Bool) → is_some o ≡ b → is_none o ≡ not b
not_some None b e = ap not e
not_some (Some end) b e = ap not e

module _ (policy : Policy) (side : Side) (m : Message) (old : SessionView) where
  abbrev new_view : SessionView
  new_view = with_message policy side m old

  pub unnoted : (new : SessionView) → old.mode.notes ≡ false → TookMessage (with_message policy side m old) old new → TookMessage (with_noted_message policy side m old) old new
  unnoted new off took =
      subst (λ (v : SessionView). TookMessage v old new)
      (sym (none_made side m (decision_in policy side m old) new_view (ap (λ (x : Mode). x.notes) (message_kept policy side m old).mode ∙ off))) took

  -- the notes were outside while it was processed
  apart_as : (mid after : SessionView) → mid ≡ record old { notes = [] } → after ≡ with_message policy side m mid → after ≡ record new_view { notes = []; numbered = old.numbered }
  apart_as mid after out done = done ∙ ap (λ (v : SessionView). with_message policy side m v) out ∙ notes_apart policy side m old [] old.numbered

  makes_still : old.mode.notes ≡ true → new_view.mode.notes ≡ true
  makes_still makes = ap (λ (x : Mode). x.notes) (message_kept policy side m old).mode ∙ makes

  -- the decision doesn't rest on the notes
  decision_apart : (s : Side) → decision_in policy s m (record old { notes = [] }) ≡ decision_in policy s m old
  decision_apart Client = refl
  decision_apart Bus = refl

  pub note_as : (mid : SessionView) (note : Note) (number : ℕ) (frame : List ℕ) (decision : Decision) → note ≡ record { number = number; side = side; frame = frame; decision = decision } → number ≡ old.numbered + 1 → frame ≡ spell m →
      mid ≡ record old { notes = [] } → decision ≡ decision_in policy side m mid → note ≡ record { number = old.numbered + 1; side = side; frame = spell m; decision = decision_in policy side m old }
  note_as mid note number frame decision is number_is frame_is out decision_is =
      is
      ∙ ap₂ (λ (n : ℕ) (bytes : List ℕ). record { number = n; side = side; frame = bytes; decision = decision }) number_is frame_is
      ∙ ap (λ (d : Decision). record { number = old.numbered + 1; side = side; frame = spell m; decision = d }) (decision_is ∙ ap (λ (v : SessionView). decision_in policy side m v) out ∙ decision_apart side)

  -- they are put back with one more
  pub put_back : (mid after new : SessionView) (note : Note) → old.mode.notes ≡ true → mid ≡ record old { notes = [] } → is_some after.ended ≡ false → TookMessage (with_message policy side m mid) mid after →
      new ≡ record after { notes = old.notes ++ note ∷ []; numbered = note.number } → note ≡ record { number = old.numbered + 1; side = side; frame = spell m; decision = decision_in policy side m old } →
      TookMessage (with_noted_message policy side m old) old new
  put_back mid after new note makes out runs (inl done) is note_is =
      let same = apart_as mid after out done in
      let running : is_none new_view.ended ≡ true = sym (ap (λ (v : SessionView). is_none v.ended) same) ∙ not_some after.ended false runs in
      inl (
      is
      ∙ ap (λ (v : SessionView). record v { notes = old.notes ++ note ∷ []; numbered = note.number }) same
      ∙ ap (λ (n : Note). record new_view { notes = old.notes ++ n ∷ []; numbered = n.number }) note_is
      ∙ ap₂ (λ (ns : List Note) (k : ℕ). record new_view { notes = ns ++ record { number = k + 1; side = side; frame = spell m; decision = decision_in policy side m old } ∷ []; numbered = k + 1 })
      (sym (notes_left policy side m old)) (sym (count_left policy side m old))
      ∙ sym (noted_by side m (decision_in policy side m old) new_view true true (makes_still makes) running)
      )
  put_back mid after new note makes out runs (inr refused) is note_is = absurd (let e : true ≡ false = sym (ap is_some refused.ended) ∙ runs in cc)

  -- or unchanged, if the session ended
  pub given_back : (mid after new : SessionView) → old.mode.notes ≡ true → old.ended ≡ None → mid ≡ record old { notes = [] } → is_some after.ended ≡ true → TookMessage (with_message policy side m mid) mid after →
      new ≡ record after { notes = old.notes } → TookMessage (with_noted_message policy side m old) old new
  given_back mid after new makes runs out ended (inl done) is =
      let same = apart_as mid after out done in
      let stopped : is_none new_view.ended ≡ false = sym (ap (λ (v : SessionView). is_none v.ended) same) ∙ not_some after.ended true ended in
      inl (
      is
      ∙ ap (λ (v : SessionView). record v { notes = old.notes }) same
      ∙ ap₂ (λ (ns : List Note) (k : ℕ). record new_view { notes = ns; numbered = k }) (sym (notes_left policy side m old)) (sym (count_left policy side m old))
      ∙ sym (noted_by side m (decision_in policy side m old) new_view true false (makes_still makes) stopped)
      )
  given_back mid after new makes runs out ended (inr refused) is = inr (record {
    running = runs;
    ended = ap (λ (v : SessionView). v.ended) is ∙ refused.ended;
    kept = sides_kept old mid after new (record { notes = []; numbered = old.numbered; watches = old.watches; visible = old.visible })
        (record { notes = old.notes; numbered = after.numbered; watches = after.watches; visible = after.visible }) out is refused.kept refl (refused.kept.numbered ∙ ap (λ (v : SessionView). v.numbered) out)
        (refused.kept.watches ∙ ap (λ (v : SessionView). v.watches) out) (refused.kept.visible ∙ ap (λ (v : SessionView). v.visible) out);
  })

-- ---- what the session holds then

module _ (policy : Policy) (apart : CoversNoUniqueName policy) (view : SessionView) (items : History) (taken : Taken) (side : Side) (m : Message) (runs : view.ended ≡ None) (holds : Holds policy view items taken) where
  abbrev new : SessionView
  new = with_message policy side m view

  abbrev decision : Decision
  decision = decision_in policy side m view

  sides : HoldsSides policy view items taken
  sides = sides_of policy view items taken holds

  -- what is known represents the past
  decided : (s : Side) → decision_in policy s m view ≡ decision_on policy (past policy items) s m
  decided Client = ap Judged (verdict_is policy apart view items taken m runs sides)
  decided Bus = ap Shown (showing_is policy apart view items taken m runs sides)

  sides_hold : (s : Side) → HoldsSides policy (with_message policy s m view) (followed_by policy items (Msg s m)) taken
  sides_hold Client = client_holds policy apart view items taken m runs sides
  sides_hold Bus = bus_holds policy apart view items taken m runs sides

  -- the notes so far are still there
  mode_kept : new.mode ≡ view.mode
  mode_kept = (message_kept policy side m view).mode

  notes_kept : taken.notes ++ new.notes ≡ notes_made new.mode policy items
  notes_kept = ap (λ (ns : List Note). taken.notes ++ ns) (notes_left policy side m view) ∙ holds.noted ∙ ap (λ (mode : Mode). notes_made mode policy items) (sym mode_kept)

  count_kept : IsTrue new.mode.notes → new.numbered ≡ (numbered policy items).1
  count_kept makes = count_left policy side m view ∙ holds.count (sym (ap (λ (mode : Mode). mode.notes) mode_kept) ∙ makes)

  -- if the message gets its place, there is one more note if the session makes notes
  placed_holds : (makes : Bool) → new.mode.notes ≡ makes → HoldsSides policy new (Msg side m ∷ items) taken → HoldsNotes policy (with_note_on side m decision new) (Msg side m ∷ items) taken
  unfolding numbered
  placed_holds false off s =
      subst (λ (v : SessionView). HoldsNotes policy v (Msg side m ∷ items) taken) (sym (none_made side m decision new off))
      (record {
        for_bus = s.for_bus;
        for_client = s.for_client;
        end_is = s.end_is;
        noted = notes_kept ∙ made_none (notes policy items) (notes policy (Msg side m ∷ items)) off;
        count = λ makes. absurd (let e : true ≡ false = sym makes ∙ off in cc);
        knows = s.knows;
      })
    where
      made_none : (one two : List Note) → new.mode.notes ≡ false → cond new.mode.notes one [] ≡ cond new.mode.notes two []
      made_none one two off = ap (λ (b : Bool). cond b one []) off ∙ sym (ap (λ (b : Bool). cond b two []) off)
  placed_holds true on s =
      let running : is_none new.ended ≡ true = ap is_none (s.end_is ∙ sym holds.end_is ∙ runs) in
      let so_far : taken.notes ++ new.notes ≡ notes policy items = notes_kept ∙ ap (λ (b : Bool). cond b (notes policy items) []) on in
      subst (λ (v : SessionView). HoldsNotes policy v (Msg side m ∷ items) taken) (sym (noted_by side m decision new true true on running))
      (record {
        for_bus = s.for_bus;
        for_client = s.for_client;
        end_is = s.end_is;
        noted =
            sym (append_assoc taken.notes new.notes (record { number = new.numbered + 1; side = side; frame = spell m; decision = decision } ∷ []))
            ∙ ap₂ (λ (ns : List Note) (k : ℕ). ns ++ record { number = k + 1; side = side; frame = spell m; decision = decision } ∷ []) so_far (count_kept on)
            ∙ ap (λ (d : Decision). notes policy items ++ record { number = (numbered policy items).1 + 1; side = side; frame = spell m; decision = d } ∷ []) (decided side)
            ∙ sym (ap (λ (b : Bool). cond b (notes policy (Msg side m ∷ items)) []) on);
        count = λ makes. ap (λ (k : ℕ). k + 1) (count_kept makes);
        knows = λ e. knows_still policy new _ _ refl refl refl refl (s.knows e);
      })

  -- and none if the session ended instead
  spent_holds : HoldsSides policy new (Ended SerialsSpent ∷ items) taken → HoldsNotes policy (with_note_on side m decision new) (Ended SerialsSpent ∷ items) taken
  unfolding numbered
  spent_holds s =
      let stopped : is_none new.ended ≡ false = ap is_none s.end_is in
      subst (λ (v : SessionView). HoldsNotes policy v (Ended SerialsSpent ∷ items) taken)
      (sym (noted_by side m decision new new.mode.notes false refl stopped ∙ ap (λ (b : Bool). cond b (with_note side m decision new) new) (and-false new.mode.notes)))
      (record { for_bus = s.for_bus; for_client = s.for_client; end_is = s.end_is; noted = notes_kept; count = count_kept; knows = s.knows })

  pub noted_holds : HoldsNotes policy (with_noted_message policy side m view) (followed_by policy items (Msg side m)) taken
  noted_holds = by (nat_le (length (past policy items).told.sent + length (due policy (past policy items) (Msg side m))) most_sent) refl
    where
      first : followed_by policy items (Msg side m) ≡ placed policy (past policy items) (Msg side m) ∷ items
      first = followed policy items (Msg side m) (sym holds.end_is ∙ runs)

      by : (fits : Bool) → nat_le (length (past policy items).told.sent + length (due policy (past policy items) (Msg side m))) most_sent ≡ fits →
          HoldsNotes policy (with_noted_message policy side m view) (followed_by policy items (Msg side m)) taken
      by true fits =
          let is = first ∙ ap (λ (i : Item). i ∷ items) (placed_itself policy (past policy items) (Msg side m) fits) in
          subst (λ (i : History). HoldsNotes policy (with_noted_message policy side m view) i taken) (sym is)
          (placed_holds new.mode.notes refl (subst (λ (i : History). HoldsSides policy new i taken) is (sides_hold side)))
      by false fits =
          let is = first ∙ ap (λ (i : Item). i ∷ items) (placed_spent policy (past policy items) (Msg side m) fits) in
          subst (λ (i : History). HoldsNotes policy (with_noted_message policy side m view) i taken) (sym is)
          (spent_holds (subst (λ (i : History). HoldsSides policy new i taken) is (sides_hold side)))
