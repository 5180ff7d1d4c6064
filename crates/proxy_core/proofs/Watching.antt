-- What is left of a message in the visible part: what the code keeps of it, and that the session then holds the
-- elements of its history.
use Rattle.std.proofs.Common.{ℕ, ◌≡◌, ◌+◌, nat_le, Bool, true, false, cond, List, [], ◌∷◌, ◌++◌, length, take, flat_map, Option, Some, None, refl, ap, ap₂, ◌∙◌, sym, subst, append-nil, append_assoc, inl, inr}
use Rattle.std.specs.Prelude.{is_none}
use Rattle.dbus_header.specs.Message.{Message}
use Rattle.dbus_names.specs.Texts.{Text}
use Rattle.policy_args.specs.Policy.{Policy}
use Rattle.policy_args.specs.declared.Level.{Level}
use Rattle.policy_view.specs.Elements.{given_of}
use Rattle.policy_view.specs.History.{followed_by, most_sent, placed}
use Rattle.policy_view.specs.Past.{History, Item, Msg, Ended, due, past, role}
use Rattle.policy_view.specs.Shown.{BusRole, shown}
use Rattle.policy_view.specs.Visible.{visible_as, visible_of}
use Rattle.policy_view.specs.declared.End.{End}
use Rattle.policy_view.specs.declared.End.TheVariants.{SerialsSpent}
use Rattle.policy_view.specs.declared.Showing.{Showing}
use Rattle.policy_view.specs.declared.Side.{Side}
use Rattle.policy_view.specs.declared.Side.TheVariants.{Client, Bus}
use Rattle.policy_view.specs.declared.visible.Visible.{Visible as Element}
use Rattle.verdicts.proofs.KnowledgeLaws.{CoversNoUniqueName}
use Rattle.unique_names.specs.Taught.{kept_level}
use Rattle.proxy_core.specs.Sessions.{SessionView, Taken, Holds, elements_given}
use Rattle.proxy_core.specs.Messages.{elements_in, if_watched, unless_ended, with_elements, with_noted_message, with_watched_message}
use Rattle.proxy_core.specs.Steps.{TookMessage}
use Rattle.proxy_core.proofs.Keeping.{noted_kept, sides_kept, visible_apart, visible_left}
use Rattle.proxy_core.proofs.Noting.{noted_holds}
use Rattle.proxy_core.proofs.Placing.{HoldsNotes, HoldsSides, followed, given_more, knows_still, placed_itself, placed_spent, sides_of}
use Rattle.proxy_core.proofs.BusSteps.{level_is, role_is, showing_is}

-- ---- what the code does

if_none : (elements : List Element) (b : Bool) → b ≡ false → [] ≡ if_watched b elements
if_none elements b e = sym (ap (λ (w : Bool). if_watched w elements) e)

with_none : (elements : List Element) (view : SessionView) → view.watches ≡ false → view ≡ with_elements elements view
with_none elements view off = ap (λ (es : List Element). record view { visible = es }) (sym (append-nil view.visible) ∙ ap (λ (es : List Element). view.visible ++ es) (if_none elements view.watches off))

module _ (policy : Policy) (side : Side) (m : Message) (old : SessionView) where
  abbrev noted : SessionView
  noted = with_noted_message policy side m old

  abbrev left : List Element
  left = unless_ended noted.ended (elements_in policy side m old)

  -- a session that doesn't watch keeps nothing
  pub unwatched : (mid new : SessionView) → old.watches ≡ false → mid ≡ old → TookMessage (with_noted_message policy side m mid) mid new → TookMessage (with_watched_message policy side m old) old new
  unwatched mid new off same took =
      subst (λ (v : SessionView). TookMessage v old new) (with_none left noted ((noted_kept policy side m old).watches ∙ off))
      (subst (λ (v : SessionView). TookMessage (with_noted_message policy side m v) v new) same took)

  -- what is kept was outside while the message was processed, and is put back with what is left of the message
  pub put_back : (mid after new : SessionView) (kept : List Element) → old.watches ≡ true → old.ended ≡ None → mid ≡ record old { watches = false; visible = [] } → TookMessage (with_noted_message policy side m mid) mid after →
      kept ≡ old.visible ++ unless_ended after.ended (elements_in policy side m mid) → new ≡ record after { watches = true; visible = kept } → TookMessage (with_watched_message policy side m old) old new
  put_back mid after new kept on runs out (inl done) kept_is is =
      let same : after ≡ record noted { watches = false; visible = [] } = done ∙ ap (λ (v : SessionView). with_noted_message policy side m v) out ∙ visible_apart policy side m old false [] in
      let all : kept ≡ old.visible ++ left = kept_is ∙ ap₂ (λ (a v : SessionView). old.visible ++ unless_ended a.ended (elements_in policy side m v)) same out in
      let watches : noted.watches ≡ true = (noted_kept policy side m old).watches ∙ on in
      inl (
      is
      ∙ ap₂ (λ (a : SessionView) (es : List Element). record a { watches = true; visible = es }) same all
      ∙ ap₂ (λ (w : Bool) (es : List Element). record noted { watches = w; visible = es }) (sym watches)
      (ap₂ (λ (es fs : List Element). es ++ fs) (sym (visible_left policy side m old)) (sym (ap (λ (w : Bool). if_watched w left) watches)))
      )
  put_back mid after new kept on runs out (inr refused) kept_is is = inr (record {
    running = runs;
    ended = ap (λ (v : SessionView). v.ended) is ∙ refused.ended;
    kept = sides_kept old mid after new (record { notes = old.notes; numbered = old.numbered; watches = false; visible = [] })
        (record { notes = after.notes; numbered = after.numbered; watches = true; visible = kept }) out is refused.kept
        (refused.kept.notes ∙ ap (λ (v : SessionView). v.notes) out) (refused.kept.numbered ∙ ap (λ (v : SessionView). v.numbered) out) (sym on)
        (kept_is ∙ ap (λ (o : Option End). old.visible ++ unless_ended o (elements_in policy side m mid)) refused.ended ∙ append-nil old.visible);
  })

-- what is left of a message stays unless the session ended in its place
pub stays_unless : (before es mid new : List Element) (o : Option End) (all : Bool) (n : ℕ) → all ≡ is_none o → mid ≡ before ++ es → n ≡ length before → new ≡ cond all mid (take n mid) → new ≡ before ++ unless_ended o es
stays_unless before es mid new None all n runs mid_is n_is is = is ∙ ap (λ (b : Bool). cond b mid (take n mid)) runs ∙ mid_is
stays_unless before es mid new (Some end) all n runs mid_is n_is is =
    is ∙ ap (λ (b : Bool). cond b mid (take n mid)) runs ∙ ap₂ (λ (k : ℕ) (xs : List Element). take k xs) n_is mid_is ∙ process_first before es ∙ sym (append-nil before)
  where
    process_first : (xs ys : List Element) → take (length xs) (xs ++ ys) ≡ xs
    process_first [] ys = none ys
      where
        none : (zs : List Element) → take 0 zs ≡ []
        none zs = refl
    process_first (x ∷ xs) ys = ap (λ (zs : List Element). x ∷ zs) (process_first xs ys)

-- ---- what the session holds then

module _ (policy : Policy) (apart : CoversNoUniqueName policy) (view : SessionView) (items : History) (taken : Taken) (side : Side) (m : Message) (runs : view.ended ≡ None) (holds : Holds policy view items taken) where
  abbrev new : SessionView
  new = with_noted_message policy side m view

  sides : HoldsSides policy view items taken
  sides = sides_of policy view items taken holds

  -- what is known represents the past
  elements_are : (s : Side) → elements_in policy s m view ≡ flat_map given_of (visible_of policy (past policy items) (Msg s m))
  unfolding visible_of
  elements_are Client = refl
  elements_are Bus =
      ap₂ (λ (r : BusRole) (showing : Showing). flat_map given_of (visible_as policy (kept_level policy view.ids) m r showing))
      (role_is policy apart view items taken m runs sides) (showing_is policy apart view items taken m runs sides)
      ∙ ap (λ (level : Text → Level). flat_map given_of (visible_as policy level m (role (past policy items) m) (shown policy (past policy items) m))) (level_is policy apart view items taken m runs sides)

  -- what was kept so far is still there
  so_far : taken.visible ++ new.visible ≡ elements_given new.watches policy items
  so_far = ap (λ (es : List Element). taken.visible ++ es) (visible_left policy side m view) ∙ holds.watched ∙ ap (λ (w : Bool). elements_given w policy items) (sym (noted_kept policy side m view).watches)

  abbrev Now : History → Type 0
  Now now = Holds policy (with_watched_message policy side m view) now taken

  -- with what is left of the message
  with_left : (now : History) (es : List Element) → unless_ended new.ended (elements_in policy side m view) ≡ es → elements_given new.watches policy items ++ if_watched new.watches es ≡ elements_given new.watches policy now → HoldsNotes policy new now taken → Now now
  with_left now es is more h = record {
    for_bus = h.for_bus;
    for_client = h.for_client;
    end_is = h.end_is;
    noted = h.noted;
    count = h.count;
    watched =
        sym (append_assoc taken.visible new.visible (if_watched new.watches (unless_ended new.ended (elements_in policy side m view))))
        ∙ ap₂ (λ (xs ys : List Element). xs ++ if_watched new.watches ys) so_far is
        ∙ more;
    knows = λ e. knows_still policy new _ _ refl refl refl refl (h.knows e);
  }

  placed_holds : HoldsNotes policy new (Msg side m ∷ items) taken → Now (Msg side m ∷ items)
  placed_holds h =
      let running : new.ended ≡ None = h.end_is ∙ sym holds.end_is ∙ runs in
      with_left (Msg side m ∷ items) (flat_map given_of (visible_of policy (past policy items) (Msg side m)))
      (ap (λ (o : Option End). unless_ended o (elements_in policy side m view)) running ∙ elements_are side) (given_more new.watches policy items (Msg side m)) h

  spent_holds : HoldsNotes policy new (Ended SerialsSpent ∷ items) taken → Now (Ended SerialsSpent ∷ items)
  unfolding visible_of
  spent_holds h =
      with_left (Ended SerialsSpent ∷ items) [] (ap (λ (o : Option End). unless_ended o (elements_in policy side m view)) h.end_is)
      (given_more new.watches policy items (Ended SerialsSpent)) h

  pub watched_holds : Now (followed_by policy items (Msg side m))
  watched_holds = by (nat_le (length (past policy items).told.sent + length (due policy (past policy items) (Msg side m))) most_sent) refl
    where
      held : HoldsNotes policy new (followed_by policy items (Msg side m)) taken
      held = noted_holds policy apart view items taken side m runs holds

      first : followed_by policy items (Msg side m) ≡ placed policy (past policy items) (Msg side m) ∷ items
      first = followed policy items (Msg side m) (sym holds.end_is ∙ runs)

      by : (fits : Bool) → nat_le (length (past policy items).told.sent + length (due policy (past policy items) (Msg side m))) most_sent ≡ fits → Now (followed_by policy items (Msg side m))
      by true fits =
          let is = first ∙ ap (λ (i : Item). i ∷ items) (placed_itself policy (past policy items) (Msg side m) fits) in
          subst Now (sym is) (placed_holds (subst (λ (i : History). HoldsNotes policy new i taken) is held))
      by false fits =
          let is = first ∙ ap (λ (i : Item). i ∷ items) (placed_spent policy (past policy items) (Msg side m) fits) in
          subst Now (sym is) (spent_holds (subst (λ (i : History). HoldsNotes policy new i taken) is held))
