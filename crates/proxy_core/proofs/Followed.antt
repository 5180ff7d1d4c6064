-- What follows in a history: an End, a line, raw bytes, new items.
use Rattle.std.proofs.Common.{ℕ, ◌≡◌, ◌+◌, nat_le, Bool, true, List, [], ◌∷◌, ◌++◌, length, Option, Some, None, refl, ap, ◌∙◌, sym, subst, arith, append-nil, append_assoc}
use Rattle.std.proofs.lemmas.Bool.Decides.{nat_tests}
use Rattle.sasl_watch.specs.Lines.{for_bus}
use Rattle.policy_args.specs.Policy.{Policy}
use Rattle.policy_view.specs.Past.{Item, Line, Raw, Ended, History, past, after, due}
use Rattle.policy_view.specs.History.{raw_item, new_in, end_of, followed_by, followed_unless, followed_by_all, most_sent}
use Rattle.policy_view.specs.Notes.{numbered}
use Rattle.policy_view.specs.Outputs.{bus_bytes, client_bytes, to_bus, to_client}
use Rattle.policy_view.specs.Visible.{visible_of}
use Rattle.policy_view.specs.declared.visible.Visible.{Visible as Element}
use Rattle.policy_view.specs.declared.visible.Visible.TheVariants as element
use Rattle.policy_view.specs.declared.End.{End}
use Rattle.policy_view.specs.declared.Side.{Side}
use Rattle.policy_view.specs.declared.Side.TheVariants.{Client, Bus}
use Rattle.proxy_core.specs.Streams.{StreamView}
use Rattle.proxy_core.specs.Sessions.{SessionView, Taken, Holds, elements_given}
use Rattle.proxy_core.specs.Messages.{ended_by, if_watched}
use Rattle.proxy_core.specs.Steps.{with_stream, visible_with_line, with_raw}
use Rattle.proxy_core.proofs.Placing.{followed, given_more, given_none, knows_still, placed_itself, ended_holds}

pub end_followed : (policy : Policy) (view : SessionView) (items : History) (taken : Taken) (end : End) → view.ended ≡ None →
    Holds policy view items taken → Holds policy (ended_by end view) (followed_by policy items (Ended end)) taken
unfolding due
end_followed policy view items taken end runs h =
    let fits = (h.knows runs).fits in
    let room : nat_le (length (past policy items).told.sent + 0) most_sent ≡ true = grind (arith, nat_tests, fits) in
    subst (λ (i : History). Holds policy (ended_by end view) i taken)
    (sym (followed policy items (Ended end) (sym h.end_is ∙ runs) ∙ ap (λ (i : Item). i ∷ items) (placed_itself policy (past policy items) (Ended end) room)))
    (ended_holds policy view items taken end h)

pub end_ignored : (policy : Policy) (items : History) (item : Item) (end : End) → end_of items ≡ Some end → followed_by policy items item ≡ items
unfolding followed_by
end_ignored policy items item end e = ap (λ (o : Option End). followed_unless o policy items item) e

-- nothing follows an End
pub ignored : (policy : Policy) (items : History) (xs : List Item) (end : End) → end_of items ≡ Some end → followed_by_all policy items xs ≡ items
unfolding followed_by_all
ignored policy items [] end e = refl
ignored policy items (x ∷ xs) end e =
    ap (λ (i : History). followed_by_all policy i xs) (end_ignored policy items x end e) ∙ ignored policy items xs end e

-- ---- a stream has no part in what is held

pub stream_holds : (policy : Policy) (view : SessionView) (items : History) (taken : Taken) (side : Side) (s : StreamView) → Holds policy view items taken → Holds policy (with_stream side s view) items taken
stream_holds policy view items taken Client s h = record {
  for_bus = h.for_bus;
  for_client = h.for_client;
  end_is = h.end_is;
  noted = h.noted;
  count = h.count;
  watched = h.watched;
  knows = λ e. knows_still policy view _ _ refl refl refl refl (h.knows e);
}
stream_holds policy view items taken Bus s h = record {
  for_bus = h.for_bus;
  for_client = h.for_client;
  end_is = h.end_is;
  noted = h.noted;
  count = h.count;
  watched = h.watched;
  knows = λ e. knows_still policy view _ _ refl refl refl refl (h.knows e);
}

-- ---- a line in its place

line_room : (policy : Policy) (view : SessionView) (items : History) (taken : Taken) (side : Side) (l : List ℕ) → view.ended ≡ None → Holds policy view items taken → followed_by policy items (Line side l) ≡ Line side l ∷ items
unfolding due
line_room policy view items taken side l runs h =
    let fits = (h.knows runs).fits in
    let room : nat_le (length (past policy items).told.sent + 0) most_sent ≡ true = grind (arith, nat_tests, fits) in
    followed policy items (Line side l) (sym h.end_is ∙ runs) ∙ ap (λ (i : Item). i ∷ items) (placed_itself policy (past policy items) (Line side l) room)

line_watched : (waits taken : List Element) (watches : Bool) (policy : Policy) (items : History) (side : Side) (l : List ℕ) → taken ++ waits ≡ elements_given watches policy items
    → taken ++ (waits ++ if_watched watches (element.Line side l ∷ [])) ≡ elements_given watches policy (Line side l ∷ items)
unfolding visible_of
line_watched waits taken watches policy items side l so_far =
    sym (append_assoc taken waits (if_watched watches (element.Line side l ∷ [])))
    ∙ ap (λ (es : List Element). es ++ if_watched watches (element.Line side l ∷ [])) so_far
    ∙ given_more watches policy items (Line side l)

pub client_line_holds : (policy : Policy) (view : SessionView) (items : History) (taken : Taken) (l : List ℕ) (s : StreamView) → view.ended ≡ None → Holds policy view items taken
    → Holds policy (record view { bus_side = view.bus_side ++ for_bus l; client = s; visible = visible_with_line Client l view }) (followed_by policy items (Line Client l)) taken
unfolding bus_bytes client_bytes to_bus to_client past after numbered visible_of
client_line_holds policy view items taken l s runs h =
    let v : SessionView = record view { bus_side = view.bus_side ++ for_bus l; client = s; visible = visible_with_line Client l view } in
    subst (λ (i : History). Holds policy v i taken) (sym (line_room policy view items taken Client l runs h))
    (record {
      for_bus = sym (append_assoc taken.bus_side view.bus_side (for_bus l)) ∙ ap (λ (w : List ℕ). w ++ for_bus l) h.for_bus;
      for_client = h.for_client ∙ sym (append-nil (client_bytes policy items));
      end_is = h.end_is;
      noted = h.noted;
      count = h.count;
      watched = line_watched view.visible taken.visible view.watches policy items Client l h.watched;
      knows = λ e. knows_still policy view _ _ refl refl refl refl (h.knows e);
    })

pub bus_line_holds : (policy : Policy) (view : SessionView) (items : History) (taken : Taken) (l : List ℕ) (s : StreamView) → view.ended ≡ None → Holds policy view items taken
    → Holds policy (record view { client_side = view.client_side ++ l; bus = s; visible = visible_with_line Bus l view }) (followed_by policy items (Line Bus l)) taken
unfolding bus_bytes client_bytes to_bus to_client past after numbered visible_of
bus_line_holds policy view items taken l s runs h =
    let v : SessionView = record view { client_side = view.client_side ++ l; bus = s; visible = visible_with_line Bus l view } in
    subst (λ (i : History). Holds policy v i taken) (sym (line_room policy view items taken Bus l runs h))
    (record {
      for_bus = h.for_bus ∙ sym (append-nil (bus_bytes policy items));
      for_client = sym (append_assoc taken.client_side view.client_side l) ∙ ap (λ (w : List ℕ). w ++ l) h.for_client;
      end_is = h.end_is;
      noted = h.noted;
      count = h.count;
      watched = line_watched view.visible taken.visible view.watches policy items Bus l h.watched;
      knows = λ e. knows_still policy view _ _ refl refl refl refl (h.knows e);
    })

-- ---- raw bytes, in their place

raw_room : (policy : Policy) (view : SessionView) (items : History) (taken : Taken) (side : Side) (bytes : List ℕ) → view.ended ≡ None → Holds policy view items taken → followed_by policy items (Raw side bytes) ≡ Raw side bytes ∷ items
unfolding due
raw_room policy view items taken side bytes runs h =
    let fits = (h.knows runs).fits in
    let room : nat_le (length (past policy items).told.sent + 0) most_sent ≡ true = grind (arith, nat_tests, fits) in
    followed policy items (Raw side bytes) (sym h.end_is ∙ runs) ∙ ap (λ (i : Item). i ∷ items) (placed_itself policy (past policy items) (Raw side bytes) room)

raw_holds : (policy : Policy) (view : SessionView) (items : History) (taken : Taken) (side : Side) (bytes : List ℕ) → Holds policy view items taken → Holds policy (with_raw side bytes view) (Raw side bytes ∷ items) taken
unfolding bus_bytes client_bytes to_bus to_client past after numbered visible_of
raw_holds policy view items taken Client bytes h = record {
  for_bus = sym (append_assoc taken.bus_side view.bus_side bytes) ∙ ap (λ (w : List ℕ). w ++ bytes) h.for_bus;
  for_client = h.for_client ∙ sym (append-nil (client_bytes policy items));
  end_is = h.end_is;
  noted = h.noted;
  count = h.count;
  watched = h.watched ∙ given_none view.watches policy items (Raw Client bytes) refl;
  knows = λ e. knows_still policy view _ _ refl refl refl refl (h.knows e);
}
raw_holds policy view items taken Bus bytes h = record {
  for_bus = h.for_bus ∙ sym (append-nil (bus_bytes policy items));
  for_client = sym (append_assoc taken.client_side view.client_side bytes) ∙ ap (λ (w : List ℕ). w ++ bytes) h.for_client;
  end_is = h.end_is;
  noted = h.noted;
  count = h.count;
  watched = h.watched ∙ given_none view.watches policy items (Raw Bus bytes) refl;
  knows = λ e. knows_still policy view _ _ refl refl refl refl (h.knows e);
}

no_raw : (side : Side) (view : SessionView) → view ≡ with_raw side [] view
no_raw Client view = ap (λ (xs : List ℕ). record view { bus_side = xs }) (sym (append-nil view.bus_side))
no_raw Bus view = ap (λ (xs : List ℕ). record view { client_side = xs }) (sym (append-nil view.client_side))

-- if there are any
pub raw_item_holds : (policy : Policy) (view : SessionView) (items : History) (taken : Taken) (side : Side) (bytes : List ℕ) → view.ended ≡ None → Holds policy view items taken → Holds policy (with_raw side bytes view) (followed_by_all policy items (raw_item side bytes)) taken
unfolding followed_by_all
raw_item_holds policy view items taken side [] runs h = subst (λ (v : SessionView). Holds policy v items taken) (no_raw side view) h
raw_item_holds policy view items taken side (byte ∷ bytes) runs h =
    subst (λ (i : History). Holds policy (with_raw side (byte ∷ bytes) view) i taken) (sym (raw_room policy view items taken side (byte ∷ bytes) runs h)) (raw_holds policy view items taken side (byte ∷ bytes) h)

-- ---- new items

pub new_none : {A : Type 0} (xs : List A) → new_in xs xs ≡ []
new_none [] = refl
new_none (x ∷ xs) = new_none xs
