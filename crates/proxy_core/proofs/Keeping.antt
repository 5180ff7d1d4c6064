-- What a message leaves unchanged: the mode, the streams, and what waited before it; and its effect without its note
-- and its element.
use Rattle.std.proofs.Common.{ℕ, ◌≡◌, ◌+◌, Bool, true, false, cond, List, [], ◌∷◌, ◌++◌, length, refl, ap, ap₂, ◌∙◌, sym, append-nil, append_assoc, flat_map, subst}
use Rattle.std.specs.Prelude.{nat_le, ◌&&◌, is_none}
use Rattle.dbus_header.specs.Message.{Message, reply_serial, spell}
use Rattle.policy_args.specs.Policy.{Policy}
use Rattle.policy_view.specs.History.{most_sent}
use Rattle.policy_view.specs.Past.{due_at, due_on, replied_on}
use Rattle.policy_view.specs.Sent.{Exchange, Sent, spelled_from}
use Rattle.policy_view.specs.Shown.{BusRole, bus_role, seen_as, showing_at}
use Rattle.policy_view.specs.Verdicts.{client_role, verdict}
use Rattle.policy_view.specs.Notes.{Note}
use Rattle.policy_view.specs.declared.Decision.{Decision}
use Rattle.policy_view.specs.declared.visible.Visible.{Visible as Element}
use Rattle.policy_view.specs.declared.End.TheVariants.{SerialsSpent}
use Rattle.policy_view.specs.declared.Showing.{Showing}
use Rattle.policy_view.specs.declared.Side.{Side}
use Rattle.policy_view.specs.declared.Side.TheVariants.{Client, Bus}
use Rattle.policy_view.specs.declared.Verdict.{Verdict}
use Rattle.unique_names.specs.Taught.{kept_level}
use Rattle.verdicts.specs.Kept.{expected_at}
use Rattle.proxy_core.specs.Sessions.{SessionView, IsFront, is_memory}
use Rattle.proxy_core.specs.Messages.{decision_in, elements_in, ended_by, if_watched, known, sending, unless_ended, with_elements, with_message, with_note, with_note_on, with_noted_message, with_replied, with_role, with_sent, with_shown, with_told, with_used, with_verdict, with_watched_message, KeepsSides}
use Rattle.proxy_core.specs.Steps.{Grows}

-- ---- fronts

front_all : {A : Type 0} (xs : List A) → IsFront xs xs
front_all xs = record { rest = []; is = append-nil xs }

pub front_more : {A : Type 0} (xs ys : List A) → IsFront xs (xs ++ ys)
front_more xs ys = record { rest = ys; is = refl }

pub front_then : {A : Type 0} (xs ys zs : List A) → IsFront xs ys → IsFront ys zs → IsFront xs zs
front_then xs ys zs p q = record { rest = p.rest ++ q.rest; is = sym (append_assoc xs p.rest q.rest) ∙ ap (λ (w : List _). w ++ q.rest) p.is ∙ q.is }

-- ---- what waits

abbrev pub waits : SessionView → List ℕ × List ℕ × List Note × List Element
waits view = (view.bus_side, view.client_side, view.notes, view.visible)

-- of views in which the same bytes wait
pub grows_as : {a b c d : SessionView} → Grows a b → waits c ≡ waits a → waits d ≡ waits b → Grows c d
grows_as {a = a} {b = b} {c = c} {d = d} g p q = record {
  for_bus = both (ap (λ w. w.0) p) (ap (λ w. w.0) q) g.for_bus;
  for_client = both (ap (λ w. w.1) p) (ap (λ w. w.1) q) g.for_client;
  noted = both (ap (λ w. w.2) p) (ap (λ w. w.2) q) g.noted;
  watched = both (ap (λ w. w.3) p) (ap (λ w. w.3) q) g.watched;
}
  where
    both : {A : Type 0} {xs ys zs ws : List A} → zs ≡ xs → ws ≡ ys → IsFront xs ys → IsFront zs ws
    both {xs = xs} {ws = ws} e f front = subst (λ (vs : List _). IsFront vs ws) (sym e) (subst (λ (vs : List _). IsFront xs vs) (sym f) front)

pub grows_none : (view : SessionView) → Grows view view
grows_none view = record { for_bus = front_all view.bus_side; for_client = front_all view.client_side; noted = front_all view.notes; watched = front_all view.visible }

pub grows_then : (a b c : SessionView) → Grows a b → Grows b c → Grows a c
grows_then a b c p q = record {
  for_bus = front_then a.bus_side b.bus_side c.bus_side p.for_bus q.for_bus;
  for_client = front_then a.client_side b.client_side c.client_side p.for_client q.for_client;
  noted = front_then a.notes b.notes c.notes p.noted q.noted;
  watched = front_then a.visible b.visible c.visible p.watched q.watched;
}

pub bus_grows : (view : SessionView) (more : List ℕ) → Grows view (record view { bus_side = view.bus_side ++ more })
bus_grows view more = record { for_bus = front_more view.bus_side more; for_client = front_all view.client_side; noted = front_all view.notes; watched = front_all view.visible }

pub client_grows : (view : SessionView) (more : List ℕ) → Grows view (record view { client_side = view.client_side ++ more })
client_grows view more = record { for_bus = front_all view.bus_side; for_client = front_more view.client_side more; noted = front_all view.notes; watched = front_all view.visible }

-- if elements are kept too
pub elements_grow : (old new : SessionView) (elements : List Element) → Grows old new → Grows old (with_elements elements new)
elements_grow old new elements g = record {
  for_bus = g.for_bus;
  for_client = g.for_client;
  noted = g.noted;
  watched = front_then old.visible new.visible _ g.watched (front_more new.visible (if_watched new.watches elements));
}

-- ---- a message

-- the mode and streams are unchanged, and what waits follows what waited before; an End that it brings isn't that of
-- refused memory
pub record IsKept (old new : SessionView) : Type 0 where
  pub mode : new.mode ≡ old.mode
  pub watches : new.watches ≡ old.watches
  pub client : new.client ≡ old.client
  pub bus : new.bus ≡ old.bus
  pub grows : Grows old new
  pub remembers : is_memory old.ended ≡ false → is_memory new.ended ≡ false

pub itself : (view : SessionView) → IsKept view view
itself view = record { mode = refl; watches = refl; client = refl; bus = refl; grows = grows_none view; remembers = λ f. f }

spent_kept : (view : SessionView) → IsKept view (ended_by SerialsSpent view)
spent_kept view = record { mode = refl; watches = refl; client = refl; bus = refl; grows = grows_as (grows_none view) refl refl; remembers = λ f. refl }

either : (old x y : SessionView) (b : Bool) → IsKept old x → IsKept old y → IsKept old (cond b x y)
either old x y true k l = k
either old x y false k l = l

-- ---- messages that are sent

sent_kept : (due : List Sent) (old new : SessionView) → IsKept old new → IsKept old (with_sent due new)
sent_kept due old new k = record {
  mode = k.mode;
  watches = k.watches;
  client = k.client;
  bus = k.bus;
  grows = grows_then old new (with_sent due new) k.grows (grows_as (bus_grows new (spelled_from (new.sent + 1) due)) refl refl);
  remembers = k.remembers;
}

pub sending_kept : (due : List Sent) (view new : SessionView) → IsKept view new → IsKept view (sending due view new)
sending_kept [] view new k = k
sending_kept (s ∷ due) view new k =
    either view _ _ (nat_le (view.sent + length (s ∷ due)) most_sent) (sent_kept (s ∷ due) view new k) (spent_kept view)

-- ---- what a message does

replied_kept : (replied : List Exchange) (view : SessionView) → IsKept view (with_replied replied view)
replied_kept replied view = record { mode = refl; watches = refl; client = refl; bus = refl; grows = grows_as (grows_none view) refl refl; remembers = λ f. f }

module _ (policy : Policy) (m : Message) where
  verdict_kept : (v : Verdict) (view : SessionView) → IsKept view (with_verdict policy m v view)
  verdict_kept v view = sending_kept (due_on policy view.greeted m v) view (with_replied (replied_on m (client_role m) v) view) (replied_kept (replied_on m (client_role m) v) view)

  told_kept : (role : BusRole) (showing : Showing) (view : SessionView) → IsKept view (with_told policy m role (with_shown policy m showing view))
  told_kept role showing view = record {
    mode = refl;
    watches = refl;
    client = refl;
    bus = refl;
    grows = grows_as (client_grows view (flat_map spell (seen_as (kept_level policy view.ids) m showing))) refl refl;
    remembers = λ f. f;
  }

  role_kept : (role : BusRole) (view : SessionView) → IsKept view (with_role policy m role view)
  role_kept role view =
      sending_kept (due_at policy m role) view (with_told policy m role (with_shown policy m (showing_at policy (known policy view) m role) view))
      (told_kept role (showing_at policy (known policy view) m role) view)

  used_kept : (view new : SessionView) → IsKept (with_used m view) new → IsKept view new
  used_kept view new k = record { mode = k.mode; watches = k.watches; client = k.client; bus = k.bus; grows = grows_as k.grows refl refl; remembers = k.remembers }

-- ---- notes and elements

-- what is kept of the messages: the notes and their count, and the elements
pub record Kept : Type 0 where
  pub notes : List Note
  pub numbered : ℕ
  pub watches : Bool
  pub visible : List Element

abbrev pub with_kept : Kept → SessionView → SessionView
with_kept kept view = record view { notes = kept.notes; numbered = kept.numbered; watches = kept.watches; visible = kept.visible }

abbrev kept_in : SessionView → Kept
kept_in view = record { notes = view.notes; numbered = view.numbered; watches = view.watches; visible = view.visible }

-- if this was outside while memory was refused, and was put back, what waits and the streams are unchanged
pub sides_kept : (old mid after new : SessionView) (out put : Kept) → mid ≡ with_kept out old → new ≡ with_kept put after → KeepsSides mid after → put.notes ≡ old.notes → put.numbered ≡ old.numbered → put.watches ≡ old.watches → put.visible ≡ old.visible → KeepsSides old new
sides_kept old mid after new out put outside inside kept notes numbered watches visible = record {
  mode = same (λ v. v.mode) refl refl kept.mode;
  client = same (λ v. v.client) refl refl kept.client;
  bus = same (λ v. v.bus) refl refl kept.bus;
  bus_side = same (λ v. v.bus_side) refl refl kept.bus_side;
  client_side = same (λ v. v.client_side) refl refl kept.client_side;
  greeted = same (λ v. v.greeted) refl refl kept.greeted;
  notes = ap (λ (v : SessionView). v.notes) inside ∙ notes;
  numbered = ap (λ (v : SessionView). v.numbered) inside ∙ numbered;
  watches = ap (λ (v : SessionView). v.watches) inside ∙ watches;
  visible = ap (λ (v : SessionView). v.visible) inside ∙ visible;
}
  where
    same : {A : Type 0} (part : SessionView → A) → part (with_kept put after) ≡ part after → part (with_kept out old) ≡ part old → part after ≡ part mid → part new ≡ part old
    same part after_is old_is kept = ap part inside ∙ after_is ∙ kept ∙ ap part outside ∙ old_is

-- whatever this is, the message has the same effect
either_apart : (kept : Kept) (x y : SessionView) (b : Bool) → cond b (with_kept kept x) (with_kept kept y) ≡ with_kept kept (cond b x y)
either_apart kept x y true = refl
either_apart kept x y false = refl

sending_apart : (kept : Kept) (due : List Sent) (view new : SessionView) → sending due (with_kept kept view) (with_kept kept new) ≡ with_kept kept (sending due view new)
sending_apart kept [] view new = refl
sending_apart kept (s ∷ due) view new = either_apart kept (with_sent (s ∷ due) new) (ended_by SerialsSpent view) (nat_le (view.sent + length (s ∷ due)) most_sent)

kept_apart : (policy : Policy) (side : Side) (m : Message) (view : SessionView) (kept : Kept) → with_message policy side m (with_kept kept view) ≡ with_kept kept (with_message policy side m view)
kept_apart policy Client m view kept =
    let v : Verdict = verdict policy (known policy view) m in
    sending_apart kept (due_on policy view.greeted m v) view (with_replied (replied_on m (client_role m) v) view)
kept_apart policy Bus m view kept =
    let used : SessionView = with_used m view in
    let role : BusRole = bus_role (expected_at view.ledger.expected (reply_serial m)) m in
    sending_apart kept (due_at policy m role) used (with_told policy m role (with_shown policy m (showing_at policy (known policy used) m role) used))

-- it leaves what is kept
kept_left : (policy : Policy) (side : Side) (m : Message) (view : SessionView) → kept_in (with_message policy side m view) ≡ kept_in view
kept_left policy side m view = ap kept_in (kept_apart policy side m view (kept_in view))

pub notes_apart : (policy : Policy) (side : Side) (m : Message) (view : SessionView) (notes : List Note) (n : ℕ) →
    with_message policy side m (record view { notes = notes; numbered = n }) ≡ record (with_message policy side m view) { notes = notes; numbered = n }
notes_apart policy side m view notes n =
    kept_apart policy side m view (record { notes = notes; numbered = n; watches = view.watches; visible = view.visible })
    ∙ ap (λ (kept : Kept). record (with_message policy side m view) { notes = notes; numbered = n; watches = kept.watches; visible = kept.visible }) (sym (kept_left policy side m view))

-- a note depends only on what is noted
note_apart : (side : Side) (m : Message) (decision : Decision) (view : SessionView) (watches : Bool) (visible : List Element) →
    with_note_on side m decision (record view { watches = watches; visible = visible }) ≡ record (with_note_on side m decision view) { watches = watches; visible = visible }
note_apart side m decision view watches visible = by (view.mode.notes && is_none view.ended)
  where
    apart : SessionView → SessionView
    apart v = record v { watches = watches; visible = visible }

    by : (b : Bool) → cond b (apart (with_note side m decision view)) (apart view) ≡ apart (cond b (with_note side m decision view) view)
    by true = refl
    by false = refl

-- the decision on it doesn't rest on what is kept
decision_apart : (policy : Policy) (side : Side) (m : Message) (view : SessionView) (watches : Bool) (visible : List Element) →
    decision_in policy side m (record view { watches = watches; visible = visible }) ≡ decision_in policy side m view
decision_apart policy Client m view watches visible = refl
decision_apart policy Bus m view watches visible = refl

pub visible_apart : (policy : Policy) (side : Side) (m : Message) (view : SessionView) (watches : Bool) (visible : List Element) →
    with_noted_message policy side m (record view { watches = watches; visible = visible }) ≡ record (with_noted_message policy side m view) { watches = watches; visible = visible }
visible_apart policy side m view watches visible =
    ap₂ (λ (d : Decision) (v : SessionView). with_note_on side m d v) (decision_apart policy side m view watches visible)
    (kept_apart policy side m view (record { notes = view.notes; numbered = view.numbered; watches = watches; visible = visible })
    ∙ ap (λ (kept : Kept). record (with_message policy side m view) { notes = kept.notes; numbered = kept.numbered; watches = watches; visible = visible }) (sym (kept_left policy side m view)))
    ∙ note_apart side m (decision_in policy side m view) (with_message policy side m view) watches visible

-- it leaves the notes and their count
pub notes_left : (policy : Policy) (side : Side) (m : Message) (view : SessionView) → (with_message policy side m view).notes ≡ view.notes
notes_left policy side m view = ap (λ (v : SessionView). v.notes) (notes_apart policy side m view view.notes view.numbered)

pub count_left : (policy : Policy) (side : Side) (m : Message) (view : SessionView) → (with_message policy side m view).numbered ≡ view.numbered
count_left policy side m view = ap (λ (v : SessionView). v.numbered) (notes_apart policy side m view view.notes view.numbered)

-- ---- a message of either side

pub message_kept : (policy : Policy) (side : Side) (m : Message) (view : SessionView) → IsKept view (with_message policy side m view)
message_kept policy Client m view = verdict_kept policy m (verdict policy (known policy view) m) view
message_kept policy Bus m view =
    used_kept policy m view _ (role_kept policy m (bus_role (expected_at view.ledger.expected (reply_serial m)) m) (with_used m view))

pub noted_kept : (policy : Policy) (side : Side) (m : Message) (view : SessionView) → IsKept view (with_noted_message policy side m view)
noted_kept policy side m view = by (with_message policy side m view) (message_kept policy side m view)
  where
    decision : Decision
    decision = decision_in policy side m view

    by : (new : SessionView) → IsKept view new → IsKept view (with_note_on side m decision new)
    by new k = either view (with_note side m decision new) new (new.mode.notes && is_none new.ended)
        (record {
          mode = k.mode;
          watches = k.watches;
          client = k.client;
          bus = k.bus;
          grows = grows_then view new (with_note side m decision new) k.grows
              (record { for_bus = front_all new.bus_side; for_client = front_all new.client_side; noted = front_more new.notes _; watched = front_all new.visible });
          remembers = k.remembers;
        })
        k

-- and the elements that were kept before a message
pub visible_left : (policy : Policy) (side : Side) (m : Message) (view : SessionView) → (with_noted_message policy side m view).visible ≡ view.visible
visible_left policy side m view = ap (λ (v : SessionView). v.visible) (visible_apart policy side m view view.watches view.visible)

pub watched_kept : (policy : Policy) (side : Side) (m : Message) (view : SessionView) → IsKept view (with_watched_message policy side m view)
watched_kept policy side m view =
    let new : SessionView = with_noted_message policy side m view in
    let k = noted_kept policy side m view in
    record {
      mode = k.mode;
      watches = k.watches;
      client = k.client;
      bus = k.bus;
      grows = elements_grow view new (unless_ended new.ended (elements_in policy side m view)) k.grows;
      remembers = k.remembers;
    }
