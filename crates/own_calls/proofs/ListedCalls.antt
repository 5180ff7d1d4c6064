-- The names of a list that are asked for, one name after the other.
use Rattle.std.proofs.Common.{◌≡◌, ℕ, ◌+◌, ◌<◌, true, false, cond, List, [], ◌∷◌, ◌++◌, length, map, take, drop, get_or, Some, None, slice_get, Bor, refl, ap, sym, subst, ◌∙◌, append_assoc, append-nil}
use Rattle.std.specs.List.{filter}
use Rattle.std.proofs.lemmas.Bool.{and_parts}
use Rattle.std.proofs.lemmas.List.{map-append, map_push, take-append-drop, take_more}
use Rattle.dbus_names.specs.Names.{is_well_known}
use Rattle.dbus_names.specs.Texts.{Text}
use Rattle.policy_args.specs.Policy.{Policy}
use Rattle.policy_view.specs.Sent.{Sent, OwnOwner, asked, is_asked}
use Rattle.reply_ledger.specs.Ledger.{Ledger}
use Rattle.own_calls.specs.Sending.{AreCutOff, AreSent}
use Rattle.own_calls.proofs.SendingLaws.{both-sent, cut_first, cut_later}

-- ---- which names

abbrev texts : List (Bor Text) → List Text
texts names = map (λ name. name.now) names

asked-next : (policy : Policy) (name : Text) (names : List Text) → is_asked policy name ≡ true → asked policy (name ∷ names) ≡ name ∷ asked policy names
unfolding asked
asked-next policy name names is = ap (λ b. cond b (name ∷ filter (is_asked policy) names) (filter (is_asked policy) names)) is

passed-next : (policy : Policy) (name : Text) (names : List Text) → is_asked policy name ≡ false → asked policy (name ∷ names) ≡ asked policy names
unfolding asked
passed-next policy name names is = ap (λ b. cond b (name ∷ filter (is_asked policy) names) (filter (is_asked policy) names)) is

none-asked : (policy : Policy) → asked policy [] ≡ []
unfolding asked
none-asked policy = refl

pub first-of : (names : List Text) (name : Text) → Some name ≡ slice_get names 0 → names ≡ name ∷ drop 1 names
first-of [] name e = absurd cc
first-of (n ∷ names) name e = let same : n ≡ name = cc in ap (λ m. m ∷ names) same

pub asked-more : (policy : Policy) (items : List (Bor Text)) (name : Bor Text) (before after : List Text) (more : List (Bor Text)) → is_asked policy name.now ≡ true →
    more ≡ items ++ name ∷ [] → before ≡ name.now ∷ after → texts more ++ asked policy after ≡ texts items ++ asked policy before
asked-more policy items name before after more is more_is before_is =
    ap (λ (ts : List Text). ts ++ asked policy after) (ap texts more_is ∙ map_push (λ n. n.now) items name)
    ∙ append_assoc (texts items) (name.now ∷ []) (asked policy after)
    ∙ ap (λ (ts : List Text). texts items ++ ts) (sym (ap (asked policy) before_is ∙ asked-next policy name.now after is))

pub passed-over : (policy : Policy) (items : List (Bor Text)) (name : Text) (before after : List Text) → is_asked policy name ≡ false → before ≡ name ∷ after →
    texts items ++ asked policy after ≡ texts items ++ asked policy before
passed-over policy items name before after is before_is = ap (λ (ts : List Text). texts items ++ ts) (sym (ap (asked policy) before_is ∙ passed-next policy name after is))

pub read-all : (policy : Policy) (items : List (Bor Text)) (names : List Text) → None ≡ slice_get names 0 → texts items ≡ texts items ++ asked policy names
read-all policy items [] e = sym (ap (λ (ts : List Text). texts items ++ ts) (none-asked policy) ∙ append-nil (texts items))
read-all policy items (name ∷ names) e = absurd cc

pub asked-well-known : (policy : Policy) (name : Text) → is_asked policy name ≡ true → is_well_known name ≡ true
asked-well-known policy name is = (and_parts _ _ (and_parts _ _ is).0).0

-- ---- the calls for them

abbrev owners : List (Bor Text) → List Sent
owners names = map OwnOwner (texts names)

owners-more : (names : List (Bor Text)) (k : ℕ) (d : Bor Text) → k < length names → owners (take (k + 1) names) ≡ owners (take k names) ++ OwnOwner (get_or names k d).now ∷ []
owners-more names k d lt =
    ap owners (take_more names k d lt)
    ∙ ap (λ (ts : List Text). map OwnOwner ts) (map_push (λ n. n.now) (take k names) (get_or names k d))
    ∙ map_push OwnOwner (texts (take k names)) (get_or names k d).now

owners-from : (names : List (Bor Text)) (k : ℕ) → owners names ≡ owners (take k names) ++ owners (drop k names)
owners-from names k =
    ap owners (sym (take-append-drop k names))
    ∙ ap (λ (ts : List Text). map OwnOwner ts) (map-append (λ n. n.now) (take k names) (drop k names))
    ∙ map-append OwnOwner (texts (take k names)) (texts (drop k names))

module _ {calls calls_between calls_then : List ℕ} {given given_between given_then : ℕ} {ledger ledger_between ledger_then : Ledger} where
  pub next-owner : (names : List (Bor Text)) (k : ℕ) (d : Bor Text) → k < length names → AreSent (owners (take k names)) calls given ledger calls_between given_between ledger_between →
      AreSent (OwnOwner (get_or names k d).now ∷ []) calls_between given_between ledger_between calls_then given_then ledger_then →
      AreSent (owners (take (k + 1) names)) calls given ledger calls_then given_then ledger_then
  next-owner names k d lt first second =
      subst (λ (s : List Sent). AreSent s calls given ledger calls_then given_then ledger_then) (sym (owners-more names k d lt)) (both-sent _ _ _ _ _ _ _ _ _ _ _ first second)

  -- memory was refused amid the call for a name
  pub cut_at_owner : (names : List (Bor Text)) (k : ℕ) (d : Bor Text) → k < length names → AreSent (owners (take k names)) calls given ledger calls_between given_between ledger_between →
      AreCutOff (OwnOwner (get_or names k d).now ∷ []) calls_between given_between ledger_between calls_then given_then ledger_then → AreCutOff (owners names) calls given ledger calls_then given_then ledger_then
  cut_at_owner names k d lt first cut =
      let so_far = cut_later (owners (take k names)) (OwnOwner (get_or names k d).now ∷ []) first cut in
      let more = subst (λ (s : List Sent). AreCutOff s calls given ledger calls_then given_then ledger_then) (sym (owners-more names k d lt)) so_far in
      subst (λ (s : List Sent). AreCutOff s calls given ledger calls_then given_then ledger_then) (sym (owners-from names (k + 1))) (cut_first (owners (take (k + 1) names)) (owners (drop (k + 1) names)) more)
