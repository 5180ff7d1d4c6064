-- What stays when one listener is written.
use Rattle.std.proofs.Common.{ℕ, suc, zero, ◌≡◌, ◌≢◌, ◌≤◌, ◌+◌, nat_eq, Bool, true, false, not, ◌||◌, Option, Some, None, List, [], ◌∷◌, ◌++◌, refl, ap, ap₂, sym, subst, ◌∙◌, arith, length, drop, take, slice_get, slice_set, unwrap_or}
use Rattle.std.specs.Option.{option_map}
use Rattle.std.specs.List.{list_any}
use Rattle.std.specs.Ordering.{nat_cmp}
use Rattle.std.specs.BTreeMap as tree
use Rattle.std.specs.BTreeMap.{BTreeMap}
use Rattle.std.proofs.lemmas.List.{length-set}
use Rattle.std.proofs.lemmas.List.Folds.{list_any-append}
use Rattle.std.proofs.lemmas.Bool.Decides.{nat_tests}
use Rattle.link_traits.specs.declared.links.Count.{Count}
use Rattle.link_traits.specs.declared.links.Count.TheVariants.{Own, Listener, Link, Waits}
use Rattle.link_traits.specs.Numbers.{number_of}
use Rattle.proxy_net.specs.declared.link_sockets.LinkSocket.{LinkSocket}
use Rattle.proxy_net.specs.Naming.{is_link_placed, is_listener_placed, is_listener_unmarked, is_link_unmarked}
use Rattle.proxy_net.specs.Connecting.{is_pending, tried_path}
use Rattle.proxy_net.specs.Registering.{is_own_link, is_own_listener, listeners_from}
use Rattle.std.specs.String.{string_bytes}
use Rattle.proxy_net.specs.Sockets.{GoesOn, count_in, has_place, is_listener_queued, path_in}
use Rattle.proxy_net.specs.declared.bound_files.BoundFile.{BoundFile}
use Rattle.proxy_net.specs.declared.listeners.ListenerSocket.{ListenerSocket}
use Rattle.proxy_net.specs.declared.sockets.SocketSet.{SocketSet}
use Rattle.proxy_net.proofs.Notes.{or_kept}

-- what is marked as queued is in the queue, also if it was marked now
pub still_queued : {L : Type 0} → (old new : ListenerSocket L) (was is is_new : Bool) → (is_new ≡ true → is ≡ true) → (was ≡ true → is ≡ true) → (is_new ≡ false → new.queued ≡ old.queued)
    → (is_listener_unmarked (Some old) || was) ≡ true → (is_listener_unmarked (Some new) || is) ≡ true
still_queued old new was is true put kept same before = ap (λ (b : Bool). not new.queued || b) (put refl) ∙ or_true (not new.queued)
  where
    or_true : (b : Bool) → b || true ≡ true
    or_true true = refl
    or_true false = refl
still_queued old new was is false put kept same before = ap (λ (b : Bool). not b || is) (same refl) ∙ or_kept (not old.queued) was is kept before

-- what is true at each place stays true, if it stays true at the one that is written
pub at_each : {L : Type 0} → (P : ℕ → Option (ListenerSocket L) → Type 0) (listeners : List (ListenerSocket L)) (place : ℕ) (old new : ListenerSocket L) → slice_get listeners place ≡ Some old
    → (P place (Some old) → P place (Some new)) → (other : ℕ) → P other (slice_get listeners other) → P other (slice_get (slice_set listeners place new) other)
at_each P [] place old new found kept other p = absurd (let no : None ≡ Some old = found in cc)
at_each P (listener ∷ listeners) zero old new found kept zero p = kept (subst (λ (o : Option (ListenerSocket _)). P zero o) found p)
at_each P (listener ∷ listeners) zero old new found kept (suc other) p = p
at_each P (listener ∷ listeners) (suc place) old new found kept zero p = p
at_each P (listener ∷ listeners) (suc place) old new found kept (suc other) p = at_each (λ at o. P (suc at) o) listeners place old new found kept other p

-- what is so at each other place, and at the one that is written, is so at each
at_others : {L : Type 0} → (P : ℕ → Option (ListenerSocket L) → Type 0) (listeners : List (ListenerSocket L)) (place : ℕ) (old new : ListenerSocket L) → slice_get listeners place ≡ Some old
    → P place (Some new) → (other : ℕ) → (other ≢ place → P other (slice_get listeners other)) → P other (slice_get (slice_set listeners place new) other)
at_others P [] place old new found own other p = absurd (let no : None ≡ Some old = found in cc)
at_others P (listener ∷ listeners) zero old new found own zero p = own
at_others P (listener ∷ listeners) zero old new found own (suc other) p = p (λ e. absurd (omega (arith, e)))
at_others P (listener ∷ listeners) (suc place) old new found own zero p = p (λ e. absurd (omega (arith, e)))
at_others P (listener ∷ listeners) (suc place) old new found own (suc other) p = at_others (λ at o. P (suc at) o) listeners place old new found own other (λ differs. p (λ e. differs (omega (arith, e))))

-- all but the first of a queue stay in it when that leaves it
pub others_stay : (items rest : List ℕ) (number : ℕ) → slice_get items 0 ≡ Some number → rest ≡ drop 1 items → (other : ℕ) → other ≢ number → list_any (nat_eq other) items ≡ true → list_any (nat_eq other) rest ≡ true
others_stay [] rest number first are other differs among = cc
others_stay (item ∷ items) rest number first are other differs among =
    let same : item ≡ number = cc in
    let not_first : nat_eq other item ≡ false = grind (arith, nat_tests, differs, same) in
    ap (list_any (nat_eq other)) are ∙ by (nat_eq other item) not_first among
  where
    by : (b : Bool) → b ≡ false → b || list_any (nat_eq other) items ≡ true → list_any (nat_eq other) items ≡ true
    by true e f = absurd (let no : true ≡ false = e in cc)
    by false e f = f

-- the first of a queue is in it
pub first_among : (items : List ℕ) (number : ℕ) → slice_get items 0 ≡ Some number → list_any (nat_eq number) items ≡ true
first_among [] number first = cc
first_among (item ∷ items) number first =
    let same : item ≡ number = cc in
    let equal : nat_eq number item ≡ true = grind (arith, nat_tests, same) in
    ap (λ (b : Bool). b || list_any (nat_eq number) items) equal

-- all of a queue stay in it when the first goes to its end
pub all_stay : (items rotated : List ℕ) → rotated ≡ drop 1 items ++ take 1 items → (other : ℕ) → list_any (nat_eq other) items ≡ true → list_any (nat_eq other) rotated ≡ true
all_stay [] rotated are other among = cc
all_stay (item ∷ items) rotated are other among =
    ap (list_any (nat_eq other)) are ∙ list_any-append (nat_eq other) items (item ∷ []) ∙ by (nat_eq other item) (list_any (nat_eq other) items) among
  where
    by : (a b : Bool) → a || b ≡ true → b || (a || false) ≡ true
    by true true e = refl
    by true false e = refl
    by false b e = subst (λ (x : Bool). x || false ≡ true) (sym e) refl

module _ {T L : Type 0} (a b : SocketSet T L) (place : ℕ) (old new : ListenerSocket L) where
  -- one listener is written
  pub listener_goes : slice_get a.listeners.items place ≡ Some old → b.listeners.items ≡ slice_set a.listeners.items place new
      → b.links ≡ a.links → b.pending.items ≡ a.pending.items → b.own ≡ a.own → b.waits ≡ a.waits → b.absent ≡ a.absent → b.sessions ≡ a.sessions
      → old.faults ≤ new.faults → new.listener ≡ old.listener → new.file ≡ old.file → (is_listener_placed (Some old) ≡ true → is_listener_placed (Some new) ≡ true)
      → ((other : ℕ) → other ≢ listeners_from + place → has_place a other ≡ true → has_place b other ≡ true)
      → ((is_listener_unmarked (Some old) || has_place a (listeners_from + place)) ≡ true → (is_listener_unmarked (Some new) || has_place b (listeners_from + place)) ≡ true) → GoesOn a b
  listener_goes found are links pending own waits absent sessions faults listener file placed others queued = record {
    counts = counted;
    wishes = λ link. ap (λ (m : BTreeMap ℕ (LinkSocket _)). option_map (λ (s : LinkSocket _). s.wishes) (tree.get nat_cmp m (number_of link))) links;
    sessions = sessions;
    number = let same : length b.listeners.items ≡ length a.listeners.items = ap length are ∙ length-set a.listeners.items place new in grind (arith, same);
    links = λ link p. ap (λ (m : BTreeMap ℕ (LinkSocket _)). is_link_placed (tree.get nat_cmp m (number_of link))) links ∙ p;
    listeners = λ at p. ap (λ (xs : List (ListenerSocket _)). is_listener_placed (slice_get xs at)) are ∙ at_each (λ _ o. is_listener_placed o ≡ true) a.listeners.items place old new found placed at p;
    link_places = λ number below p. ap (λ (m : BTreeMap ℕ (LinkSocket _)). is_link_unmarked (tree.get nat_cmp m number) || has_place b number) links
        ∙ or_kept (is_link_unmarked (tree.get nat_cmp a.links number)) (has_place a number) (has_place b number) (others number (λ e. absurd (omega (arith, below, e)))) p;
    listener_places = λ at below p. ap (λ (xs : List (ListenerSocket _)). is_listener_unmarked (slice_get xs at) || has_place b (listeners_from + at)) are
        ∙ at_others (λ k o. k ≡ at → (is_listener_unmarked o || has_place b (listeners_from + k)) ≡ true) a.listeners.items place old new found
        (λ e. queued (ap (λ (o : Option (ListenerSocket _)). is_listener_unmarked o || has_place a (listeners_from + place)) (sym found) ∙ subst (λ k. is_listener_queued a k ≡ true) (sym e) p)) at
        (λ differs _. or_kept (is_listener_unmarked (slice_get a.listeners.items at)) (has_place a (listeners_from + at)) (has_place b (listeners_from + at))
        (others (listeners_from + at) (λ e. differs (omega (arith, e)))) p) refl;
    link_tokens = λ number p. ap (λ (m : BTreeMap ℕ (LinkSocket _)). is_own_link number (tree.get nat_cmp m number)) links ∙ p;
    listener_tokens = λ at p. ap (λ (xs : List (ListenerSocket _)). is_own_listener at (slice_get xs at)) are
        ∙ at_each (λ k o. is_own_listener k o ≡ true) a.listeners.items place old new found (λ own_token. ap (λ (l : _). nat_eq l.number (listeners_from + place)) listener ∙ own_token) at p;
    paths = λ number path at. ap (λ (m : BTreeMap ℕ (LinkSocket _)). unwrap_or (option_map (λ (s : LinkSocket _). tried_path s.connection) (tree.get nat_cmp m number)) None) (sym links) ∙ at;
    files = λ at path below p. at_each (λ k o. path_in o ≡ Some path → path_in (slice_get a.listeners.items k) ≡ Some path) a.listeners.items place old new found
        (λ was e. was (ap (λ (f : Option BoundFile). option_map (λ (x : BoundFile). string_bytes x.path) f) (sym file) ∙ e)) at (λ e. e)
        (ap (λ (xs : List (ListenerSocket _)). path_in (slice_get xs at)) (sym are) ∙ p);
    retries = λ number p. ap₂ (λ (m : BTreeMap ℕ (LinkSocket _)) (xs : List ℕ). not (unwrap_or (option_map (λ (s : LinkSocket _). is_pending s.connection) (tree.get nat_cmp m number)) false) || list_any (nat_eq number) xs) links pending ∙ p;
  }
    where
      counted : (count : Count) → count_in a count ≤ count_in b count
      counted Own = omega (arith, own)
      counted Waits = omega (arith, waits)
      counted (Listener listener) =
          let same : count_in b (Listener listener) ≡ unwrap_or (option_map (λ (s : ListenerSocket _). s.faults) (slice_get (slice_set a.listeners.items place new) listener)) a.absent =
          ap₂ (λ (xs : List (ListenerSocket _)) (d : ℕ). unwrap_or (option_map (λ (s : ListenerSocket _). s.faults) (slice_get xs listener)) d) are absent in
          let grew = at_each (λ k o. count_in a (Listener listener) ≤ unwrap_or (option_map (λ (s : ListenerSocket _). s.faults) o) a.absent) a.listeners.items place old new found
          (λ before. omega (arith, before, faults)) listener (omega arith) in
          omega (arith, same, grew)
      counted (Link link) =
          let same : count_in b (Link link) ≡ count_in a (Link link) =
          ap₂ (λ (m : BTreeMap ℕ (LinkSocket _)) (d : ℕ). unwrap_or (option_map (λ (s : LinkSocket _). s.faults) (tree.get nat_cmp m (number_of link))) d) links absent in
          omega (arith, same)
