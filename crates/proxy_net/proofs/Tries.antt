-- What stays when a connect that is tried again takes another place, or leaves the others.
use Rattle.std.proofs.Common.{ℕ, ◌≡◌, ◌+◌, ◌≤◌, nat_eq, Bool, true, false, not, ◌||◌, List, [], ◌∷◌, ◌++◌, drop, take, Some, None, Vec, Global, vec_len, slice_get, unwrap_or, refl, ap, ap₂, sym, ◌∙◌, arith}
use Rattle.std.specs.BTreeMap as tree
use Rattle.std.specs.BTreeMap.{BTreeMap}
use Rattle.std.specs.List.{list_any}
use Rattle.std.specs.Option.{option_map}
use Rattle.std.specs.Ordering.{nat_cmp}
use Rattle.std.proofs.lemmas.Bool.Decides.{nat_tests}
use Rattle.std.proofs.lemmas.List.Folds.{list_any-append}
use Rattle.link_traits.specs.Numbers.{number_of}
use Rattle.link_traits.specs.declared.links.Count.{Count}
use Rattle.link_traits.specs.declared.links.Count.TheVariants.{Own, Listener, Link, Waits}
use Rattle.proxy_net.specs.Connecting.{is_pending, tried_path}
use Rattle.proxy_net.specs.Naming.{is_link_placed, is_listener_placed, is_link_unmarked, is_listener_unmarked}
use Rattle.proxy_net.specs.Registering.{is_own_link, is_own_listener, listeners_from}
use Rattle.proxy_net.specs.Sockets.{GoesOn, count_in, is_pending_at, path_in}
use Rattle.proxy_net.specs.declared.link_sockets.LinkSocket.{LinkSocket}
use Rattle.proxy_net.specs.declared.listeners.ListenerSocket.{ListenerSocket}
use Rattle.proxy_net.specs.declared.sockets.SocketSet.{SocketSet}
use Rattle.proxy_net.proofs.Notes.{or_kept}
use Rattle.proxy_net.proofs.Written.{all_stay, others_stay}

module _ {T L : Type 0} (a b : SocketSet T L) where
  -- only what is tried again, and how often it would have waited, changes
  pub tries_go : b.links ≡ a.links → b.listeners ≡ a.listeners → b.ready.items ≡ a.ready.items → b.own ≡ a.own → a.waits ≤ b.waits → b.absent ≡ a.absent → b.sessions ≡ a.sessions
      → ((number : ℕ) → not (is_pending_at a number) || list_any (nat_eq number) a.pending.items ≡ true → not (is_pending_at a number) || list_any (nat_eq number) b.pending.items ≡ true) → GoesOn a b
  tries_go links listeners ready own waits absent sessions tried = record {
    counts = counted;
    wishes = λ link. ap (λ (m : BTreeMap ℕ (LinkSocket _)). option_map (λ (s : LinkSocket _). s.wishes) (tree.get nat_cmp m (number_of link))) links;
    sessions = sessions;
    number = ap (λ (v : Vec (ListenerSocket _) Global). vec_len v) listeners;
    links = λ link p. ap (λ (m : BTreeMap ℕ (LinkSocket _)). is_link_placed (tree.get nat_cmp m (number_of link))) links ∙ p;
    listeners = λ listener p. ap (λ (v : Vec (ListenerSocket _) Global). is_listener_placed (slice_get v.items listener)) listeners ∙ p;
    link_places = λ number below p. ap₂ (λ (m : BTreeMap ℕ (LinkSocket _)) (xs : List ℕ). is_link_unmarked (tree.get nat_cmp m number) || list_any (nat_eq number) xs) links ready ∙ p;
    listener_places = λ place below p. ap₂ (λ (v : Vec (ListenerSocket _) Global) (xs : List ℕ). is_listener_unmarked (slice_get v.items place) || list_any (nat_eq (listeners_from + place)) xs) listeners ready ∙ p;
    link_tokens = λ number p. ap (λ (m : BTreeMap ℕ (LinkSocket _)). is_own_link number (tree.get nat_cmp m number)) links ∙ p;
    listener_tokens = λ place p. ap (λ (v : Vec (ListenerSocket _) Global). is_own_listener place (slice_get v.items place)) listeners ∙ p;
    paths = λ number path p. ap (λ (m : BTreeMap ℕ (LinkSocket _)). unwrap_or (option_map (λ (s : LinkSocket _). tried_path s.connection) (tree.get nat_cmp m number)) None) (sym links) ∙ p;
    files = λ place path below p. ap (λ (v : Vec (ListenerSocket _) Global). path_in (slice_get v.items place)) (sym listeners) ∙ p;
    retries = λ number p. ap (λ (m : BTreeMap ℕ (LinkSocket _)). not (unwrap_or (option_map (λ (s : LinkSocket _). is_pending s.connection) (tree.get nat_cmp m number)) false) || list_any (nat_eq number) b.pending.items) links ∙ tried number p;
  }
    where
      counted : (count : Count) → count_in a count ≤ count_in b count
      counted Own = omega (arith, own)
      counted Waits = waits
      counted (Listener listener) =
          let same : count_in b (Listener listener) ≡ count_in a (Listener listener) =
          ap₂ (λ (v : Vec (ListenerSocket _) Global) (d : ℕ). unwrap_or (option_map (λ (s : ListenerSocket _). s.faults) (slice_get v.items listener)) d) listeners absent in
          omega (arith, same)
      counted (Link link) =
          let same : count_in b (Link link) ≡ count_in a (Link link) =
          ap₂ (λ (m : BTreeMap ℕ (LinkSocket _)) (d : ℕ). unwrap_or (option_map (λ (s : LinkSocket _). s.faults) (tree.get nat_cmp m (number_of link))) d) links absent in
          omega (arith, same)

module _ {T L : Type 0} (a : SocketSet T L) where
  -- the first leaves the others once it isn't to be tried any more
  pub first_leaves : (number : ℕ) (rest : List ℕ) → slice_get a.pending.items 0 ≡ Some number → rest ≡ drop 1 a.pending.items → is_pending_at a number ≡ false
      → (other : ℕ) → not (is_pending_at a other) || list_any (nat_eq other) a.pending.items ≡ true → not (is_pending_at a other) || list_any (nat_eq other) rest ≡ true
  first_leaves number rest first are done other tried = by (nat_eq other number) refl
    where
      by : (same : Bool) → nat_eq other number ≡ same → not (is_pending_at a other) || list_any (nat_eq other) rest ≡ true
      by true e =
          let same : other ≡ number = grind (arith, nat_tests, e) in
          ap (λ (b : Bool). not b || list_any (nat_eq other) rest) (ap (is_pending_at a) same ∙ done)
      by false e = or_kept (not (is_pending_at a other)) (list_any (nat_eq other) a.pending.items) (list_any (nat_eq other) rest)
          (others_stay a.pending.items rest number first are other (λ same. let no : nat_eq other number ≡ true = grind (arith, nat_tests, same) in cc)) tried

  -- all stay when the first goes to the end
  pub all_tried : (rotated : List ℕ) → rotated ≡ drop 1 a.pending.items ++ take 1 a.pending.items
      → (other : ℕ) → not (is_pending_at a other) || list_any (nat_eq other) a.pending.items ≡ true → not (is_pending_at a other) || list_any (nat_eq other) rotated ≡ true
  all_tried rotated are other tried = or_kept (not (is_pending_at a other)) (list_any (nat_eq other) a.pending.items) (list_any (nat_eq other) rotated) (all_stay a.pending.items rotated are other) tried

  -- .. and when another one comes
  pub one_more_tried : (number : ℕ) (more : List ℕ) → more ≡ a.pending.items ++ number ∷ []
      → (other : ℕ) → not (is_pending_at a other) || list_any (nat_eq other) a.pending.items ≡ true → not (is_pending_at a other) || list_any (nat_eq other) more ≡ true
  one_more_tried number more are other tried = or_kept (not (is_pending_at a other)) (list_any (nat_eq other) a.pending.items) (list_any (nat_eq other) more)
      (λ e. ap (list_any (nat_eq other)) are ∙ list_any-append (nat_eq other) a.pending.items (number ∷ []) ∙ by (list_any (nat_eq other) a.pending.items) (list_any (nat_eq other) (number ∷ [])) e) tried
    where
      by : (x y : Bool) → x ≡ true → x || y ≡ true
      by true y e = refl
      by false y e = cc
