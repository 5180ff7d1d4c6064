-- The numbers that links are registered by, and those of links that are made.
use Rattle.std.proofs.Common.{ℕ, ◌≡◌, nat_eq, Bool, true, false, not, ◌||◌, cond, List, Option, Some, unwrap_or, refl, ap, subst, ◌∙◌, rules}
use Rattle.std.specs.List.{list_any}
use Rattle.std.specs.Option.{option_map}
use Rattle.std.specs.Ordering.{nat_cmp, is_eq}
use Rattle.std.specs.BTreeMap as tree
use Rattle.std.specs.BTreeMap.{BTreeMap}
use Rattle.proxy_net.specs.Connecting.{is_pending}
use Rattle.proxy_net.specs.Registering.{is_own_link}
use Rattle.proxy_net.specs.declared.link_sockets.LinkSocket.{LinkSocket}

-- a link that is made under the number that it is registered by
pub own_link_made : {T : Type 0} → (old new : BTreeMap ℕ (LinkSocket T)) (number : ℕ) (socket : LinkSocket T) → tree.Updates nat_cmp old new number (Some socket) → is_own_link number (Some socket) ≡ true
    → (other : ℕ) → is_own_link other (tree.get nat_cmp old other) ≡ true → is_own_link other (tree.get nat_cmp new other) ≡ true
own_link_made old new number socket updates own other before =
    ap (is_own_link other) (updates.0 other) ∙ by (is_eq (nat_cmp number other)) refl
  where
    by : (b : Bool) → is_eq (nat_cmp number other) ≡ b → is_own_link other (cond b (Some socket) (tree.get nat_cmp old other)) ≡ true
    by true e = let same : number ≡ other = search (rules, e) in subst (λ n. is_own_link n (Some socket) ≡ true) same own
    by false e = before

-- a link that is made is tried again if it isn't connected yet
pub retried_made : {T : Type 0} → (old new : BTreeMap ℕ (LinkSocket T)) (number : ℕ) (socket : LinkSocket T) (pending : List ℕ) → tree.Updates nat_cmp old new number (Some socket)
    → not (is_pending socket.connection) || list_any (nat_eq number) pending ≡ true
    → (other : ℕ) → not (unwrap_or (option_map (λ (s : LinkSocket _). is_pending s.connection) (tree.get nat_cmp old other)) false) || list_any (nat_eq other) pending ≡ true
    → not (unwrap_or (option_map (λ (s : LinkSocket _). is_pending s.connection) (tree.get nat_cmp new other)) false) || list_any (nat_eq other) pending ≡ true
retried_made old new number socket pending updates tried other before =
    ap (λ (o : Option (LinkSocket _)). not (unwrap_or (option_map (λ (s : LinkSocket _). is_pending s.connection) o) false) || list_any (nat_eq other) pending) (updates.0 other) ∙ by (is_eq (nat_cmp number other)) refl
  where
    by : (b : Bool) → is_eq (nat_cmp number other) ≡ b
        → not (unwrap_or (option_map (λ (s : LinkSocket _). is_pending s.connection) (cond b (Some socket) (tree.get nat_cmp old other))) false) || list_any (nat_eq other) pending ≡ true
    by true e = let same : number ≡ other = search (rules, e) in subst (λ n. not (is_pending socket.connection) || list_any (nat_eq n) pending ≡ true) same tried
    by false e = before
