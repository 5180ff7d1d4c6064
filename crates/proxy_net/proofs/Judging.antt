-- What is judged of a link stays so as long as the links stay, and what is done to one listener after the other.
use Rattle.std.proofs.Common.{ℕ, zero, suc, ◌≡◌, ◌+◌, ◌<◌, ◌≤◌, nat_lt, Bool, true, false, Option, None, List, [], ◌∷◌, length, slice_get, unwrap_or, refl, subst, sym, arith}
use Rattle.std.proofs.lemmas.Bool.Decides.{nat_tests}
use Rattle.std.specs.Option.{option_map}
use Rattle.std.specs.Ordering.{nat_cmp}
use Rattle.std.specs.BTreeMap as tree
use Rattle.std.specs.BTreeMap.{BTreeMap}
use Rattle.proxy_net.specs.Naming.{other_of, is_link_closed, is_to_fail}
use Rattle.proxy_net.specs.Sockets.{IsJudgedAt}
use Rattle.proxy_net.specs.declared.link_sockets.LinkSocket.{LinkSocket}
use Rattle.proxy_net.specs.declared.listeners.ListenerSocket.{ListenerSocket}
use Rattle.proxy_net.specs.declared.sockets.SocketSet.{SocketSet}

pub judged_kept : {T L : Type 0} → (a b : SocketSet T L) (number : ℕ) → b.links ≡ a.links → IsJudgedAt a number → IsJudgedAt b number
judged_kept a b number links judged = subst (λ (m : BTreeMap ℕ (LinkSocket _)). unwrap_or (option_map (λ (s : LinkSocket _). s.given_up) (tree.get nat_cmp m number)) true
    ≡ unwrap_or (option_map (is_to_fail (unwrap_or (option_map is_link_closed (tree.get nat_cmp m (other_of number))) true)) (tree.get nat_cmp m number)) true) (sym links) judged

-- what isn't so at the places before one, and at that one now, isn't so at the places up to it
pub one_more_place : {T L : Type 0} → (P : (SocketSet T L) → ℕ → Bool) (a b : SocketSet T L) (place : ℕ) → ((other : ℕ) → other < place → P a other ≡ false) → P b place ≡ false
    → ((other : ℕ) → P a other ≡ false → P b other ≡ false) → (other : ℕ) → other < place + 1 → P b other ≡ false
one_more_place P a b place before now kept other below = by (nat_lt other place) refl
  where
    by : (less : Bool) → nat_lt other place ≡ less → P b other ≡ false
    by true e = kept other (before other (grind (arith, nat_tests, e)))
    by false e = let same : other ≡ place = grind (arith, nat_tests, e, below) in subst (λ n. P b n ≡ false) (sym same) now

-- what is true of listeners alone isn't true if there is none
pub none_there : {L : Type 0} → (P : (ListenerSocket L) → Bool) (listeners : List (ListenerSocket L)) (place : ℕ) → length listeners ≤ place → unwrap_or (option_map P (slice_get listeners place)) false ≡ false
none_there P [] place past = refl
none_there P (listener ∷ listeners) zero past = absurd (omega (arith, past))
none_there P (listener ∷ listeners) (suc place) past = none_there P listeners place (omega (arith, past))

-- what isn't so at any listener isn't so at any place
pub all_places : {L : Type 0} → (P : Option (ListenerSocket L) → Bool) → P None ≡ false → (listeners : List (ListenerSocket L)) → ((other : ℕ) → other < length listeners → P (slice_get listeners other) ≡ false)
    → (other : ℕ) → P (slice_get listeners other) ≡ false
all_places P none [] below other = none
all_places P none (listener ∷ listeners) below zero = below zero (omega arith)
all_places P none (listener ∷ listeners) below (suc other) = all_places P none listeners (λ place less. below (suc place) (omega (arith, less))) other
