-- The suggested policy permits each request, and is within each policy of words that does.
use Rattle.std.proofs.Common.{◌≡◌, inl, inr, Bool, true, false, not, ◌&&◌, ◌||◌, List, [], ◌∷◌, Option, Some, None, if◌then◌else◌, flat_map, refl, ap, sym, ◌∙◌, subst}
use Rattle.std.specs.List.{list_all, list_any}
use Rattle.std.specs.Str.{bytes_eq}
use Rattle.std.proofs.lemmas.Bool.{and_from, and_parts}
use Rattle.call_rules.specs.Rules.{Rule, rule_of}
use Rattle.dbus_names.specs.Names.{are_two_joined, is_bus, is_bus_element, is_empty, is_interface, is_member, is_path, is_well_known}
use Rattle.dbus_names.specs.Texts.{Text}
use Rattle.name_patterns.specs.Patterns.{covers}
use Rattle.policy_args.specs.Policy.{InGrammar, Policy}
use Rattle.policy_args.specs.Requests.{Within, asked_name, grant_permits, permits}
use Rattle.policy_args.specs.declared.entry.Entry.{Entry}
use Rattle.policy_args.specs.declared.entry.Grant.{Grant}
use Rattle.policy_args.specs.declared.entry.Grant.TheVariants.{See as to_see, Talk as to_talk, Own as to_own, Call as to_call}
use Rattle.policy_args.specs.declared.requests.Asked.{Asked}
use Rattle.policy_args.specs.declared.requests.Asked.TheVariants.{Call, Signal, Own, Owner, Broadcast, Property}
use Rattle.policy_args.proofs.PermitsLaws.{permits_by_entries}
use Rattle.policy_suggest.specs.AskedBy.{is_peer}
use Rattle.policy_suggest.specs.Suggest.{AreInGrammar, Target, asks_any_interface, asks_call, asks_own, asks_signal, entries_for, entry_for, grant_for, has_level, in_order, is_asked, is_interface_or_none, method_rule, of_method, of_name, of_path, path_rule, ruled_targets, rule_for, suggested, targets}
use Rattle.policy_suggest.proofs.Elements.{Has, all-from, all-has, any-finds, any-from, flat-has, has-flat, has-map, map-has}
use Rattle.policy_suggest.proofs.Least.{GrantWithin, itself, method-grant, method-itself, not-both, not-true, or-none, or-true, own-permits, own-within, owner-permitted, path-grant, path-itself, same, see-within, talk-within}
use Rattle.policy_suggest.proofs.Ordered.{has-ordered, ordered-has}

neither : (a b : Bool) → (a || b) ≡ false → (a ≡ false) × (b ≡ false)
neither true b is = absurd cc
neither false b is = (refl, is)

other-one : (a b : Bool) → (a || b) ≡ true → a ≡ false → b ≡ true
other-one true b is bare = absurd cc
other-one false b is bare = is

-- ---- requests

peer-other : (name : Text) → is_peer name ≡ true → is_bus name ≡ false
peer-other name is = not-true (is_bus name) (and_parts (is_well_known name) (not (is_bus name)) is).1

call-parts : (name path : Text) (interface : Option Text) (member : Text) → is_asked (Call name path interface member) ≡ true → (is_peer name ≡ true) × (is_path path ≡ true) × (is_interface_or_none interface ≡ true)
call-parts name path interface member is =
    let first = and_parts (is_peer name && is_path path && is_interface_or_none interface) (is_member member) is in
    let second = and_parts (is_peer name && is_path path) (is_interface_or_none interface) first.0 in
    let third = and_parts (is_peer name) (is_path path) second.0 in
    (third.0, third.1, second.1)

asked-other : (a : Asked) → is_asked a ≡ true → is_bus (asked_name a) ≡ false
asked-other (Call name path interface member) is = peer-other name (call-parts name path interface member is).0
asked-other (Signal name) is = peer-other name is
asked-other (Own name) is = peer-other name is
asked-other (Owner name) is = peer-other name is
asked-other (Broadcast name path interface member) is = absurd cc
asked-other (Property name path interface access) is = absurd cc

path-stands : (name path : Text) (interface : Option Text) (member : Text) → is_asked (Call name path interface member) ≡ true → is_empty path ≡ false
path-stands name path interface member is = some path (call-parts name path interface member is).1
  where
    some : (text : Text) → is_path text ≡ true → is_empty text ≡ false
    some [] is = absurd cc
    some (c ∷ text) is = refl

interface-stands : (name path interface member : Text) → is_asked (Call name path (Some interface) member) ≡ true → is_empty interface ≡ false
interface-stands name path interface member is = some interface (call-parts name path (Some interface) member is).2
  where
    some : (text : Text) → is_interface text ≡ true → is_empty text ≡ false
    some [] is = absurd cc
    some (c ∷ text) is = refl

own-asked : (name : Text) (b : Asked) → asks_own name b ≡ true → b ≡ Own name
own-asked name (Call n path interface member) is = absurd cc
own-asked name (Signal n) is = absurd cc
own-asked name (Own n) is = ap Own (same n name is)
own-asked name (Owner n) is = absurd cc
own-asked name (Broadcast n path interface member) is = absurd cc
own-asked name (Property n path interface access) is = absurd cc

signal-asked : (name : Text) (b : Asked) → asks_signal name b ≡ true → b ≡ Signal name
signal-asked name (Call n path interface member) is = absurd cc
signal-asked name (Signal n) is = ap Signal (same n name is)
signal-asked name (Own n) is = absurd cc
signal-asked name (Owner n) is = absurd cc
signal-asked name (Broadcast n path interface member) is = absurd cc
signal-asked name (Property n path interface access) is = absurd cc

-- a call of the name
record IsCall (name : Text) (b : Asked) : Type 0 where
  path : Text
  interface : Option Text
  member : Text
  is : b ≡ Call name path interface member

call-asked : (name : Text) (b : Asked) → asks_call name b ≡ true → IsCall name b
call-asked name (Call n path interface member) is = record { path = path; interface = interface; member = member; is = ap (λ t. Call t path interface member) (same n name is) }
call-asked name (Signal n) is = absurd cc
call-asked name (Own n) is = absurd cc
call-asked name (Owner n) is = absurd cc
call-asked name (Broadcast n path interface member) is = absurd cc
call-asked name (Property n path interface access) is = absurd cc

-- .. at the path, without an interface
record IsOpenCall (name path : Text) (b : Asked) : Type 0 where
  member : Text
  is : b ≡ Call name path None member

open-asked : (name path : Text) (b : Asked) → asks_any_interface name path b ≡ true → IsOpenCall name path b
open-asked name path (Call n p None member) is =
    let parts = and_parts (bytes_eq n name) (bytes_eq p path) (and_parts (bytes_eq n name && bytes_eq p path) true is).0 in
    record { member = member; is = ap (λ t. Call t p None member) (same n name parts.0) ∙ ap (λ t. Call name t None member) (same p path parts.1) }
open-asked name path (Call n p (Some interface) member) is = absurd (closed (bytes_eq n name) (bytes_eq p path) is)
  where
    closed : (a b : Bool) → (a && b && false) ≡ true → ⊥
    closed true true is = absurd cc
    closed true false is = absurd cc
    closed false b is = absurd cc
open-asked name path (Signal n) is = absurd cc
open-asked name path (Own n) is = absurd cc
open-asked name path (Owner n) is = absurd cc
open-asked name path (Broadcast n p interface member) is = absurd cc
open-asked name path (Property n p interface access) is = absurd cc

talk-permits : (a : Asked) → ((name : Text) → a ≡ Own name → ⊥) → grant_permits to_talk a ≡ true
talk-permits (Call name path interface member) not-own = refl
talk-permits (Signal name) not-own = refl
talk-permits (Own name) not-own = absurd (not-own name refl)
talk-permits (Owner name) not-own = refl
talk-permits (Broadcast name path interface member) not-own = refl
talk-permits (Property name path interface access) not-own = refl

-- ---- grants

abbrev ruled-grant : Target → Grant
ruled-grant t = if is_empty t.path then to_see else to_call (rule_for t)

module _ (all : List Asked) (t : Target) where
  grant-own : list_any (asks_own t.name) all ≡ true → grant_for all t ≡ to_own
  grant-own is = ap (λ b. if b then to_own else (if list_any (asks_signal t.name) all then to_talk else ruled-grant t)) is

  grant-unowned : list_any (asks_own t.name) all ≡ false → grant_for all t ≡ (if list_any (asks_signal t.name) all then to_talk else ruled-grant t)
  grant-unowned bare = ap (λ b. if b then to_own else (if list_any (asks_signal t.name) all then to_talk else ruled-grant t)) bare

  grant-talk : list_any (asks_own t.name) all ≡ false → list_any (asks_signal t.name) all ≡ true → grant_for all t ≡ to_talk
  grant-talk bare is = grant-unowned bare ∙ ap (λ b. if b then to_talk else ruled-grant t) is

  grant-ruled : has_level all t.name ≡ false → grant_for all t ≡ ruled-grant t
  grant-ruled bare =
      let parts = neither (list_any (asks_own t.name) all) (list_any (asks_signal t.name) all) bare in
      grant-unowned parts.0 ∙ ap (λ b. if b then to_talk else ruled-grant t) parts.1

pub targets-level : (all : List Asked) (a : Asked) → has_level all (asked_name a) ≡ true → targets all a ≡ of_name (asked_name a) ∷ []
targets-level all a is = ap (λ b. if b then of_name (asked_name a) ∷ [] else ruled_targets all a) is

pub targets-ruled : (all : List Asked) (a : Asked) → has_level all (asked_name a) ≡ false → targets all a ≡ ruled_targets all a
targets-ruled all a bare = ap (λ b. if b then of_name (asked_name a) ∷ [] else ruled_targets all a) bare

pub only : {X : Type 0} (x y : X) → Has x (y ∷ []) → x ≡ y
only x y (inl e) = e
only x y (inr h) = absurd h

pub path-call : (all : List Asked) (name path : Text) → has_level all name ≡ false → is_empty path ≡ false → grant_for all (of_path name path) ≡ to_call (path_rule path)
path-call all name path bare some = grant-ruled all (of_path name path) bare ∙ ap (λ b. if b then to_see else to_call (path_rule path)) some

pub method-call : (all : List Asked) (name path interface member : Text) → has_level all name ≡ false → is_empty path ≡ false → is_empty interface ≡ false →
    grant_for all (of_method name path (Some interface) member) ≡ to_call (method_rule path interface member)
method-call all name path interface member bare some there =
    grant-ruled all (of_method name path (Some interface) member) bare
    ∙ ap (λ b. if b then to_see else to_call (rule_for (of_method name path (Some interface) member))) some
    ∙ ap (λ b. to_call (if b then path_rule path else method_rule path interface member)) there

pub name-see : (all : List Asked) (name : Text) → has_level all name ≡ false → grant_for all (of_name name) ≡ to_see
name-see all name bare = grant-ruled all (of_name name) bare

-- ---- each request is permitted

-- an entry of the suggested policy that permits the request
record IsPermitted (all : List Asked) (a : Asked) : Type 0 where
  target : Target
  has : Has target (flat_map (targets all) all)
  name : asked_name a ≡ target.name
  grants : grant_permits (grant_for all target) a ≡ true

module _ (all : List Asked) (are : list_all is_asked all ≡ true) where
  module _ (a : Asked) (ha : Has a all) where
    -- a target of the request itself
    by-target : (t : Target) → Has t (targets all a) → asked_name a ≡ t.name → grant_permits (grant_for all t) a ≡ true → IsPermitted all a
    by-target t ht named grants = record { target = t; has = has-flat (targets all) all a t ha ht; name = named; grants = grants }

    by-level : has_level all (asked_name a) ≡ true → IsPermitted all a
    by-level is = by-target (of_name (asked_name a)) (subst (Has (of_name (asked_name a))) (sym (targets-level all a is)) (inl refl)) refl (by (list_any (asks_own (asked_name a)) all) refl)
      where
        not-own : list_any (asks_own (asked_name a)) all ≡ false → (name : Text) → a ≡ Own name → ⊥
        not-own bare name e =
            not-both (list_any (asks_own (asked_name a)) all)
            (any-from (asks_own (asked_name a)) all a ha (ap (λ x. asks_own (asked_name x) x) e ∙ itself name)) bare

        by : (o : Bool) → list_any (asks_own (asked_name a)) all ≡ o → grant_permits (grant_for all (of_name (asked_name a))) a ≡ true
        by true own = ap (λ g. grant_permits g a) (grant-own all (of_name (asked_name a)) own) ∙ own-permits a
        by false bare =
            ap (λ g. grant_permits g a) (grant-talk all (of_name (asked_name a)) bare (other-one (list_any (asks_own (asked_name a)) all) (list_any (asks_signal (asked_name a)) all) is bare))
            ∙ talk-permits a (not-own bare)

  -- a call that names bare interface opens its path
  open-itself : (name path member : Text) → Has (Call name path None member) all → list_any (asks_any_interface name path) all ≡ true
  open-itself name path member h = any-from (asks_any_interface name path) all (Call name path None member) h (and_from (bytes_eq name name && bytes_eq path path) true (and_from (bytes_eq name name) (bytes_eq path path) (itself name) (itself path)) refl)

  call-permitted : (name path : Text) (interface : Option Text) (member : Text) → Has (Call name path interface member) all → has_level all name ≡ false → IsPermitted all (Call name path interface member)
  call-permitted name path interface member h bare = by (list_any (asks_any_interface name path) all) refl
    where
      is : is_asked (Call name path interface member) ≡ true
      is = all-has is_asked all (Call name path interface member) are h

      there : (t : Target) (b : Bool) → list_any (asks_any_interface name path) all ≡ b → t ≡ (if b then of_path name path else of_method name path interface member) → Has t (targets all (Call name path interface member))
      there t b e found = subst (Has t) (sym (targets-ruled all (Call name path interface member) bare)) (inl (found ∙ ap (λ x. if x then of_path name path else of_method name path interface member) (sym e)))

      closed : (i : Option Text) → interface ≡ i → list_any (asks_any_interface name path) all ≡ false → IsPermitted all (Call name path interface member)
      closed None e other = absurd (not-both (list_any (asks_any_interface name path) all) (open-itself name path member (subst (λ i. Has (Call name path i member) all) e h)) other)
      closed (Some i) e other =
          by-target (Call name path interface member) h (of_method name path (Some i) member) (there (of_method name path (Some i) member) false other (ap (λ x. of_method name path x member) (sym e))) refl
          (ap (λ x. grant_permits (grant_for all (of_method name path (Some i) member)) (Call name path x member)) e
          ∙ ap (λ g. grant_permits g (Call name path (Some i) member)) (method-call all name path i member bare (path-stands name path interface member is) (interface-stands name path i member (subst (λ x. is_asked (Call name path x member) ≡ true) e is)))
          ∙ method-itself path i member)

      by : (b : Bool) → list_any (asks_any_interface name path) all ≡ b → IsPermitted all (Call name path interface member)
      by true opened =
          by-target (Call name path interface member) h (of_path name path) (there (of_path name path) true opened refl) refl
          (ap (λ g. grant_permits g (Call name path interface member)) (path-call all name path bare (path-stands name path interface member is)) ∙ path-itself path interface member)
      by false other = closed interface refl other

  owner-permitted-by : (name : Text) → Has (Owner name) all → has_level all name ≡ false → IsPermitted all (Owner name)
  owner-permitted-by name h bare = by (list_any (asks_call name) all) refl
    where
      moved : (b : Asked) → IsCall name b → Has b all → IsPermitted all (Owner name)
      moved b call hb =
          let p = call-permitted name call.path call.interface call.member (subst (λ x. Has x all) call.is hb) bare in
          record { target = p.target; has = p.has; name = p.name; grants = owner-permitted (grant_for all p.target) name }

      by : (b : Bool) → list_any (asks_call name) all ≡ b → IsPermitted all (Owner name)
      by true called = let found = any-finds (asks_call name) all called in moved found.0 (call-asked name found.0 found.2) found.1
      by false other =
          by-target (Owner name) h (of_name name)
          (subst (Has (of_name name)) (sym (targets-ruled all (Owner name) bare ∙ ap (λ x. if x then [] else of_name name ∷ []) other)) (inl refl)) refl
          (owner-permitted (grant_for all (of_name name)) name)

  by-rule : (a : Asked) → Has a all → has_level all (asked_name a) ≡ false → IsPermitted all a
  by-rule (Call name path interface member) h bare = call-permitted name path interface member h bare
  by-rule (Signal name) h bare =
      absurd (not-both (list_any (asks_signal name) all) (any-from (asks_signal name) all (Signal name) h (itself name)) (neither (list_any (asks_own name) all) (list_any (asks_signal name) all) bare).1)
  by-rule (Own name) h bare =
      absurd (not-both (list_any (asks_own name) all) (any-from (asks_own name) all (Own name) h (itself name)) (neither (list_any (asks_own name) all) (list_any (asks_signal name) all) bare).0)
  by-rule (Owner name) h bare = owner-permitted-by name h bare
  by-rule (Broadcast name path interface member) h bare = absurd (never (all-has is_asked all (Broadcast name path interface member) are h))
    where
      never : false ≡ true → ⊥
      never e = absurd cc
  by-rule (Property name path interface access) h bare = absurd (never (all-has is_asked all (Property name path interface access) are h))
    where
      never : false ≡ true → ⊥
      never e = absurd cc

  permitted : (a : Asked) → Has a all → IsPermitted all a
  permitted a h = by (has_level all (asked_name a)) refl
    where
      by : (b : Bool) → has_level all (asked_name a) ≡ b → IsPermitted all a
      by true is = by-level a h is
      by false bare = by-rule a h bare

  suggested-permits : (a : Asked) → Has a all → permits (suggested all) a ≡ true
  unfolding suggested
  suggested-permits a h =
      let p = permitted a h in
      permits_by_entries (suggested all) a (asked-other a (all-has is_asked all a are h))
      ∙ any-from (λ e. covers e.pattern (asked_name a) && grant_permits e.grant a) (entries_for all) (entry_for all p.target)
      (has-map (entry_for all) (in_order (flat_map (targets all) all)) p.target (has-ordered (flat_map (targets all) all) p.target p.has))
      (and_from (bytes_eq (asked_name a) p.target.name || false) (grant_permits (grant_for all p.target) a)
      (or-true (bytes_eq (asked_name a) p.target.name) false (ap (λ n. bytes_eq (asked_name a) n) (sym p.name) ∙ itself (asked_name a))) p.grants)

  pub permits-all : list_all (permits (suggested all)) all ≡ true
  permits-all = all-from (permits (suggested all)) all suggested-permits

  -- ---- nothing else is permitted

  abbrev ReadsAgain : Grant → Type 0
  ReadsAgain g = (r : Rule) → g ≡ to_call r → rule_of r.text ≡ Some r

  -- a request that bare grant of words permits which doesn't permit all that the target's entry does
  record IsNeeded (t : Target) : Type 0 where
    asked : Asked
    has : Has asked all
    name : asked_name asked ≡ t.name
    within : (g : Grant) → ReadsAgain g → grant_permits g asked ≡ true → GrantWithin (grant_for all t) g

  needed-level : (name : Text) → has_level all name ≡ true → IsNeeded (of_name name)
  needed-level name is = by (list_any (asks_own name) all) refl
    where
      by : (o : Bool) → list_any (asks_own name) all ≡ o → IsNeeded (of_name name)
      by true own =
          let found = any-finds (asks_own name) all own in
          let e : found.0 ≡ Own name = own-asked name found.0 found.2 in
          record {
            asked = Own name;
            has = subst (λ x. Has x all) e found.1;
            name = refl;
            within = λ g reads permits. subst (λ x. GrantWithin x g) (sym (grant-own all (of_name name) own)) (own-within g name permits);
          }
      by false bare =
          let signalled = other-one (list_any (asks_own name) all) (list_any (asks_signal name) all) is bare in
          let found = any-finds (asks_signal name) all signalled in
          let e : found.0 ≡ Signal name = signal-asked name found.0 found.2 in
          record {
            asked = Signal name;
            has = subst (λ x. Has x all) e found.1;
            name = refl;
            within = λ g reads permits. subst (λ x. GrantWithin x g) (sym (grant-talk all (of_name name) bare signalled)) (talk-within g name permits);
          }

  needed-call : (name path : Text) (interface : Option Text) (member : Text) → Has (Call name path interface member) all → has_level all name ≡ false →
      IsNeeded (if list_any (asks_any_interface name path) all then of_path name path else of_method name path interface member)
  needed-call name path interface member h bare = by (list_any (asks_any_interface name path) all) refl
    where
      is : is_asked (Call name path interface member) ≡ true
      is = all-has is_asked all (Call name path interface member) are h

      closed : (i : Option Text) → interface ≡ i → list_any (asks_any_interface name path) all ≡ false → IsNeeded (of_method name path i member)
      closed None e other = absurd (not-both (list_any (asks_any_interface name path) all) (open-itself name path member (subst (λ i. Has (Call name path i member) all) e h)) other)
      closed (Some i) e other = record {
        asked = Call name path (Some i) member;
        has = subst (λ x. Has (Call name path x member) all) e h;
        name = refl;
        within = λ g reads permits.
            subst (λ x. GrantWithin x g)
            (sym (method-call all name path i member bare (path-stands name path interface member is) (interface-stands name path i member (subst (λ x. is_asked (Call name path x member) ≡ true) e is))))
            (method-grant name path i member g permits);
      }

      by : (b : Bool) → list_any (asks_any_interface name path) all ≡ b → IsNeeded (if b then of_path name path else of_method name path interface member)
      by true opened =
          let found = any-finds (asks_any_interface name path) all opened in
          let call = open-asked name path found.0 found.2 in
          record {
            asked = Call name path None call.member;
            has = subst (λ x. Has x all) call.is found.1;
            name = refl;
            within = λ g reads permits.
                subst (λ x. GrantWithin x g) (sym (path-call all name path bare (path-stands name path interface member is))) (path-grant name path call.member g reads permits);
          }
      by false other = closed interface refl other

  needed-owner : (name : Text) (t : Target) → Has (Owner name) all → has_level all name ≡ false → Has t (if list_any (asks_call name) all then [] else of_name name ∷ []) → IsNeeded t
  needed-owner name t h bare ht = by (list_any (asks_call name) all) ht
    where
      by : (b : Bool) → Has t (if b then [] else of_name name ∷ []) → IsNeeded t
      by true k = absurd k
      by false k =
          subst IsNeeded (sym (only t (of_name name) k)) (record {
            asked = Owner name;
            has = h;
            name = refl;
            within = λ g reads permits. subst (λ x. GrantWithin x g) (sym (name-see all name bare)) (see-within g);
          })

  needed-ruled : (a : Asked) (t : Target) → Has a all → has_level all (asked_name a) ≡ false → Has t (ruled_targets all a) → IsNeeded t
  needed-ruled (Call name path interface member) t h bare ht = subst IsNeeded (sym (only t _ ht)) (needed-call name path interface member h bare)
  needed-ruled (Signal name) t h bare ht =
      absurd (not-both (list_any (asks_signal name) all) (any-from (asks_signal name) all (Signal name) h (itself name)) (neither (list_any (asks_own name) all) (list_any (asks_signal name) all) bare).1)
  needed-ruled (Own name) t h bare ht =
      absurd (not-both (list_any (asks_own name) all) (any-from (asks_own name) all (Own name) h (itself name)) (neither (list_any (asks_own name) all) (list_any (asks_signal name) all) bare).0)
  needed-ruled (Owner name) t h bare ht = needed-owner name t h bare ht
  needed-ruled (Broadcast name path interface member) t h bare ht = absurd (never (all-has is_asked all (Broadcast name path interface member) are h))
    where
      never : false ≡ true → ⊥
      never e = absurd cc
  needed-ruled (Property name path interface access) t h bare ht = absurd (never (all-has is_asked all (Property name path interface access) are h))
    where
      never : false ≡ true → ⊥
      never e = absurd cc

  needed : (a : Asked) (t : Target) → Has a all → Has t (targets all a) → IsNeeded t
  needed a t h ht = by (has_level all (asked_name a)) refl
    where
      by : (b : Bool) → has_level all (asked_name a) ≡ b → IsNeeded t
      by true is = subst IsNeeded (sym (only t (of_name (asked_name a)) (subst (Has t) (targets-level all a is) ht))) (needed-level (asked_name a) is)
      by false bare = needed-ruled a t h bare (subst (Has t) (targets-ruled all a bare) ht)

grammar-at : (es : List Entry) (e : Entry) → AreInGrammar es → Has e es → InGrammar e
grammar-at [] e are h = absurd h
grammar-at (x ∷ es) e are (inl same) = subst InGrammar (sym same) are.0
grammar-at (x ∷ es) e are (inr h) = grammar-at es e are.1 h

pub suggested-least : (all : List Asked) (policy : Policy) → list_all is_asked all ≡ true → AreInGrammar policy.entries → list_all (permits policy) all ≡ true → Within (suggested all) policy
unfolding suggested GrantWithin
suggested-least all policy are grammar permitting = λ asked is permitted.
    let name = asked_name asked in
    let other : is_bus name ≡ false = not-true (is_bus name) (and_parts (are_two_joined is_bus_element name) (not (is_bus name)) is).1 in
    let found = any-finds (λ e. covers e.pattern name && grant_permits e.grant asked) (entries_for all) (sym (permits_by_entries (suggested all) asked other) ∙ permitted) in
    let made = map-has (entry_for all) (in_order (flat_map (targets all) all)) found.0 found.1 in
    let t = made.0 in
    let source = flat-has (targets all) all t (ordered-has (flat_map (targets all) all) t made.1) in
    let need = needed all are source.0 t source.1 source.2 in
    let passes = and_parts (covers (entry_for all t).pattern name) (grant_permits (grant_for all t) asked) (ap (λ e. covers e.pattern name && grant_permits e.grant asked) (sym made.2) ∙ found.2) in
    let named : name ≡ asked_name need.asked = same name t.name (or-none (bytes_eq name t.name) passes.0) ∙ sym need.name in
    let held = any-finds (λ e. covers e.pattern (asked_name need.asked) && grant_permits e.grant need.asked) policy.entries
    (sym (permits_by_entries policy need.asked (asked-other need.asked (all-has is_asked all need.asked are need.has))) ∙ all-has (permits policy) all need.asked permitting need.has) in
    let holds = and_parts (covers held.0.pattern (asked_name need.asked)) (grant_permits held.0.grant need.asked) held.2 in
    let g = grammar-at policy.entries held.0 grammar held.1 in
    permits_by_entries policy asked other
    ∙ any-from (λ e. covers e.pattern name && grant_permits e.grant asked) policy.entries held.0 held.1
    (and_from (covers held.0.pattern name) (grant_permits held.0.grant asked) (ap (covers held.0.pattern) named ∙ holds.0) (need.within held.0.grant (λ r e. g.rule r (inl e)) holds.1 asked passes.1))
