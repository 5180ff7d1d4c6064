-- What grants permit, one beside another.
use Rattle.std.proofs.Common.{◌≡◌, Bool, true, false, not, ◌&&◌, ◌||◌, Option, Some, None, if◌then◌else◌, refl, ap, sym, ◌∙◌}
use Rattle.std.specs.List.{list_any, after_first, after_last, before_first, before_last}
use Rattle.std.specs.Str.{bytes_eq}
use Rattle.std.specs.Cmp.Lexicographic.{bytes_decides, nat_list_eq_equiv}
use Rattle.std.proofs.lemmas.Bool.{and_from, and_parts}
use Rattle.call_rules.specs.Rules.{Method, Place, Rule, is_at, is_dot, is_star, matches, method_of, method_of_parts, part_matches, path_matches, place_of, rule_of, rule_of_parts}
use Rattle.dbus_names.specs.Names.{is_empty, is_interface, is_member}
use Rattle.dbus_names.specs.Texts.{Text}
use Rattle.policy_args.specs.Requests.{access_member, grant_permits, properties_interface}
use Rattle.policy_args.specs.declared.entry.Grant.{Grant}
use Rattle.policy_args.specs.declared.entry.Grant.TheVariants.{See as to_see, Talk as to_talk, Own as to_own, Call as to_call, Broadcast as to_broadcast, Property as to_property}
use Rattle.policy_args.specs.declared.requests.Asked.{Asked}
use Rattle.policy_args.specs.declared.requests.Asked.TheVariants.{Call, Signal, Own, Owner, Broadcast, Property}
use Rattle.policy_suggest.specs.Suggest.{method_rule, path_rule}

-- ---- truth

pub or-true : (a b : Bool) → a ≡ true → (a || b) ≡ true
or-true true b is = refl
or-true false b is = absurd cc

pub or-none : (b : Bool) → (b || false) ≡ true → b ≡ true
or-none true is = refl
or-none false is = is

pub not-true : (b : Bool) → not b ≡ true → b ≡ false
not-true true is = absurd cc
not-true false is = refl

pub not-both : (b : Bool) → b ≡ true → b ≡ false → ⊥
not-both true is other = absurd cc
not-both false is other = absurd cc

pub same : (a b : Text) → bytes_eq a b ≡ true → a ≡ b
same a b e = (bytes_decides a b).0 e

pub itself : (a : Text) → bytes_eq a a ≡ true
itself a = nat_list_eq_equiv.refl a

-- ---- grants

-- what the first grant permits the second permits
unfoldable pub GrantWithin : Grant → Grant → Type 0
GrantWithin a b = (asked : Asked) → grant_permits a asked ≡ true → grant_permits b asked ≡ true

pub owner-permitted : (g : Grant) (name : Text) → grant_permits g (Owner name) ≡ true
owner-permitted to_see name = refl
owner-permitted to_talk name = refl
owner-permitted to_own name = refl
owner-permitted (to_call rule) name = refl
owner-permitted (to_broadcast rule) name = refl
owner-permitted (to_property rule) name = refl

pub own-permits : (asked : Asked) → grant_permits to_own asked ≡ true
own-permits (Call name path interface member) = refl
own-permits (Signal name) = refl
own-permits (Own name) = refl
own-permits (Owner name) = refl
own-permits (Broadcast name path interface member) = refl
own-permits (Property name path interface access) = refl

within-own : (a : Grant) → GrantWithin a to_own
unfolding GrantWithin
within-own a asked is = own-permits asked

-- a grant that permits the name to be owned
pub own-within : (g : Grant) (name : Text) → grant_permits g (Own name) ≡ true → GrantWithin to_own g
own-within to_see name is = absurd cc
own-within to_talk name is = absurd cc
own-within to_own name is = within-own to_own
own-within (to_call rule) name is = absurd cc
own-within (to_broadcast rule) name is = absurd cc
own-within (to_property rule) name is = absurd cc

-- .. and one that permits a signal
talk-itself : GrantWithin to_talk to_talk
unfolding GrantWithin
talk-itself asked is = is

pub talk-within : (g : Grant) (name : Text) → grant_permits g (Signal name) ≡ true → GrantWithin to_talk g
talk-within to_see name is = absurd cc
talk-within to_talk name is = talk-itself
talk-within to_own name is = within-own to_talk
talk-within (to_call rule) name is = absurd cc
talk-within (to_broadcast rule) name is = absurd cc
talk-within (to_property rule) name is = absurd cc

-- See permits the owner to be asked for, as each grant does
pub see-within : (g : Grant) → GrantWithin to_see g
unfolding GrantWithin
see-within g (Call name path interface member) is = absurd cc
see-within g (Signal name) is = absurd cc
see-within g (Own name) is = absurd cc
see-within g (Owner name) is = owner-permitted g name
see-within g (Broadcast name path interface member) is = absurd cc
see-within g (Property name path interface access) is = absurd cc

call-within-talk : (rule : Rule) → GrantWithin (to_call rule) to_talk
unfolding GrantWithin
call-within-talk rule (Call name path interface member) is = refl
call-within-talk rule (Signal name) is = refl
call-within-talk rule (Own name) is = absurd cc
call-within-talk rule (Owner name) is = refl
call-within-talk rule (Broadcast name path interface member) is = refl
call-within-talk rule (Property name path interface access) is = refl

-- each call that the first rule matches the second matches
call-within : (a b : Rule) → ((path : Text) (interface : Option Text) (member : Text) → matches a path interface member ≡ true → matches b path interface member ≡ true) → GrantWithin (to_call a) (to_call b)
unfolding GrantWithin
call-within a b each (Call name path interface member) is = each path interface member is
call-within a b each (Signal name) is = absurd cc
call-within a b each (Own name) is = absurd cc
call-within a b each (Owner name) is = refl
call-within a b each (Broadcast name path interface member) is = absurd cc
call-within a b each (Property name path interface access) is =
    or-true (matches b path (Some properties_interface) (access_member access)) false
    (each path (Some properties_interface) (access_member access) (or-none (matches a path (Some properties_interface) (access_member access)) is))

-- ---- rules

record Matches (r : Rule) (path : Text) (interface : Option Text) (member : Text) : Type 0 where
  of_path : path_matches r.path r.below path ≡ true
  of_interface : part_matches r.interface interface ≡ true
  of_member : part_matches r.member (Some member) ≡ true

match-parts : (r : Rule) (path : Text) (interface : Option Text) (member : Text) → matches r path interface member ≡ true → Matches r path interface member
match-parts r path interface member is =
    let first = and_parts (path_matches r.path r.below path && part_matches r.interface interface) (part_matches r.member (Some member)) is in
    let rest = and_parts (path_matches r.path r.below path) (part_matches r.interface interface) first.0 in
    record { of_path = rest.0; of_interface = rest.1; of_member = first.1 }

match-from : (r : Rule) (path : Text) (interface : Option Text) (member : Text) → Matches r path interface member → matches r path interface member ≡ true
match-from r path interface member m =
    and_from (path_matches r.path r.below path && part_matches r.interface interface) (part_matches r.member (Some member))
    (and_from (path_matches r.path r.below path) (part_matches r.interface interface) m.of_path m.of_interface) m.of_member

part-same : (part : Text) (given : Option Text) → part_matches (Some part) given ≡ true → Some part ≡ given
part-same part None is = absurd cc
part-same part (Some given) is = ap (λ t. Some t) (same part given is)

-- the calls that the rule of one method matches
method-matches : (p i m : Text) (path : Text) (interface : Option Text) (member : Text) → matches (method_rule p i m) path interface member ≡ true → (path ≡ p) × (Some i ≡ interface) × (m ≡ member)
method-matches p i m path interface member is =
    let parts = match-parts (method_rule p i m) path interface member is in
    (same path p (or-none (bytes_eq path p) parts.of_path), part-same i interface parts.of_interface, same m member parts.of_member)

pub method-itself : (p i m : Text) → matches (method_rule p i m) p (Some i) m ≡ true
method-itself p i m =
    match-from (method_rule p i m) p (Some i) m (record { of_path = or-true (bytes_eq p p) (false && false) (itself p); of_interface = itself i; of_member = itself m })

-- a rule that matches the call matches all that the rule of its method does
method-within : (p i m : Text) (r : Rule) → matches r p (Some i) m ≡ true → GrantWithin (to_call (method_rule p i m)) (to_call r)
method-within p i m r is = call-within (method_rule p i m) r (λ path interface member found.
    let parts = method-matches p i m path interface member found in
    ap (λ t. matches r t interface member) parts.0 ∙ ap (λ o. matches r p o member) (sym parts.1) ∙ ap (λ t. matches r p (Some i) t) (sym parts.2) ∙ is)

pub path-itself : (p : Text) (interface : Option Text) (member : Text) → matches (path_rule p) p interface member ≡ true
path-itself p interface member = match-from (path_rule p) p interface member (record { of_path = or-true (bytes_eq p p) false (itself p); of_interface = refl; of_member = refl })

-- a rule that a text says names a member only with an interface
abbrev names_both : Option Text → Option Text → Bool
names_both None (Some member) = false
names_both interface member = true

abbrev method_both : Option Method → Bool
method_both None = true
method_both (Some m) = names_both m.interface m.member

abbrev rule_both : Option Rule → Bool
rule_both None = true
rule_both (Some r) = names_both r.interface r.member

parts-both : (interface member : Text) → method_both (method_of_parts interface member) ≡ true
parts-both interface member = by (not (is_interface interface)) (is_star member) (is_member member)
  where
    by : (a b c : Bool) → method_both (if a then None else (if b then Some (record { interface = Some interface; member = None }) else (if c then Some (record { interface = Some interface; member = Some member }) else None))) ≡ true
    by true b c = refl
    by false true c = refl
    by false false true = refl
    by false false false = refl

method-both : (text : Text) → method_both (method_of text) ≡ true
method-both text = by (is_empty text || is_star text) (list_any is_dot text)
  where
    by : (a b : Bool) → method_both (if a then Some (record { interface = None; member = None }) else (if b then method_of_parts (before_last is_dot text) (after_last is_dot text) else None)) ≡ true
    by true b = refl
    by false true = parts-both (before_last is_dot text) (after_last is_dot text)
    by false false = refl

joined-both : (text : Text) (m : Option Method) (p : Option Place) → method_both m ≡ true → rule_both (rule_of_parts text m p) ≡ true
joined-both text None p is = refl
joined-both text (Some m) None is = refl
joined-both text (Some m) (Some p) is = is

rule-both : (text : Text) → rule_both (rule_of text) ≡ true
rule-both text = by (list_any is_at text)
  where
    by : (b : Bool) → rule_both (if b then rule_of_parts text (method_of (before_first is_at text)) (place_of (after_first is_at text)) else rule_of_parts text (method_of text) (Some (record { path = None; below = false }))) ≡ true
    by true = joined-both text (method_of (before_first is_at text)) (place_of (after_first is_at text)) (method-both (before_first is_at text))
    by false = joined-both text (method_of text) (Some (record { path = None; below = false })) (method-both text)

-- so one that matches a call without an interface matches all calls at the path
any-call : (i m : Option Text) (member other : Text) (interface : Option Text) → names_both i m ≡ true → part_matches i None ≡ true → (part_matches i interface ≡ true) × (part_matches m (Some other) ≡ true)
any-call None None member other interface both none = (refl, refl)
any-call None (Some m) member other interface both none = absurd cc
any-call (Some i) m member other interface both none = absurd cc

path-within : (p member : Text) (r : Rule) → rule_of r.text ≡ Some r → matches r p None member ≡ true → GrantWithin (to_call (path_rule p)) (to_call r)
path-within p member r read is = call-within (path_rule p) r (λ path interface other found.
    let parts = match-parts r p None member is in
    let there : path ≡ p = same path p (or-none (bytes_eq path p) (match-parts (path_rule p) path interface other found).of_path) in
    let any = any-call r.interface r.member member other interface (sym (ap rule_both read) ∙ rule-both r.text) parts.of_interface in
    ap (λ t. matches r t interface other) there ∙ match-from r p interface other (record { of_path = parts.of_path; of_interface = any.0; of_member = any.1 }))

-- ---- a grant that permits a call

pub method-grant : (name p i m : Text) (g : Grant) → grant_permits g (Call name p (Some i) m) ≡ true → GrantWithin (to_call (method_rule p i m)) g
method-grant name p i m to_see is = absurd cc
method-grant name p i m to_talk is = call-within-talk (method_rule p i m)
method-grant name p i m to_own is = within-own (to_call (method_rule p i m))
method-grant name p i m (to_call r) is = method-within p i m r is
method-grant name p i m (to_broadcast r) is = absurd cc
method-grant name p i m (to_property r) is = absurd cc

pub path-grant : (name p m : Text) (g : Grant) → ((r : Rule) → g ≡ to_call r → rule_of r.text ≡ Some r) → grant_permits g (Call name p None m) ≡ true → GrantWithin (to_call (path_rule p)) g
path-grant name p m to_see read is = absurd cc
path-grant name p m to_talk read is = call-within-talk (path_rule p)
path-grant name p m to_own read is = within-own (to_call (path_rule p))
path-grant name p m (to_call r) read is = path-within p m r (read r refl) is
path-grant name p m (to_broadcast r) read is = absurd cc
path-grant name p m (to_property r) read is = absurd cc
