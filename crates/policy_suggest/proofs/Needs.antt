-- What a request asks is told by the entry that it needs alone, and that entry by its word.
use Rattle.std.proofs.Common.{◌≡◌, ◌⊎◌, inl, inr, Bool, true, false, not, ◌&&◌, List, [], ◌∷◌, Option, Some, None, Result, Ok, if◌then◌else◌, unwrap_or, refl, ap, sym, ◌∙◌, subst}
use Rattle.std.specs.List.{list_any}
use Rattle.std.specs.Option.{is_none}
use Rattle.std.specs.Str.{bytes_eq}
use Rattle.std.proofs.lemmas.Bool.{and_parts}
use Rattle.call_rules.specs.Rules.{Rule, rule_of}
use Rattle.dbus_names.specs.Names.{is_bus, is_empty, is_interface, is_member, is_path, is_well_known}
use Rattle.dbus_names.specs.Texts.{Text}
use Rattle.policy_args.specs.Policy.{InGrammar, entry_word}
use Rattle.policy_args.specs.Requests.{asked_name}
use Rattle.policy_args.specs.Words.{entry_of}
use Rattle.policy_args.specs.declared.WordKind.{WordKind}
use Rattle.policy_args.specs.declared.entry.Entry.{Entry}
use Rattle.policy_args.specs.declared.entry.Grant.{Grant}
use Rattle.policy_args.specs.declared.entry.Grant.TheVariants.{See as to_see, Talk as to_talk, Own as to_own, Call as to_call, Broadcast as to_broadcast, Property as to_property}
use Rattle.policy_args.specs.declared.requests.Asked.{Asked}
use Rattle.policy_args.specs.declared.requests.Asked.TheVariants.{Call, Signal, Own, Owner, Broadcast, Property}
use Rattle.policy_args.proofs.EntryAgain.{entry_of-entry_word}
use Rattle.policy_suggest.specs.AskedBy.{is_peer}
use Rattle.policy_suggest.specs.Needs.{need, need_word}
use Rattle.policy_suggest.specs.Suggest.{Target, asks_any_interface, asks_call, asks_own, asks_signal, has_level, is_asked, is_interface_or_none, method_rule, of_method, of_name, of_path, path_rule, rule_for, targets}
use Rattle.policy_suggest.proofs.Grammar.{method-rule-read, path-rule-read}
use Rattle.policy_suggest.proofs.Least.{same}

-- ---- requests

pub record CallParts (name path : Text) (interface : Option Text) (member : Text) : Type 0 where
  pub name_is : is_peer name ≡ true
  pub path_is : is_path path ≡ true
  pub interface_is : is_interface_or_none interface ≡ true
  pub member_is : is_member member ≡ true

pub call-parts : (name path : Text) (interface : Option Text) (member : Text) → is_asked (Call name path interface member) ≡ true → CallParts name path interface member
call-parts name path interface member is =
    let first = and_parts (is_peer name && is_path path && is_interface_or_none interface) (is_member member) is in
    let second = and_parts (is_peer name && is_path path) (is_interface_or_none interface) first.0 in
    let third = and_parts (is_peer name) (is_path path) second.0 in
    record { name_is = third.0; path_is = third.1; interface_is = second.1; member_is = first.1 }

pub peer-known : (name : Text) → is_peer name ≡ true → is_well_known name ≡ true
peer-known name is = (and_parts (is_well_known name) (not (is_bus name)) is).0

pub interface-stands : (i : Text) → is_interface i ≡ true → is_empty i ≡ false
interface-stands [] is = absurd cc
interface-stands (c ∷ i) is = refl

-- ---- entries that words can give

pub rule-grammar : (name : Text) (r : Rule) → is_well_known name ≡ true → rule_of r.text ≡ Some r → InGrammar (record { pattern = record { name = name; exact = true }; grant = to_call r })
rule-grammar name r known read = record { pattern = known; rule = its; property_rule = λ s is. absurd cc }
  where
    its : (s : Rule) → (to_call r ≡ to_call s) ⊎ (to_call r ≡ to_broadcast s) → rule_of s.text ≡ Some s
    its s (inl is) = let held : r ≡ s = cc in subst (λ q. rule_of q.text ≡ Some q) held read
    its s (inr is) = absurd cc

pub see-grammar : (name : Text) → is_well_known name ≡ true → InGrammar (record { pattern = record { name = name; exact = true }; grant = to_see })
see-grammar name known = record { pattern = known; rule = its; property_rule = λ s is. absurd cc }
  where
    its : (s : Rule) → (to_see ≡ to_call s) ⊎ (to_see ≡ to_broadcast s) → rule_of s.text ≡ Some s
    its s (inl is) = absurd cc
    its s (inr is) = absurd cc

pub talk-grammar : (name : Text) → is_well_known name ≡ true → InGrammar (record { pattern = record { name = name; exact = true }; grant = to_talk })
talk-grammar name known = record { pattern = known; rule = its; property_rule = λ s is. absurd cc }
  where
    its : (s : Rule) → (to_talk ≡ to_call s) ⊎ (to_talk ≡ to_broadcast s) → rule_of s.text ≡ Some s
    its s (inl is) = absurd cc
    its s (inr is) = absurd cc

pub own-grammar : (name : Text) → is_well_known name ≡ true → InGrammar (record { pattern = record { name = name; exact = true }; grant = to_own })
own-grammar name known = record { pattern = known; rule = its; property_rule = λ s is. absurd cc }
  where
    its : (s : Rule) → (to_own ≡ to_call s) ⊎ (to_own ≡ to_broadcast s) → rule_of s.text ≡ Some s
    its s (inl is) = absurd cc
    its s (inr is) = absurd cc

pub method-target : (name path i member : Text) → is_interface i ≡ true → rule_for (of_method name path (Some i) member) ≡ method_rule path i member
method-target name path i member is = ap (λ b. if b then path_rule path else method_rule path i member) (interface-stands i is)

need-grammar : (a : Asked) → is_asked a ≡ true → InGrammar (need a)
need-grammar (Call name path None member) is =
    let parts = call-parts name path None member is in
    rule-grammar name (path_rule path) (peer-known name parts.name_is) (path-rule-read path parts.path_is)
need-grammar (Call name path (Some i) member) is =
    let parts = call-parts name path (Some i) member is in
    subst (λ r. InGrammar (record { pattern = record { name = name; exact = true }; grant = to_call r })) (sym (method-target name path i member parts.interface_is))
    (rule-grammar name (method_rule path i member) (peer-known name parts.name_is) (method-rule-read path i member parts.path_is parts.interface_is parts.member_is))
need-grammar (Signal name) is = talk-grammar name (peer-known name is)
need-grammar (Own name) is = own-grammar name (peer-known name is)
need-grammar (Owner name) is = see-grammar name (peer-known name is)
need-grammar (Broadcast name path interface member) is = absurd cc
need-grammar (Property name path interface access) is = absurd cc

abbrev ok : Entry → Result Entry WordKind
ok e = Ok e

ok-same : (d e : Entry) → ok d ≡ ok e → d ≡ e
ok-same d e is = cc

pub same-entry : (d e : Entry) → InGrammar d → InGrammar e → bytes_eq (entry_word d) (entry_word e) ≡ true → d ≡ e
same-entry d e first second words =
    ok-same d e (sym (entry_of-entry_word d first) ∙ ap entry_of (same (entry_word d) (entry_word e) words) ∙ entry_of-entry_word e second)

pub same-need : (a b : Asked) → is_asked a ≡ true → is_asked b ≡ true → bytes_eq (need_word a) (need_word b) ≡ true → need a ≡ need b
same-need a b first second = same-entry (need a) (need b) (need-grammar a first) (need-grammar b second)

-- ---- what an entry tells of the request that needs it

owns : Text → Text → Grant → Bool
owns name n to_see = false
owns name n to_talk = false
owns name n to_own = bytes_eq n name
owns name n (to_call r) = false
owns name n (to_broadcast r) = false
owns name n (to_property r) = false

talks : Text → Text → Grant → Bool
talks name n to_see = false
talks name n to_talk = bytes_eq n name
talks name n to_own = false
talks name n (to_call r) = false
talks name n (to_broadcast r) = false
talks name n (to_property r) = false

calls : Text → Text → Grant → Bool
calls name n to_see = false
calls name n to_talk = false
calls name n to_own = false
calls name n (to_call r) = bytes_eq n name
calls name n (to_broadcast r) = false
calls name n (to_property r) = false

opens : Text → Text → Text → Grant → Bool
opens name path n to_see = false
opens name path n to_talk = false
opens name path n to_own = false
opens name path n (to_call r) = bytes_eq n name && bytes_eq (unwrap_or r.path []) path && is_none r.interface
opens name path n (to_broadcast r) = false
opens name path n (to_property r) = false

rule_targets : List Asked → Text → Rule → List Target
rule_targets all n r =
    (if list_any (asks_any_interface n (unwrap_or r.path [])) all then of_path n (unwrap_or r.path [])
    else record { name = n; path = unwrap_or r.path []; interface = unwrap_or r.interface []; member = unwrap_or r.member [] }) ∷ []

name_targets : List Asked → Text → List Target
name_targets all n = if list_any (asks_call n) all then [] else of_name n ∷ []

ruled : List Asked → Text → Grant → List Target
ruled all n to_see = name_targets all n
ruled all n to_talk = name_targets all n
ruled all n to_own = name_targets all n
ruled all n (to_call r) = rule_targets all n r
ruled all n (to_broadcast r) = name_targets all n
ruled all n (to_property r) = name_targets all n

targets_of : List Asked → Entry → List Target
targets_of all e = if has_level all e.pattern.name then of_name e.pattern.name ∷ [] else ruled all e.pattern.name e.grant

own-told : (name : Text) (a : Asked) → asks_own name a ≡ owns name (need a).pattern.name (need a).grant
unfolding owns
own-told name (Call n path interface member) = refl
own-told name (Signal n) = refl
own-told name (Own n) = refl
own-told name (Owner n) = refl
own-told name (Broadcast n path interface member) = refl
own-told name (Property n path interface access) = refl

signal-told : (name : Text) (a : Asked) → asks_signal name a ≡ talks name (need a).pattern.name (need a).grant
unfolding talks
signal-told name (Call n path interface member) = refl
signal-told name (Signal n) = refl
signal-told name (Own n) = refl
signal-told name (Owner n) = refl
signal-told name (Broadcast n path interface member) = refl
signal-told name (Property n path interface access) = refl

call-told : (name : Text) (a : Asked) → asks_call name a ≡ calls name (need a).pattern.name (need a).grant
unfolding calls
call-told name (Call n path interface member) = refl
call-told name (Signal n) = refl
call-told name (Own n) = refl
call-told name (Owner n) = refl
call-told name (Broadcast n path interface member) = refl
call-told name (Property n path interface access) = refl

open-told : (name path : Text) (a : Asked) → is_asked a ≡ true → asks_any_interface name path a ≡ opens name path (need a).pattern.name (need a).grant
unfolding opens
open-told name path (Call n p None member) is = refl
open-told name path (Call n p (Some i) member) is =
    ap (λ r. opens name path n (to_call r)) (sym (method-target n p i member (call-parts n p (Some i) member is).interface_is))
open-told name path (Signal n) is = refl
open-told name path (Own n) is = refl
open-told name path (Owner n) is = refl
open-told name path (Broadcast n p interface member) is = absurd cc
open-told name path (Property n p interface access) is = absurd cc

targets-told : (all : List Asked) (a : Asked) → is_asked a ≡ true → targets all a ≡ targets_of all (need a)
unfolding targets_of ruled rule_targets name_targets
targets-told all (Call n p None member) is = refl
targets-told all (Call n p (Some i) member) is =
    ap (λ r. if has_level all n then of_name n ∷ [] else ruled all n (to_call r)) (sym (method-target n p i member (call-parts n p (Some i) member is).interface_is))
targets-told all (Signal n) is = refl
targets-told all (Own n) is = refl
targets-told all (Owner n) is = refl
targets-told all (Broadcast n p interface member) is = absurd cc
targets-told all (Property n p interface access) is = absurd cc

-- ---- requests that need the same entry

module _ (a b : Asked) (first : is_asked a ≡ true) (second : is_asked b ≡ true) (both : need a ≡ need b) where
  pub same-own : (name : Text) → asks_own name a ≡ asks_own name b
  same-own name = own-told name a ∙ ap (λ e. owns name e.pattern.name e.grant) both ∙ sym (own-told name b)

  pub same-signal : (name : Text) → asks_signal name a ≡ asks_signal name b
  same-signal name = signal-told name a ∙ ap (λ e. talks name e.pattern.name e.grant) both ∙ sym (signal-told name b)

  pub same-call : (name : Text) → asks_call name a ≡ asks_call name b
  same-call name = call-told name a ∙ ap (λ e. calls name e.pattern.name e.grant) both ∙ sym (call-told name b)

  pub same-open : (name path : Text) → asks_any_interface name path a ≡ asks_any_interface name path b
  same-open name path = open-told name path a first ∙ ap (λ e. opens name path e.pattern.name e.grant) both ∙ sym (open-told name path b second)

  pub same-targets : (all : List Asked) → targets all a ≡ targets all b
  same-targets all = targets-told all a first ∙ ap (targets_of all) both ∙ sym (targets-told all b second)
