use Rattle.std.proofs.Common.{rules, ◌≡◌, ◌+◌, None, Some, refl, ap, ap₂, sym, ◌∙◌, subst, arith, length, Bool, Option}
use Rattle.std.specs.HashMap.{get_by_text}
use Rattle.std.proofs.lemmas.Map.Text.{hash_map_updates_text}
use Rattle.name_patterns.specs.PatternIndex.{HasRoom, has_room, kept_in, with_place}
use Rattle.name_patterns.specs.declared.index.NameEntries.{NameEntries}
use Rattle.name_patterns.proofs.PatternsAdded.{index-added}
use Rattle.name_patterns.proofs.index.PatternIndex.add_reserved.Goals as goal

pub add-requires : goal.add-requires
unfolding HasRoom
add-requires c =
    let old = c.args.self.now.by_name in
    let p = c.args.pattern.now in
    let there : get_by_text old p.name ≡ Some c.in-Some.entries.now = ap (get_by_text old) (sym c.name.ensures.name) ∙ sym c.in-Some.ensures.value in
    subst (λ (b : Bool). has_room b (Some c.in-Some.entries.now)) (sym c.is_exact.ensures) (subst (λ (o : Option NameEntries). has_room p.exact o) there c.requires)

pub unreachable-requires : goal.unreachable-requires
unfolding HasRoom
unreachable-requires c =
    let old = c.args.self.now.by_name in
    let p = c.args.pattern.now in
    let none : get_by_text old p.name ≡ None = ap (get_by_text old) (sym c.name.ensures.name) ∙ sym c.in-None.ensures.value in
    subst (λ (o : Option NameEntries). has_room p.exact o) none c.requires

pub returns : goal.returns
returns c = λ added is next.
    let old = c.args.self.now.by_name in
    let p = c.args.pattern.now in
    let there : get_by_text old p.name ≡ Some c.in-Some.entries.now = ap (get_by_text old) (sym c.name.ensures.name) ∙ sym c.in-Some.ensures.value in
    let place : c.args.place ≡ 1 + length added = omega (arith, next) in
    let adds : kept_in (Some c.add.new.self) ≡ with_place p.exact c.args.rank (1 + length added) (kept_in (Some c.in-Some.entries.now)) =
    c.add.ensures ∙ ap₂ (λ exact n. with_place exact c.args.rank n (kept_in (Some c.in-Some.entries.now))) c.is_exact.ensures place in
    let sets = hash_map_updates_text c.name.result.now old (c.get_mut.follows.lender c.add.new.self) (Some c.add.new.self) ((c.get_mut.follows.holds c.add.new.self).3 (search rules)) in
    index-added c.args.self.now (record { by_name = c.get_mut.follows.lender c.add.new.self }) p.name c.add.new.self (rw c.name.ensures.name at sets)
    added (p, c.args.rank) refl is (adds ∙ ap (λ o. with_place p.exact c.args.rank (1 + length added) (kept_in o)) (sym there))
