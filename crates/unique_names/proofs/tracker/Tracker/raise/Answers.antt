use Rattle.std.proofs.Common.{◌≡◌, Some, None, rules, ap, ap₂, sym, ◌∙◌}
use Rattle.std.specs.FinMap.{from_entries, get, insert}
use Rattle.std.specs.Ordering.{nat_cmp}
use Rattle.std.specs.Cmp.Lexicographic.{slice_cmp}
use Rattle.std.proofs.lemmas.Map.Text.{btree_map_updates_text}
use Rattle.std.proofs.lemmas.Result.{on_ok_weaker}
use Rattle.byte_lists.specs.TextMaps.{by_bytes}
use Rattle.byte_lists.proofs.TextMaps.{get_text, text_given}
use Rattle.unique_names.specs.Taught.{raised}
use Rattle.unique_names.proofs.tracker.Tracker.raise.Goals as goal

pub returns-in-Some-clause-ok : goal.returns-in-Some-clause-ok
returns-in-Some-clause-ok c =
    let ids = c.args.self.now in
    let id = c.args.id.now in
    let now = c.raise.new.self in
    let got : Some c.in-Some.known.now ≡ get ids id = c.in-Some.ensures.value ∙ sym (get_text c.self.inside.ids.entries id) ∙ ap (λ m. get m id) c.self.view_is in
    text_given c.self.inside.ids (c.get_mut.follows.lender now) id now
    (λ q. btree_map_updates_text id c.self.inside.ids (c.get_mut.follows.lender now) (Some now) ((c.get_mut.follows.holds now).3 (search rules)) q)
    ∙ ap (λ m. insert m id now) c.self.view_is
    ∙ ap (insert ids id) (c.raise.ensures ∙ ap (raised c.args.level) got)

pub returns-in-None-clause-ok : goal.returns-in-None-clause-ok
returns-in-None-clause-ok c =
    let ids = c.args.self.now in
    let id = c.args.id.now in
    let got : None ≡ get ids id = c.in-None.ensures.value ∙ sym (get_text c.self.inside.ids.entries id) ∙ ap (λ m. get m id) c.self.view_is in
    let same : from_entries {R = slice_cmp nat_cmp} (by_bytes c.get_mut.follows.lender-at-none.entries) ≡ ids = ap (λ m. from_entries {R = slice_cmp nat_cmp} (by_bytes m.entries)) c.get_mut.follows.holds-at-none ∙ c.self.view_is in
    let first : c.raise-in-None.new.self ≡ raised c.args.level (get ids id) =
    c.raise-in-None.ensures ∙ ap (λ k. raised c.args.level (Some k)) c.new-known.ensures ∙ ap (raised c.args.level) got in
    on_ok_weaker c.keep.result (λ is. is ∙ ap₂ (λ m k. insert m id k) same first) c.keep.ensures.ok
