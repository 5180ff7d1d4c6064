use Rattle.std.proofs.Common.{◌≡◌, true, Some, None, rules, if◌then◌else◌, ap, ap₂, sym, ◌∙◌}
use Rattle.std.specs.FinMap.{from_entries, get, insert}
use Rattle.std.specs.Ordering.{nat_cmp}
use Rattle.std.specs.Cmp.Lexicographic.{slice_cmp}
use Rattle.std.proofs.lemmas.Map.Text.{btree_map_updates_text}
use Rattle.std.proofs.lemmas.Result.{on_err_weaker, on_ok_weaker}
use Rattle.byte_lists.specs.TextMaps.{by_bytes}
use Rattle.byte_lists.proofs.TextMaps.{get_text, text_given}
use Rattle.policy_args.specs.Policy.{at_least, level}
use Rattle.policy_args.specs.declared.Level.TheVariants.{See}
use Rattle.unique_names.specs.Taught.{owning}
use Rattle.unique_names.proofs.Learned.{unchanged}
use Rattle.unique_names.proofs.tracker.Tracker.own_counted.Goals as goal

pub returns-in-Some-clause-ok : goal.returns-in-Some-clause-ok
returns-in-Some-clause-ok g c =
    let ids = c.args.self.now in
    let id = c.args.id.now in
    let policy = c.args.policy.now in
    let name = c.args.name.now in
    let now = c.own.new.self in
    let seen : at_least See (level policy name) ≡ true = ap (at_least See) (sym c.level_counted-level.ensures.level) ∙ sym c.is_at_least.ensures ∙ c.if-not-is_at_least.false in
    let got : Some c.in-Some.known.now ≡ get ids id = c.in-Some.ensures.value ∙ sym (get_text c.self.inside.ids.entries id) ∙ ap (λ m. get m id) c.self.view_is in
    let kept : from_entries {R = slice_cmp nat_cmp} (by_bytes (c.get_mut.follows.lender now).entries) ≡ insert ids id now =
    text_given c.self.inside.ids (c.get_mut.follows.lender now) id now
    (λ q. btree_map_updates_text id c.self.inside.ids (c.get_mut.follows.lender now) (Some now) ((c.get_mut.follows.holds now).3 (search rules)) q)
    ∙ ap (λ m. insert m id now) c.self.view_is in
    on_ok_weaker c.own.result (λ is. kept ∙ ap (insert ids id) (is ∙ ap (owning policy name) got) ∙ sym (ap (λ b. if b then insert ids id (owning policy name (get ids id)) else ids) seen)) c.own.ensures.ok

pub returns-in-Some-clause-err : goal.returns-in-Some-clause-err
returns-in-Some-clause-err g c =
    let ids = c.args.self.now in
    let id = c.args.id.now in
    let now = c.own.new.self in
    let got : Some c.in-Some.known.now ≡ get ids id = c.in-Some.ensures.value ∙ sym (get_text c.self.inside.ids.entries id) ∙ ap (λ m. get m id) c.self.view_is in
    let kept : from_entries {R = slice_cmp nat_cmp} (by_bytes (c.get_mut.follows.lender now).entries) ≡ insert ids id now =
    text_given c.self.inside.ids (c.get_mut.follows.lender now) id now
    (λ q. btree_map_updates_text id c.self.inside.ids (c.get_mut.follows.lender now) (Some now) ((c.get_mut.follows.holds now).3 (search rules)) q)
    ∙ ap (λ m. insert m id now) c.self.view_is in
    on_err_weaker c.own.result (λ is. kept ∙ ap (insert ids id) is ∙ sym (unchanged ids id c.in-Some.known.now (sym got))) c.own.ensures.err

pub returns-in_ok-own-in-None-clause-ok : goal.returns-in_ok-own-in-None-clause-ok
returns-in_ok-own-in-None-clause-ok g c =
    let ids = c.args.self.now in
    let id = c.args.id.now in
    let policy = c.args.policy.now in
    let name = c.args.name.now in
    let seen : at_least See (level policy name) ≡ true = ap (at_least See) (sym c.level_counted-level.ensures.level) ∙ sym c.is_at_least.ensures ∙ c.if-not-is_at_least.false in
    let got : None ≡ get ids id = c.in-None.ensures.value ∙ sym (get_text c.self.inside.ids.entries id) ∙ ap (λ m. get m id) c.self.view_is in
    let same : from_entries {R = slice_cmp nat_cmp} (by_bytes c.get_mut.follows.lender-at-none.entries) ≡ ids = ap (λ m. from_entries {R = slice_cmp nat_cmp} (by_bytes m.entries)) c.get_mut.follows.holds-at-none ∙ c.self.view_is in
    let first : c.own-in-None.new.self ≡ owning policy name (get ids id) =
    c.in_ok-own-in-None.ensures.ok ∙ ap (λ k. owning policy name (Some k)) c.new-known.ensures ∙ ap (owning policy name) got in
    on_ok_weaker c.keep.result (λ is. is ∙ ap₂ (λ m k. insert m id k) same first ∙ sym (ap (λ b. if b then insert ids id (owning policy name (get ids id)) else ids) seen)) c.keep.ensures.ok
