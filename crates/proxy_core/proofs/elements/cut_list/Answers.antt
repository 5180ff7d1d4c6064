use Rattle.std.proofs.Common.{ℕ, List, ◌++◌, ap, ◌∙◌}
use Rattle.dbus_header.specs.Message.{spell, with_reply_serial}
use Rattle.policy_view.specs.Shown.{cut}
use Rattle.unique_names.specs.Taught.{kept_level}
use Rattle.proxy_core.proofs.KeptElements.{cut_kept}
use Rattle.proxy_core.proofs.Taking.{read, tree}
use Rattle.proxy_core.proofs.elements.cut_list.Goals as goal

pub returns : goal.returns
returns c =
    let level = kept_level c.args.policy.now c.args.tracker.now in
    cut_kept level c.args.message.now c.position.result c.in_ok-freeze.field-0 c.is_spelled.ensures c.requires.list c.requires.reply c.position.ensures
    (c.in_ok-freeze.ensures.ok ∙ c.in_ok-cut.ensures.ok _ (read c.args.message.now) ∙ ap (λ (xs : List ℕ). xs ++ spell (with_reply_serial c.position.result (cut level (tree c.args.message.now)))) c.new-bytes.ensures.items)
