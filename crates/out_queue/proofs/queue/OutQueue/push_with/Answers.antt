use Rattle.std.proofs.Common.{rules, ◌∙◌, sym}
use Rattle.std.specs.List.{concat}
use Rattle.out_queue.proofs.Replaced.{replaced_last}
use Rattle.out_queue.proofs.queue.OutQueue.push_with.Goals as goal

pub returns-clause-ok : goal.returns-clause-ok
returns-clause-ok c =
    replaced_last (concat c.self.inside.parts.items) c.args.self.now c.self.inside.joined.items
    c.extend_from_slice.new.self.items c.as_mut_slice.result.now c.write_four.new.bytes c.args.bytes.now c.args.others
    c.len.result c.args.place
    (sym (c.self.view_is ∙ c.seal_long.ensures))
    c.len.ensures.value
    (search rules)
    c.as_mut_slice.ensures.value
    c.write_four.ensures.bytes
    c.write_four.ensures.len
