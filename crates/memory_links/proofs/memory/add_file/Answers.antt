use Rattle.std.proofs.Common.{refl, ap, ◌∙◌, List, Some}
use Rattle.std.specs.Option.{option_map}
use Rattle.memory_links.specs.Memory.{file_of, told_of, fails_in}
use Rattle.memory_links.specs.declared.memory.MemFile.{MemFile}
use Rattle.memory_links.proofs.Placed.{file_of-last, file_of-last_other, fails-last}
use Rattle.memory_links.proofs.memory.add_file.Goals as goal

pub returns-clause-ok : goal.returns-clause-ok
returns-clause-ok c = ap (λ (l : List MemFile). told_of l c.args.path.now) c.in_ok-push.ensures.items
    ∙ ap (option_map (λ (f : MemFile). f.bytes.items)) (file_of-last c.args.files.now.items c.args.path.now _ c.requires.new c.in_ok-from_str.ensures.ok)
    ∙ ap Some c.new.ensures.items

pub returns-clause-others : goal.returns-clause-others
returns-clause-others c p other = ap (λ (l : List MemFile). told_of l p) c.in_ok-push.ensures.items
    ∙ ap (option_map (λ (f : MemFile). f.bytes.items)) (file_of-last_other c.args.files.now.items c.args.path.now _ p c.in_ok-from_str.ensures.ok other)

pub returns-clause-failing : goal.returns-clause-failing
returns-clause-failing c p = ap (λ (l : List MemFile). fails_in (file_of l p)) c.in_ok-push.ensures.items
    ∙ fails-last c.args.files.now.items _ p refl
