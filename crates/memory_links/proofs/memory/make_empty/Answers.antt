use Rattle.std.proofs.Common.{refl, ap, subst, ◌∙◌, List, Some}
use Rattle.std.specs.Option.{option_map}
use Rattle.memory_links.specs.Memory.{IsPlace, fails_in}
use Rattle.memory_links.specs.declared.memory.MemFile.{MemFile}
use Rattle.memory_links.proofs.Placed.{file_of-set, file_of-set_other, kept-set}
use Rattle.memory_links.proofs.memory.make_empty.Goals as goal

pub returns-in-Some-clause-ok : goal.returns-in-Some-clause-ok
returns-in-Some-clause-ok c =
    let placed : IsPlace c.args.files.now.items c.args.path.now c.in-Some.place = subst (λ (l : List MemFile). IsPlace l c.args.path.now c.in-Some.place) c.deref.ensures.value c.in-Some.ensures.place in
    ap (option_map (λ (f : MemFile). f.bytes.items)) (file_of-set c.args.files.now.items c.args.path.now c.in-Some.place c.index_mut-file.result.now _ placed c.index_mut-file.ensures.value refl)
    ∙ ap Some c.clear.ensures.items

pub returns-in-Some-clause-others : goal.returns-in-Some-clause-others
returns-in-Some-clause-others c p other =
    let placed : IsPlace c.args.files.now.items c.args.path.now c.in-Some.place = subst (λ (l : List MemFile). IsPlace l c.args.path.now c.in-Some.place) c.deref.ensures.value c.in-Some.ensures.place in
    ap (option_map (λ (f : MemFile). f.bytes.items)) (file_of-set_other c.args.files.now.items c.args.path.now c.in-Some.place c.index_mut-file.result.now _ p placed c.index_mut-file.ensures.value refl other)

pub returns-in-Some-clause-failing : goal.returns-in-Some-clause-failing
returns-in-Some-clause-failing c p =
    let placed : IsPlace c.args.files.now.items c.args.path.now c.in-Some.place = subst (λ (l : List MemFile). IsPlace l c.args.path.now c.in-Some.place) c.deref.ensures.value c.in-Some.ensures.place in
    kept-set fails_in c.args.files.now.items c.args.path.now c.in-Some.place c.index_mut-file.result.now _ p placed c.index_mut-file.ensures.value refl refl
