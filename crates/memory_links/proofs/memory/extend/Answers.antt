use Rattle.std.proofs.Common.{refl, ap, sym, subst, ◌∙◌, List, Option, Some, Result, Ok, Err, OnErr}
use Rattle.std.specs.Option.{option_map}
use Rattle.link_traits.specs.Told.{added}
use Rattle.memory_links.specs.Memory.{IsPlace, fails_in}
use Rattle.memory_links.specs.declared.memory.MemFile.{MemFile}
use Rattle.memory_links.proofs.Placed.{file_of-place, file_of-set, file_of-set_other, kept-set}
use Rattle.memory_links.proofs.memory.extend.Goals as goal

pub returns-in_ok-extend_from_slice-clause-ok : goal.returns-in_ok-extend_from_slice-clause-ok
returns-in_ok-extend_from_slice-clause-ok c =
    let placed : IsPlace c.args.files.now.items c.args.path.now c.in-Some.place = subst (λ (l : List MemFile). IsPlace l c.args.path.now c.in-Some.place) c.deref.ensures.value c.in-Some.ensures.place in
    ap (option_map (λ (f : MemFile). f.bytes.items)) (file_of-set c.args.files.now.items c.args.path.now c.in-Some.place c.index_mut-file.result.now _ placed c.index_mut-file.ensures.value refl)
    ∙ ap Some c.in_ok-extend_from_slice.ensures.items
    ∙ sym (ap (λ (file : Option MemFile). added c.args.bytes.now (option_map (λ (f : MemFile). f.bytes.items) file)) (file_of-place c.args.files.now.items c.args.path.now c.in-Some.place c.index_mut-file.result.now placed c.index_mut-file.ensures.value))

pub returns-in_err-extend_from_slice-clause-others : goal.returns-in_err-extend_from_slice-clause-others
returns-in_err-extend_from_slice-clause-others c p other =
    let placed : IsPlace c.args.files.now.items c.args.path.now c.in-Some.place = subst (λ (l : List MemFile). IsPlace l c.args.path.now c.in-Some.place) c.deref.ensures.value c.in-Some.ensures.place in
    ap (option_map (λ (f : MemFile). f.bytes.items)) (file_of-set_other c.args.files.now.items c.args.path.now c.in-Some.place c.index_mut-file.result.now _ p placed c.index_mut-file.ensures.value refl other)

pub returns-in_err-extend_from_slice-clause-failing : goal.returns-in_err-extend_from_slice-clause-failing
returns-in_err-extend_from_slice-clause-failing c p =
    let placed : IsPlace c.args.files.now.items c.args.path.now c.in-Some.place = subst (λ (l : List MemFile). IsPlace l c.args.path.now c.in-Some.place) c.deref.ensures.value c.in-Some.ensures.place in
    kept-set fails_in c.args.files.now.items c.args.path.now c.in-Some.place c.index_mut-file.result.now _ p placed c.index_mut-file.ensures.value refl refl

pub returns-in_ok-extend_from_slice-clause-others : goal.returns-in_ok-extend_from_slice-clause-others
returns-in_ok-extend_from_slice-clause-others c p other =
    let placed : IsPlace c.args.files.now.items c.args.path.now c.in-Some.place = subst (λ (l : List MemFile). IsPlace l c.args.path.now c.in-Some.place) c.deref.ensures.value c.in-Some.ensures.place in
    ap (option_map (λ (f : MemFile). f.bytes.items)) (file_of-set_other c.args.files.now.items c.args.path.now c.in-Some.place c.index_mut-file.result.now _ p placed c.index_mut-file.ensures.value refl other)

pub returns-in_ok-extend_from_slice-clause-failing : goal.returns-in_ok-extend_from_slice-clause-failing
returns-in_ok-extend_from_slice-clause-failing c p =
    let placed : IsPlace c.args.files.now.items c.args.path.now c.in-Some.place = subst (λ (l : List MemFile). IsPlace l c.args.path.now c.in-Some.place) c.deref.ensures.value c.in-Some.ensures.place in
    kept-set fails_in c.args.files.now.items c.args.path.now c.in-Some.place c.index_mut-file.result.now _ p placed c.index_mut-file.ensures.value refl refl

on_err : {A E P : Type 0} (r : Result A E) → P → OnErr r P
on_err (Ok a) p = tt
on_err (Err e) p = p

pub returns-in_err-extend_from_slice-clause-err : goal.returns-in_err-extend_from_slice-clause-err
returns-in_err-extend_from_slice-clause-err c =
    let placed : IsPlace c.args.files.now.items c.args.path.now c.in-Some.place = subst (λ (l : List MemFile). IsPlace l c.args.path.now c.in-Some.place) c.deref.ensures.value c.in-Some.ensures.place in
    on_err c.from_residual.result (λ p. kept-set (option_map (λ (f : MemFile). f.bytes.items)) c.args.files.now.items c.args.path.now c.in-Some.place c.index_mut-file.result.now _ p placed c.index_mut-file.ensures.value refl
    (ap Some c.in_err-extend_from_slice.ensures.items))
