use Rattle.std.proofs.Common.{◌≡◌, Bool, true, false, List, Option, Some, None, IfSome, String, Global, refl, sym, subst, drop}
use Rattle.link_traits.specs.Texts.{texts_of}
use Rattle.proxy_main.specs.Starts.{OfTool, OfFault}
use Rattle.proxy_main.proofs.process.start_process.Goals as goal

named : {X : Type 0} (b : Bool) (o : Option X) (x : X) → o ≡ Some x → (b ≡ false → o ≡ None) → b ≡ true
named true o x e h = refl
named false o x e h = let n : o ≡ None = h refl in absurd (cc)

pub returns-in-Err-clause-starts : goal.returns-in-Err-clause-starts
returns-in-Err-clause-starts g c = OfFault c.in-Err.fault c.in-Err.ensures.err c.fault_status.ensures refl refl

pub returns-in-Some-clause-starts : goal.returns-in-Some-clause-starts
returns-in-Some-clause-starts g c =
    let told = g.A.Arguments.told c.args.arguments.now in
    let words = texts_of c.deref.result.now in
    let are : IfSome told (λ all. words ≡ drop 1 all) =
    subst (λ (l : List (String Global)). IfSome told (λ all. texts_of l ≡ drop 1 all)) (sym c.deref.ensures.value) c.in-Ok.ensures.ok in
    OfTool words are (named _ _ c.in-Some.status refl c.in-Some.ensures.none.0) c.in-Some.ensures.runs
