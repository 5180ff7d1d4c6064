-- An answer that holds, under an equal view.
use Rattle.std.specs.Prelude.{Result, Ok, Err, IfOk}

pub if_ok : {A E : Type 0} (r : Result A E) (P Q : A → Type 0) → ((x : A) → P x → Q x) → IfOk r P → IfOk r Q
if_ok (Ok x) P Q f h = f x h
if_ok (Err e) P Q f h = h
