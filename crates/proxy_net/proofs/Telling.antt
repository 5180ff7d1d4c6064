-- What calls of the system add to its journal, one after the other.
use Rattle.std.proofs.Common.{◌≡◌, List, [], ◌∷◌, ◌++◌, Option, refl, ap, ◌∙◌}
use Rattle.proxy_net.specs.SystemCalls.{SystemCall, Tells}
use Rattle.proxy_net.specs.Steps.{Steps}

pub append_after : (a b c : List SystemCall) → a ++ (b ++ c) ≡ (a ++ b) ++ c
append_after [] b c = refl
append_after (call ∷ a) b c = ap (λ (xs : List SystemCall). call ∷ xs) (append_after a b c)

-- nothing was called
pub steps_none : {P : List SystemCall → Type 0} (j : Option (List SystemCall)) → P [] → Steps P j j
steps_none j p = record { told = λ after e. (after, [], e, refl, p) }

-- these were called
pub steps_one : {P : List SystemCall → Type 0} {a b : Option (List SystemCall)} (calls : List SystemCall) → Tells a b calls → P calls → Steps P a b
steps_one calls t p = record { told = λ after e. let x = t.told after e in (x.0, calls, x.1, x.2, p) }

pub steps_weaker : {P Q : List SystemCall → Type 0} {a b : Option (List SystemCall)} → ((calls : List SystemCall) → P calls → Q calls) → Steps P a b → Steps Q a b
steps_weaker f s = record { told = λ after e. let x = s.told after e in (x.0, x.1, x.2, x.3, f x.1 x.4) }

-- one after the other
pub steps_through : {P Q R : List SystemCall → Type 0} {a b c : Option (List SystemCall)} → ((first second : List SystemCall) → P first → Q second → R (second ++ first)) → Steps P a b → Steps Q b c → Steps R a c
steps_through join p q = record {
  told = λ after e.
      let y = q.told after e in
      let x = p.told y.0 y.2 in
      (x.0, y.1 ++ x.1, x.2, y.3 ∙ ap (λ (xs : List SystemCall). y.1 ++ xs) x.3 ∙ append_after y.1 x.1 x.0, join x.1 y.1 x.4 y.4);
}

-- .. if nothing was called at first
pub steps_after_none : {Q : List SystemCall → Type 0} {a b c : Option (List SystemCall)} → Tells a b [] → Steps Q b c → Steps Q a c
steps_after_none t q = record { told = λ after e. let y = q.told after e in let x = t.told y.0 y.2 in (x.0, y.1, x.1, y.3 ∙ ap (λ (xs : List SystemCall). y.1 ++ xs) x.2, y.4) }

pub tells_through : {a b c : Option (List SystemCall)} → Tells a b [] → Tells b c [] → Tells a c []
tells_through p q = record { told = λ after e. let y = q.told after e in let x = p.told y.0 y.1 in (x.0, x.1, y.2 ∙ x.2) }

pub tells_none : (j : Option (List SystemCall)) → Tells j j []
tells_none j = record { told = λ after e. (after, e, refl) }

-- these calls, after others
pub steps_then : {P R : List SystemCall → Type 0} {a b c : Option (List SystemCall)} (calls : List SystemCall) → Steps P a b → Tells b c calls → ((first : List SystemCall) → P first → R (calls ++ first)) → Steps R a c
steps_then calls s t join = record {
  told = λ after e.
      let y = t.told after e in
      let x = s.told y.0 y.1 in
      (x.0, calls ++ x.1, x.2, y.2 ∙ ap (λ (xs : List SystemCall). calls ++ xs) x.3 ∙ append_after calls x.1 x.0, join x.1 x.4);
}
