-- Which requests are kept, and that requests which were kept once are kept as all of them are.
use Rattle.std.proofs.Common.{◌≡◌, Bool, true, false, ◌||◌, List, [], ◌∷◌, ◌++◌, if◌then◌else◌, refl, ap, sym, ◌∙◌}
use Rattle.std.specs.List.{list_any}
use Rattle.std.specs.Str.{bytes_eq}
use Rattle.std.proofs.lemmas.List.Folds.{list_any-append}
use Rattle.policy_args.specs.declared.requests.Asked.{Asked}
use Rattle.policy_suggest.specs.Needs.{is_kept, need_word, once, with_request, with_requests}
use Rattle.policy_suggest.proofs.Elements.{Has, any-finds, any-from}
use Rattle.policy_suggest.proofs.Least.{same}

or-same : (a b : Bool) → (a ≡ true → b ≡ true) → b ≡ (b || a)
or-same true b to = to refl ∙ ap (λ x. x || true) (sym (to refl))
or-same false true to = refl
or-same false false to = refl

-- one more
kept-one : (kept : List Asked) (b a : Asked) → is_kept (with_request kept b) a ≡ (is_kept kept a || bytes_eq (need_word a) (need_word b))
kept-one kept b a = by (is_kept kept b) refl
  where
    there : is_kept kept b ≡ true → bytes_eq (need_word a) (need_word b) ≡ true → is_kept kept a ≡ true
    there is words =
        let found = any-finds (λ c. bytes_eq (need_word b) (need_word c)) kept is in
        any-from (λ c. bytes_eq (need_word a) (need_word c)) kept found.0 found.1 (ap (λ w. bytes_eq w (need_word found.0)) (same (need_word a) (need_word b) words) ∙ found.2)

    or-none : (x : Bool) → (x || false) ≡ x
    or-none true = refl
    or-none false = refl

    by : (is : Bool) → is_kept kept b ≡ is → is_kept (if is then kept else kept ++ b ∷ []) a ≡ (is_kept kept a || bytes_eq (need_word a) (need_word b))
    by true is = or-same (bytes_eq (need_word a) (need_word b)) (is_kept kept a) (there is)
    by false is = list_any-append (λ c. bytes_eq (need_word a) (need_word c)) kept (b ∷ []) ∙ ap (λ x. is_kept kept a || x) (or-none (bytes_eq (need_word a) (need_word b)))

kept-all : (kept all : List Asked) (a : Asked) → is_kept (with_requests kept all) a ≡ (is_kept kept a || is_kept all a)
kept-all kept [] a = or-false (is_kept kept a)
  where
    or-false : (x : Bool) → x ≡ (x || false)
    or-false true = refl
    or-false false = refl
kept-all kept (b ∷ all) a =
    kept-all (with_request kept b) all a ∙ ap (λ x. x || is_kept all a) (kept-one kept b a)
    ∙ or-associates (is_kept kept a) (bytes_eq (need_word a) (need_word b)) (is_kept all a)
  where
    or-associates : (x y z : Bool) → ((x || y) || z) ≡ (x || (y || z))
    or-associates true y z = refl
    or-associates false y z = refl

pub with-append : (kept all more : List Asked) → with_requests kept (all ++ more) ≡ with_requests (with_requests kept all) more
with-append kept [] more = refl
with-append kept (a ∷ all) more = with-append (with_request kept a) all more

with-one : (kept before : List Asked) (a : Asked) → with_requests kept (with_request before a) ≡ with_request (with_requests kept before) a
with-one kept before a = by (is_kept before a) refl
  where
    or-right : (x y : Bool) → y ≡ true → (x || y) ≡ true
    or-right true y is = refl
    or-right false y is = is

    by : (b : Bool) → is_kept before a ≡ b → with_requests kept (if b then before else before ++ a ∷ []) ≡ with_request (with_requests kept before) a
    by true is =
        sym (ap (λ b. if b then with_requests kept before else with_requests kept before ++ a ∷ [])
        (kept-all kept before a ∙ or-right (is_kept kept a) (is_kept before a) is))
    by false is = with-append kept before (a ∷ [])

with-with : (kept before all : List Asked) → with_requests kept (with_requests before all) ≡ with_requests (with_requests kept before) all
with-with kept before [] = refl
with-with kept before (a ∷ all) = with-with kept (with_request before a) all ∙ ap (λ ks. with_requests ks all) (with-one kept before a)

pub with-once : (kept all : List Asked) → with_requests kept (once all) ≡ with_requests kept all
with-once kept all = with-with kept [] all
