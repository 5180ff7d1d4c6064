-- One more request among those that are kept, whose words are the keys.
use Rattle.std.proofs.Common.{◌≡◌, ◌<◌, ◌+◌, ℕ, Option, Some, None, drop, get_or, length, Bool, true, false, ◌&&◌, ◌||◌, List, [], ◌∷◌, ◌++◌, map, if◌then◌else◌, String, string_bytes, refl, ap, sym, ◌∙◌}
use Rattle.std.specs.List.{list_all, list_any}
use Rattle.std.specs.Str.{bytes_eq}
use Rattle.std.specs.String.{string_eq}
use Rattle.std.specs.Option.{option_map}
use Rattle.std.proofs.lemmas.Bool.{and_from, and_parts}
use Rattle.std.proofs.lemmas.List.{drop_more, map-append}
use Rattle.std.proofs.lemmas.List.Folds.{list_all-append}
use Rattle.indexmap.specs.IndexSet.{insert_key}
use Rattle.policy_args.specs.declared.requests.Asked.{Asked}
use Rattle.policy_suggest.specs.Needs.{is_kept, need_word, with_request, with_requests}
use Rattle.policy_suggest.specs.Seen.{request_seen}
use Rattle.policy_suggest.specs.Suggest.{is_asked}
use Rattle.policy_suggest.specs.declared.requests.Request.{Request}

any-map : {A B : Type 0} (test : B → Bool) (f : A → B) (xs : List A) → list_any test (map f xs) ≡ list_any (λ x. test (f x)) xs
any-map test f [] = refl
any-map test f (x ∷ xs) = ap (λ b. test (f x) || b) (any-map test f xs)

module _ {Z : Type 0} (keys : List (String Z)) (kept : List Asked) (a : Asked) (word : List ℕ)
    (words : map (λ k. string_bytes k) keys ≡ map need_word kept) (named : word ≡ need_word a) where
  kept-is : is_kept kept a ≡ list_any (λ k. bytes_eq word (string_bytes k)) keys
  kept-is =
      sym (any-map (bytes_eq (need_word a)) need_word kept)
      ∙ ap (λ w. list_any (bytes_eq w) (map need_word kept)) (sym named)
      ∙ ap (list_any (bytes_eq word)) (sym words)
      ∙ any-map (bytes_eq word) (λ k. string_bytes k) keys

  pub adds-nothing : list_any (λ k. bytes_eq word (string_bytes k)) keys ≡ true → kept ≡ with_request kept a
  adds-nothing there = sym (ap (λ b. if b then kept else kept ++ a ∷ []) (kept-is ∙ there))

  module _ (absent : list_any (λ k. bytes_eq word (string_bytes k)) keys ≡ false) (new : List Asked) (pushed : new ≡ kept ++ a ∷ []) where
    pub adds-one : new ≡ with_request kept a
    adds-one = pushed ∙ sym (ap (λ b. if b then kept else kept ++ a ∷ []) (kept-is ∙ absent))

    pub asked-added : list_all is_asked kept ≡ true → is_asked a ≡ true → list_all is_asked new ≡ true
    asked-added are is = ap (list_all is_asked) pushed ∙ list_all-append is_asked kept (a ∷ []) ∙ and_from (list_all is_asked kept) (is_asked a && true) are (and_from (is_asked a) true is refl)

    pub words-added : (new-keys : List (String Z)) (k : String Z) → string_bytes k ≡ word → new-keys ≡ insert_key string_eq keys k → map (λ k. string_bytes k) new-keys ≡ map need_word new
    words-added new-keys k spelled inserted =
        let not-there : list_any (string_eq k) keys ≡ false = ap (λ n. list_any (λ k. bytes_eq n (string_bytes k)) keys) spelled ∙ absent in
        let last : new-keys ≡ keys ++ k ∷ [] = inserted ∙ ap (λ b. if b then keys else keys ++ k ∷ []) not-there in
        ap (map (λ k. string_bytes k)) last ∙ map-append (λ k. string_bytes k) keys (k ∷ [])
        ∙ ap (λ n. map (λ k. string_bytes k) keys ++ n ∷ []) (spelled ∙ named) ∙ ap (λ ws. ws ++ need_word a ∷ []) words
        ∙ sym (map-append need_word kept (a ∷ [])) ∙ ap (map need_word) (sym pushed)

-- ---- a request that is kept

of-asked : (o : Option Request) (r : Request) (a : Asked) → o ≡ Some r → option_map request_seen o ≡ Some a → request_seen r ≡ a
of-asked o r a is same = some-same (request_seen r) a (ap (option_map request_seen) (sym is) ∙ same)
  where
    some-same : (x y : Asked) → Some x ≡ Some y → x ≡ y
    some-same x y e = cc

of-none : (o : Option Request) (a : Asked) → o ≡ None → option_map request_seen o ≡ Some a → ⊥
of-none o a is same = none-some a (ap (option_map request_seen) (sym is) ∙ same)
  where
    none-some : (x : Asked) → None ≡ Some x → ⊥
    none-some x e = absurd cc

-- the request at a place, and those after it
module _ (all : List Asked) (place : ℕ) (a : Asked) (within : place < length all) (is : a ≡ get_or all place a) (are : list_all is_asked (drop place all) ≡ true) where
  pub split : drop place all ≡ a ∷ drop (place + 1) all
  split = drop_more all place a within ∙ ap (λ x. x ∷ drop (place + 1) all) (sym is)

  parts : (is_asked a ≡ true) × (list_all is_asked (drop (place + 1) all) ≡ true)
  parts = and_parts (is_asked a) (list_all is_asked (drop (place + 1) all)) (ap (list_all is_asked) (sym split) ∙ are)

  pub rest-asked : list_all is_asked (drop (place + 1) all) ≡ true
  rest-asked = parts.1

  module _ (o : Option Request) (of : is_asked a ≡ true → option_map request_seen o ≡ Some a) where
    pub request-is : (r : Request) → o ≡ Some r → request_seen r ≡ a
    request-is r some = of-asked o r a some (of parts.0)

    pub request-asked : (r : Request) → o ≡ Some r → is_asked (request_seen r) ≡ true
    request-asked r some = ap is_asked (request-is r some) ∙ parts.0

    pub request-stands : o ≡ None → ⊥
    request-stands none = of-none o a none (of parts.0)

  -- with this one, those after it are left
  pub one-taken : (kept new target : List Asked) → new ≡ with_request kept a → with_requests kept (drop place all) ≡ target → with_requests new (drop (place + 1) all) ≡ target
  one-taken kept new target taken so_far = ap (λ ks. with_requests ks (drop (place + 1) all)) taken ∙ ap (with_requests kept) (sym split) ∙ so_far
