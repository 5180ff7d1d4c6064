-- One more entry of a policy.
use Rattle.std.proofs.Common.{◌≡◌, ℕ, suc, ◌≤◌, ◌<◌, Bool, true, false, ◌||◌, nat_lt, List, [], ◌∷◌, ◌++◌, length, map, Ok, Err, if◌then◌else◌, String, string_bytes, refl, ap, sym, ◌∙◌, subst, arith, length-append}
use Rattle.std.specs.List.{list_any}
use Rattle.std.specs.Str.{bytes_eq}
use Rattle.std.specs.String.{string_eq}
use Rattle.std.proofs.lemmas.Bool.Decides.{nat_tests}
use Rattle.std.proofs.lemmas.Cmp.{nat_list_eq_equiv}
use Rattle.std.proofs.lemmas.List.{map-append}
use Rattle.indexmap.specs.IndexSet.{insert_key}
use Rattle.policy_args.specs.declared.WordKind.TheVariants.{TooMany}
use Rattle.policy_args.specs.declared.entry.Entry.{Entry}
use Rattle.policy_args.specs.Policy.{Policy, policy_with, entry_word, is_given, with_entry}
use Rattle.policy_args.specs.Steps.{with_one_more}

list_any-map : {A B : Type 0} (test : B → Bool) (f : A → B) (xs : List A) → list_any test (map f xs) ≡ list_any (λ x. test (f x)) xs
list_any-map test f [] = refl
list_any-map test f (x ∷ xs) = ap (λ b. test (f x) || b) (list_any-map test f xs)

turned : (word : List ℕ) (words : List (List ℕ)) → list_any (λ other. bytes_eq other word) words ≡ list_any (bytes_eq word) words
turned word [] = refl
turned word (w ∷ words) = ap (λ b. b || list_any (λ other. bytes_eq other word) words) (nat_list_eq_equiv.symm w word) ∙ ap (λ b. bytes_eq word w || b) (turned word words)

within : (n : ℕ) → n ≤ 65535 → nat_lt 65535 n ≡ false
within n le = grind (arith, nat_tests)

past : (n : ℕ) → 65535 < n → nat_lt 65535 n ≡ true
past n lt = grind (arith, nat_tests)

-- the entries with one more are the policy's, unless they are too many
by-entries : (policy : Policy) (e : Entry) (entries : List Entry) → with_entry policy.entries e ≡ entries →
    with_one_more policy e ≡ (if nat_lt 65535 (length entries) then Err TooMany else Ok (record policy { entries = entries }))
by-entries policy e entries is = ap (λ es. if nat_lt 65535 (length es) then Err TooMany else Ok (record policy { entries = es })) is

by-test : (policy : Policy) (test : Bool) (is : nat_lt 65535 (length policy.entries) ≡ test) →
    (if nat_lt 65535 (length policy.entries) then Err TooMany else Ok policy) ≡ (if test then Err TooMany else Ok policy)
by-test policy test is = ap (λ b. if b then Err TooMany else Ok policy) is

-- the keys are the entries' words
module _ {Z : Type 0} {sloppy known_fields start_called : Bool} (keys : List (String Z)) (entries : List Entry) (policy : Policy) (e : Entry) (word : List ℕ)
    (words : map (λ k. string_bytes k) keys ≡ map entry_word entries) (is : policy_with entries sloppy known_fields start_called ≡ policy) (named : entry_word e ≡ word) where
  abbrev held : List Entry → Policy
  held es = policy_with es sloppy known_fields start_called

  given-is : is_given entries e ≡ list_any (λ k. bytes_eq word (string_bytes k)) keys
  given-is =
      sym (list_any-map (λ other. bytes_eq other (entry_word e)) entry_word entries)
      ∙ ap (λ w. list_any (λ other. bytes_eq other w) (map entry_word entries)) named
      ∙ turned word (map entry_word entries)
      ∙ ap (list_any (bytes_eq word)) (sym words)
      ∙ list_any-map (bytes_eq word) (λ k. string_bytes k) keys

  grown : (b : Bool) → list_any (λ k. bytes_eq word (string_bytes k)) keys ≡ b → with_entry entries e ≡ (if b then entries else entries ++ e ∷ [])
  grown b given = ap (λ b. if b then entries else entries ++ e ∷ []) (given-is ∙ given)

  one_longer : length (entries ++ e ∷ []) ≡ suc (length entries)
  one_longer = let a = length-append entries (e ∷ []) in omega arith

  pub adds-nothing : list_any (λ k. bytes_eq word (string_bytes k)) keys ≡ true → length entries ≤ 65535 → with_one_more policy e ≡ Ok policy
  adds-nothing given le =
      subst (λ p. with_one_more p e ≡ Ok p) is
      (by-entries (held entries) e entries (grown true given) ∙ by-test (held entries) false (within (length entries) le))

  pub adds-too-many : list_any (λ k. bytes_eq word (string_bytes k)) keys ≡ false → length entries ≡ 65535 → with_one_more policy e ≡ Err TooMany
  adds-too-many absent full =
      let many : 65535 < length (entries ++ e ∷ []) = omega (arith, one_longer) in
      ap (λ p. with_one_more p e) (sym is) ∙ by-entries (held entries) e (entries ++ e ∷ []) (grown false absent)
      ∙ by-test (held (entries ++ e ∷ [])) true (past (length (entries ++ e ∷ [])) many)

  pub adds-one : (new : List Entry) → list_any (λ k. bytes_eq word (string_bytes k)) keys ≡ false → length entries < 65535 → new ≡ entries ++ e ∷ [] → with_one_more policy e ≡ Ok (policy_with new sloppy known_fields start_called)
  adds-one new absent room pushed =
      let few : length (entries ++ e ∷ []) ≤ 65535 = omega (arith, one_longer) in
      ap (λ p. with_one_more p e) (sym is) ∙ by-entries (held entries) e (entries ++ e ∷ []) (grown false absent)
      ∙ by-test (held (entries ++ e ∷ [])) false (within (length (entries ++ e ∷ [])) few)
      ∙ ap (λ es. Ok (held es)) (sym pushed)

  -- and then the keys are still the entries' words
  pub words-added : (new-keys : List (String Z)) (new : List Entry) (k : String Z) → list_any (λ k. bytes_eq word (string_bytes k)) keys ≡ false → string_bytes k ≡ word →
      new-keys ≡ insert_key string_eq keys k → new ≡ entries ++ e ∷ [] → map (λ k. string_bytes k) new-keys ≡ map entry_word new
  words-added new-keys new k absent spelled inserted pushed =
      let not-there : list_any (string_eq k) keys ≡ false = ap (λ n. list_any (λ k. bytes_eq n (string_bytes k)) keys) spelled ∙ absent in
      let last : new-keys ≡ keys ++ k ∷ [] = inserted ∙ ap (λ b. if b then keys else keys ++ k ∷ []) not-there in
      ap (map (λ k. string_bytes k)) last ∙ map-append (λ k. string_bytes k) keys (k ∷ [])
      ∙ ap (λ n. map (λ k. string_bytes k) keys ++ n ∷ []) (spelled ∙ sym named) ∙ ap (λ ws. ws ++ entry_word e ∷ []) words
      ∙ sym (map-append entry_word entries (e ∷ [])) ∙ ap (map entry_word) (sym pushed)

  pub few-entries : (new : List Entry) → length entries < 65535 → new ≡ entries ++ e ∷ [] → length new ≤ 65535
  few-entries new room pushed = subst (λ es. length es ≤ 65535) (sym pushed) (omega (arith, one_longer))
