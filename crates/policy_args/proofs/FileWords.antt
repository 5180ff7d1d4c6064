-- The words of a file, one after the other.
use Rattle.std.proofs.Common.{◌≡◌, ℕ, suc, ◌+◌, ◌≤◌, ◌<◌, Bool, true, false, not, cond, List, [], ◌∷◌, ◌++◌, length, Result, Ok, Err, if◌then◌else◌, refl, ap, ap₂, sym, ◌∙◌, arith, inl, inr}
use Rattle.std.specs.List.{before_first, after_first, onto_first, position_or_len}
use Rattle.std.specs.Str.{is_utf8, IsUtf8}
use Rattle.std.proofs.lemmas.Bool.{cases_lt}
use Rattle.std.proofs.lemmas.List.{take_all, drop_all}
use Rattle.std.proofs.lemmas.List.Splits.{length-slice_split, slice_split_first}
use Rattle.std.proofs.lemmas.Str.{IsUtf8-from_is_utf8, is_utf8-from_IsUtf8}
use Rattle.dbus_names.specs.Names.{parts_at}
use Rattle.policy_args.specs.declared.BadWord.{BadWord}
use Rattle.policy_args.specs.declared.WordKind.{WordKind}
use Rattle.policy_args.specs.declared.WordKind.TheVariants.{UnknownOption}
use Rattle.policy_args.specs.declared.refusals.WordRefusal.{WordRefusal}
use Rattle.policy_args.specs.declared.refusals.WordRefusal.TheVariants.{Bad, Memory}
use Rattle.policy_args.specs.Gives.{Fails, StepFails, refusal_at}
use Rattle.policy_args.specs.Words.{each_word, without_last_empty, with_word}
use Rattle.policy_args.specs.Steps.{is_nul, text_in}
use Rattle.policy_args.proofs.EachWord.{each_word-Ok, each_word-Err}

-- a part before others is a word
before-others : (x : List ℕ) (parts : List (List ℕ)) → 0 < length parts → without_last_empty (x ∷ parts) ≡ x ∷ without_last_empty parts
before-others x [] lt = absurd (omega arith)
before-others [] (q ∷ qs) lt = refl
before-others (c ∷ x) (q ∷ qs) lt = refl

part : (x bytes : List ℕ) → without_last_empty (x ∷ parts_at 0 bytes) ≡ x ∷ without_last_empty (parts_at 0 bytes)
part x bytes = let some : 0 < length (parts_at 0 bytes) = omega (arith, length-slice_split is_nul bytes) in before-others x (parts_at 0 bytes) some

-- with no NUL all is one part
no-nul : (bytes : List ℕ) → length bytes ≤ position_or_len is_nul bytes → parts_at 0 bytes ≡ bytes ∷ []
no-nul [] le = refl
no-nul (b ∷ bytes) le = go (is_nul b) le (no-nul bytes)
  where
    go : (t : Bool) → suc (length bytes) ≤ cond (not t) (1 + position_or_len is_nul bytes) 0 → (length bytes ≤ position_or_len is_nul bytes → parts_at 0 bytes ≡ bytes ∷ []) →
        cond t ([] ∷ parts_at 0 bytes) (onto_first b (parts_at 0 bytes)) ≡ (b ∷ bytes) ∷ []
    go true le rest = absurd (omega arith)
    go false le rest = ap (onto_first b) (rest (omega arith))

alone : (bytes : List ℕ) → 0 < length bytes → without_last_empty (bytes ∷ []) ≡ bytes ∷ []
alone [] lt = absurd (omega arith)
alone (b ∷ bytes) lt = refl

words-first : (bytes : List ℕ) → 0 < length bytes →
    without_last_empty (parts_at 0 bytes) ≡ before_first is_nul bytes ∷ without_last_empty (parts_at 0 (after_first is_nul bytes))
words-first bytes lt = elim (cases_lt (position_or_len is_nul bytes) (length bytes)) [
  | inl here ↦ ap without_last_empty (slice_split_first is_nul bytes 0 here) ∙ part (before_first is_nul bytes) (after_first is_nul bytes)
  | inr le ↦
      let behind : after_first is_nul bytes ≡ [] = drop_all (position_or_len is_nul bytes + 1) bytes (omega arith) in
      let all : before_first is_nul bytes ≡ bytes = take_all (position_or_len is_nul bytes) bytes le in
      ap without_last_empty (no-nul bytes le) ∙ alone bytes lt
      ∙ ap₂ (λ (x : List ℕ) (ys : List ℕ). x ∷ without_last_empty (parts_at 0 ys)) (sym all) (sym behind)
]

-- the first word of a file, and those after its NUL
pub words-cut : (bytes word behind : List ℕ) → 0 < length bytes → word ≡ before_first is_nul bytes → behind ≡ after_first is_nul bytes →
    without_last_empty (parts_at 0 bytes) ≡ word ∷ without_last_empty (parts_at 0 behind)
words-cut bytes word behind some front back =
    words-first bytes some ∙ ap₂ (λ (x ys : List ℕ). x ∷ without_last_empty (parts_at 0 ys)) (sym front) (sym back)

pub with_word-Ok : (words : List (List ℕ)) (w text : List ℕ) → text_in w ≡ Ok text → with_word words w ≡ Ok (words ++ text ∷ [])
with_word-Ok words w text e = go (is_utf8 w) e
  where
    go : (b : Bool) → (if b then Ok w else Err UnknownOption) ≡ Ok text → (if b then Ok (words ++ w ∷ []) else Err UnknownOption) ≡ Ok (words ++ text ∷ [])
    go true e = let same : w ≡ text = cc in ap (λ t. Ok (words ++ t ∷ [])) same
    go false e = absurd cc

pub with_word-Err : (words : List (List ℕ)) (w : List ℕ) (kind : WordKind) → text_in w ≡ Err kind → with_word words w ≡ Err kind
with_word-Err words w kind e = go (is_utf8 w) e
  where
    go : (b : Bool) → (if b then Ok w else Err UnknownOption) ≡ Err kind → (if b then Ok (words ++ w ∷ []) else Err UnknownOption) ≡ Err kind
    go true e = absurd cc
    go false e = let same : UnknownOption ≡ kind = cc in ap Err same

-- ---- a word as text

pub text_in-Ok : (w text : List ℕ) → IsUtf8 w → text ≡ w → text_in w ≡ Ok text
text_in-Ok w text utf8 same = ap (λ b. if b then Ok w else Err UnknownOption) (is_utf8-from_IsUtf8 w utf8) ∙ ap Ok (sym same)

pub text_in-Err : (w : List ℕ) → ¬ (IsUtf8 w) → text_in w ≡ Err UnknownOption
text_in-Err w none = go (is_utf8 w) refl
  where
    go : (b : Bool) → is_utf8 w ≡ b → (if b then Ok w else Err UnknownOption) ≡ Err UnknownOption
    go true e = absurd (none (IsUtf8-from_is_utf8 w e))
    go false e = refl

-- ---- a step of the loop

module _ (index : ℕ) (front parts more : List (List ℕ)) (w : List ℕ) (target : Result (List (List ℕ)) BadWord) where
  pub goes_on : (text : List ℕ) → each_word with_word index front parts ≡ target → parts ≡ w ∷ more → text_in w ≡ Ok text →
      each_word with_word (index + 1) (front ++ text ∷ []) more ≡ target
  goes_on text was first is =
      sym (each_word-Ok with_word index front w more (front ++ text ∷ []) (with_word-Ok front w text is)) ∙ ap (each_word with_word index front) (sym first) ∙ was

  pub stops : (refusal : WordRefusal) → each_word with_word index front parts ≡ target → parts ≡ w ∷ more → StepFails refusal (text_in w) → Fails (refusal_at index refusal) target
  stops Memory was first is = tt
  stops (Bad kind) was first is =
      sym was ∙ ap (each_word with_word index front) first ∙ each_word-Err with_word index front w more kind (with_word-Err front w kind is)
