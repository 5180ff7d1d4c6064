-- A proxy line, one word after the other.
use Rattle.std.proofs.Common.{◌≡◌, ℕ, false, ◌==◌, List, [], ◌∷◌, ◌++◌, length, map, Option, Some, None, is_some, Result, Ok, Err, String, string_bytes, option_map, if◌then◌else◌, refl, ap, sym, ◌∙◌, arith, append-nil}
use Rattle.std.proofs.lemmas.Bool.Decides.{nat_tests}
use Rattle.std.proofs.lemmas.List.{length-append, map-append}
use Rattle.policy_args.specs.declared.BadWord.{BadWord}
use Rattle.policy_args.specs.declared.WordKind.{WordKind}
use Rattle.policy_args.specs.declared.WordKind.TheVariants.{BadAddress}
use Rattle.policy_args.specs.declared.refusals.WordRefusal.{WordRefusal}
use Rattle.policy_args.specs.declared.refusals.WordRefusal.TheVariants.{Bad, Memory}
use Rattle.policy_args.specs.declared.refusals.LineRefusal.{LineRefusal}
use Rattle.policy_args.specs.declared.refusals.LineRefusal.TheVariants.{Bad as BadAt, Memory as NoMemory}
use Rattle.policy_args.specs.declared.line.Block.{Block}
use Rattle.policy_args.specs.declared.options.Options.{Options}
use Rattle.policy_args.specs.Gives.{Fails, StepGives}
use Rattle.policy_args.specs.Seen.{options_seen}
use Rattle.policy_args.specs.Words.{◌>>=◌, PolicyOptions, each_word, with_option}
use Rattle.policy_args.specs.ProxyLine.{BlockValue, LineValue, SoFar, finished, in_last, line_of, line_step, no_words, with_block_option}
use Rattle.policy_args.specs.Reading.{block_seen, blocks_seen, last_seen, so_far, with_block}

-- ---- one more block

abbrev listed : Option Block → List Block
listed None = []
listed (Some b) = b ∷ []

seen-listed : (last : Option Block) → map block_seen (listed last) ≡ last_seen last
seen-listed None = refl
seen-listed (Some b) = refl

pub blocks-pushed : (blocks new : List Block) (last : Option Block) → new ≡ blocks ++ listed last → map block_seen new ≡ blocks_seen blocks last
blocks-pushed blocks new last pushed = ap (map block_seen) pushed ∙ map-append block_seen blocks (listed last) ∙ ap (λ bs. map block_seen blocks ++ bs) (seen-listed last)

module _ {Z : Type 0} (blocks new : List Block) (last : Option Block) (rest : LineValue) (first : PolicyOptions) (pending : Option (String Z)) (old : SoFar) (block : Block) (is : so_far blocks last rest first pending ≡ old) where
  begun : new ≡ blocks ++ listed last → so_far {Z = Z} new (Some block) rest first None ≡ with_block (block_seen block) old
  begun pushed =
      ap (λ (bs : List BlockValue). record { line = record rest { blocks = bs ++ block_seen block ∷ [] }; first = first; pending = None }) (blocks-pushed blocks new last pushed)
      ∙ ap (with_block (block_seen block)) is

  pub begun-after : (b : Block) → last ≡ Some b → new ≡ blocks ++ b ∷ [] → so_far {Z = Z} new (Some block) rest first None ≡ with_block (block_seen block) old
  begun-after b there pushed = begun (pushed ∙ ap (λ l. blocks ++ listed l) (sym there))

  pub begun-first : last ≡ None → new ≡ blocks → so_far {Z = Z} new (Some block) rest first None ≡ with_block (block_seen block) old
  begun-first none same = begun (same ∙ sym (append-nil blocks) ∙ ap (λ l. blocks ++ listed l) (sym none))

-- ---- one more option of the last block

in_last-front : (w : List ℕ) (front : List BlockValue) (b : BlockValue) → in_last w (front ++ b ∷ []) ≡ (with_option b.options w >>= λ o. Ok (front ++ record b { options = o } ∷ []))
in_last-front w [] b = refl
in_last-front w (x ∷ []) b = by (with_option b.options w)
  where
    by : (r : Result PolicyOptions WordKind) → ((r >>= λ o. Ok (record b { options = o } ∷ [])) >>= λ rest. Ok (x ∷ rest)) ≡ (r >>= λ o. Ok (x ∷ record b { options = o } ∷ []))
    by (Ok o) = refl
    by (Err k) = refl
in_last-front w (x ∷ y ∷ front) b = ap (λ (r : Result (List BlockValue) WordKind). r >>= λ rest. Ok (x ∷ rest)) (in_last-front w (y ∷ front) b) ∙ by (with_option b.options w)
  where
    by : (r : Result PolicyOptions WordKind) → ((r >>= λ o. Ok (y ∷ (front ++ record b { options = o } ∷ []))) >>= λ rest. Ok (x ∷ rest)) ≡ (r >>= λ o. Ok (x ∷ y ∷ (front ++ record b { options = o } ∷ [])))
    by (Ok o) = refl
    by (Err k) = refl

module _ {Z : Type 0} (w : List ℕ) (blocks : List Block) (last : Option Block) (rest : LineValue) (first : PolicyOptions) (pending : Option (String Z)) (old : SoFar) (b : Block) (options : Options)
    (is : so_far blocks last rest first pending ≡ old) (there : last ≡ Some b) where
  abbrev new : SoFar
  new = so_far blocks (Some (record b { options = options })) rest first pending

  opened : with_block_option old w ≡ with_block_option (so_far blocks (Some b) rest first pending) w
  opened = ap (λ (s : SoFar). with_block_option s w) (sym is) ∙ ap (λ l. with_block_option (so_far blocks l rest first pending) w) there

  by-option : with_block_option (so_far blocks (Some b) rest first pending) w
      ≡ ((with_option (options_seen b.options) w >>= λ o. Ok (map block_seen blocks ++ record (block_seen b) { options = o } ∷ [])) >>= λ bs. Ok (record { line = record rest { blocks = bs }; first = first; pending = option_map (λ p. string_bytes p) pending }))
  by-option =
      ap (λ (r : Result (List BlockValue) WordKind). r >>= λ bs. Ok (record { line = record rest { blocks = bs }; first = first; pending = option_map (λ p. string_bytes p) pending }))
      (in_last-front w (map block_seen blocks) (block_seen b))

  pub option-added : (result : Result (Unit {0}) WordRefusal) → StepGives (λ _. options_seen options) result (with_option (options_seen b.options) w) → StepGives (λ _. new) result (with_block_option old w)
  option-added (Ok x) e =
      opened ∙ by-option
      ∙ ap (λ (r : Result PolicyOptions WordKind). (r >>= λ o. Ok (map block_seen blocks ++ record (block_seen b) { options = o } ∷ [])) >>= λ bs. Ok (record { line = record rest { blocks = bs }; first = first; pending = option_map (λ p. string_bytes p) pending })) e
  option-added (Err Memory) e = tt
  option-added (Err (Bad kind)) e =
      opened ∙ by-option
      ∙ ap (λ (r : Result PolicyOptions WordKind). (r >>= λ o. Ok (map block_seen blocks ++ record (block_seen b) { options = o } ∷ [])) >>= λ bs. Ok (record { line = record rest { blocks = bs }; first = first; pending = option_map (λ p. string_bytes p) pending })) e

-- ---- the end of the words

pub finished-there : {Z : Type 0} (words : ℕ) (blocks new : List Block) (last : Option Block) (rest : LineValue) (first : PolicyOptions) (pending : Option (String Z)) (s : SoFar) (b : Block) →
    so_far blocks last rest first pending ≡ s → pending ≡ None → last ≡ Some b → new ≡ blocks ++ b ∷ [] → finished words s ≡ Ok (record rest { blocks = map block_seen new })
finished-there words blocks new last rest first pending s b is none there pushed =
    ap (finished words) (sym is)
    ∙ ap (λ p. finished words (so_far blocks last rest first p)) none
    ∙ ap (λ bs. finished words (record { line = record rest { blocks = bs }; first = first; pending = None })) (sym (blocks-pushed blocks new last (pushed ∙ ap (λ l. blocks ++ listed l) (sym there))))
    ∙ ap (λ t. if t then Err (record { index = words; kind = BadAddress }) else Ok (record rest { blocks = map block_seen new })) some
  where
    some : (length (map block_seen new) == 0) ≡ false
    some =
        ap (λ bs. length (map block_seen bs) == 0) pushed
        ∙ (let a = map-append block_seen blocks (b ∷ []) in let n = length-append (map block_seen blocks) (block_seen b ∷ []) in grind (arith, nat_tests, a, n))

-- ---- all words

pub line-fails : (words : List (List ℕ)) (refusal : LineRefusal) → Fails refusal (each_word line_step 0 no_words words) → Fails refusal (line_of words)
unfolding line_of
line-fails words NoMemory h = tt
line-fails words (BadAt word) h = ap (λ (r : Result SoFar BadWord). r >>= finished (length words)) h

pub line-reads : (words : List (List ℕ)) (s : SoFar) → each_word line_step 0 no_words words ≡ Ok s → line_of words ≡ finished (length words) s
unfolding line_of
line-reads words s h = ap (λ (r : Result SoFar BadWord). r >>= finished (length words)) h

pub is-none : {A : Type 0} (o : Option A) → false ≡ is_some o → o ≡ None
is-none None e = refl
is-none (Some x) e = absurd cc
