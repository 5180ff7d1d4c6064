-- Words in place of the word that names their file, and why there are none.
use Rattle.std.proofs.Common.{◌≡◌, ◌≤◌, ◌<◌, ◌⊎◌, inl, inr, ℕ, ◌+◌, List, [], ◌∷◌, ◌++◌, Option, Some, None, Result, Ok, Err, IfSome, refl, ap, sym, ◌∙◌, length, cond, nat_lt, arith, subst, map, drop, String, string_bytes, slice_index_or, Bool, true, false, bytes_eq}
use Rattle.std.proofs.lemmas.Bool.Decides.{nat_tests}
use Rattle.std.proofs.lemmas.List.{drop_more}
use Rattle.link_traits.specs.Texts.{texts_of}
use Rattle.byte_lists.proofs.Bytes.{bytes_eq-refl}
use Rattle.policy_args.specs.declared.BadWord.{BadWord}
use Rattle.policy_args.specs.Words.{words_in}
use Rattle.policy_args.specs.ProxyLine.{line_of}
use Rattle.line_words.specs.declared.reading.TheConstants.{ARGS_LIMIT}
use Rattle.line_words.specs.declared.reading.LineStop.{LineStop}
use Rattle.line_words.specs.declared.reading.LineStop.TheVariants as stop
use Rattle.line_words.specs.Words.{Told, Line, Untold, TooLong, Bad, with_words, with_file, with_word, args_path, read_all, line_from, line_in}
use Rattle.line_words.specs.Stops.{IsSettled, Agrees, without, StopsFrom, Knows, Expands, FileStops, IsBehind}

-- ---- what is known of the files

pub knows_all : (told : Told) → Knows told told
knows_all told p = inr refl

pub knows_without : (path : List ℕ) (told : Told) → Knows (without path told) told
knows_without path told p = by (bytes_eq p path)
  where
    by : (b : Bool) → (cond b None (told p) ≡ None) ⊎ (cond b None (told p) ≡ told p)
    by true = inl refl
    by false = inr refl

without-path : (path : List ℕ) (told : Told) → without path told path ≡ None
without-path path told = ap (λ (b : Bool). cond b None (told path)) (bytes_eq-refl path)

-- ---- one word

pub copied : (told : Told) (before : List (List ℕ)) (word : List ℕ) (rest : List (List ℕ)) → args_path word ≡ None → Expands told before (word ∷ rest) (before ++ word ∷ []) rest
copied told before word rest e some knows = inr (ap (λ (o : Option (List ℕ)). with_word some before word o (λ now. line_from some now rest)) e)

-- a file of words has 16 MiB at most
longest : ARGS_LIMIT ≡ 16777216
longest = refl

within : (bytes : List ℕ) → length bytes ≤ ARGS_LIMIT → nat_lt ARGS_LIMIT (length bytes) ≡ false
within bytes le = grind (arith, nat_tests, le)

beyond : (bytes : List ℕ) → ARGS_LIMIT < length bytes → nat_lt ARGS_LIMIT (length bytes) ≡ true
beyond bytes lt = grind (arith, nat_tests, lt)

file_is : (before : List (List ℕ)) (bytes : List ℕ) (next : List (List ℕ) → Line) (r : Result (List (List ℕ)) BadWord) → length bytes ≤ ARGS_LIMIT → words_in bytes ≡ r → with_file before (Some bytes) next ≡ with_words before r next
file_is before bytes next r le e =
    ap (λ (b : Bool). cond b TooLong (with_words before (words_in bytes) next)) (within bytes le) ∙ ap (λ (x : Result (List (List ℕ)) BadWord). with_words before x next) e

module _ (told : Told) (before : List (List ℕ)) (word path : List ℕ) (rest : List (List ℕ)) (named : args_path word ≡ Some path) where
  from_file : (some : Told) → line_from some before (word ∷ rest) ≡ with_file before (some path) (λ now. line_from some now rest)
  from_file some = ap (λ (o : Option (List ℕ)). with_word some before word o (λ now. line_from some now rest)) named

  pub replaced : (words : List (List ℕ)) → IfSome (told path) (λ bytes. (length bytes ≤ ARGS_LIMIT) × (words_in bytes ≡ Ok words)) → Expands told before (word ∷ rest) (before ++ words) rest
  replaced words is some knows = by (told path) is (knows path)
    where
      by : (o : Option (List ℕ)) → IfSome o (λ bytes. (length bytes ≤ ARGS_LIMIT) × (words_in bytes ≡ Ok words)) → (some path ≡ None) ⊎ (some path ≡ o) →
          (line_from some before (word ∷ rest) ≡ Untold) ⊎ (line_from some before (word ∷ rest) ≡ line_from some (before ++ words) rest)
      by o h (inl none) = inl (from_file some ∙ ap (λ (x : Option (List ℕ)). with_file before x (λ now. line_from some now rest)) none)
      by None h (inr same) = inl (from_file some ∙ ap (λ (x : Option (List ℕ)). with_file before x (λ now. line_from some now rest)) same)
      by (Some bytes) h (inr same) = inr (from_file some ∙ ap (λ (x : Option (List ℕ)). with_file before x (λ now. line_from some now rest)) same
          ∙ file_is before bytes (λ now. line_from some now rest) (Ok words) h.0 h.1)

  not_settled : (this : Line) (o : Option (List ℕ)) → told path ≡ o → o ≡ None → Agrees (line_from told before (word ∷ rest)) this
  not_settled this o e none settled =
      let is : line_from told before (word ∷ rest) ≡ Untold = from_file told ∙ ap (λ (x : Option (List ℕ)). with_file before x (λ now. line_from told now rest)) (e ∙ none) in
      absurd (subst (λ (l : Line). IsSettled l) is settled)

  -- the words from this one on stop for the same reason as the file's
  pub file_stops : (why now : LineStop) → FileStops (told path) path why → IsBehind (length before) why now → StopsFrom told before (word ∷ rest) now
  file_stops (stop.File p) now f e =
      let named_path = string_bytes p in
      rw e (from_file (without named_path told)
      ∙ ap (λ (x : Option (List ℕ)). with_file before x (λ now. line_from (without named_path told) now rest)) (ap (without named_path told) (sym f) ∙ without-path named_path told))
  file_stops stop.Memory now f e = rw e tt
  file_stops stop.TooLong now f e = rw e (by (told path) refl f)
    where
      by : (o : Option (List ℕ)) → told path ≡ o → IfSome o (λ bytes. ARGS_LIMIT < length bytes) → Agrees (line_from told before (word ∷ rest)) TooLong
      by None is h = not_settled TooLong None is refl
      by (Some bytes) is h = λ settled. from_file told ∙ ap (λ (x : Option (List ℕ)). with_file before x (λ now. line_from told now rest)) is
          ∙ ap (λ (b : Bool). cond b TooLong (with_words before (words_in bytes) (λ now. line_from told now rest))) (beyond bytes h)
  file_stops (stop.Bad bad) now f (inr memory) = rw memory tt
  file_stops (stop.Bad bad) now f (inl is_bad) = rw is_bad (by (told path) refl f)
    where
      by : (o : Option (List ℕ)) → told path ≡ o → IfSome o (λ bytes. (length bytes ≤ ARGS_LIMIT) × (words_in bytes ≡ Err bad)) →
          Agrees (line_from told before (word ∷ rest)) (Bad (record { index = length before + bad.index; kind = bad.kind }))
      by None is h = not_settled (Bad (record { index = length before + bad.index; kind = bad.kind })) None is refl
      by (Some bytes) is h = λ settled. from_file told ∙ ap (λ (x : Option (List ℕ)). with_file before x (λ now. line_from told now rest)) is
          ∙ file_is before bytes (λ now. line_from told now rest) (Err bad) h.0 h.1

-- ---- words, one after the other

pub expands_none : (told : Told) (before words : List (List ℕ)) → Expands told before words before words
expands_none told before words some knows = inr refl

pub expands_then : (told : Told) (a b c x y z : List (List ℕ)) → Expands told a x b y → Expands told b y c z → Expands told a x c z
expands_then told a b c x y z h k some knows = by (h some knows) (k some knows)
  where
    by : (line_from some a x ≡ Untold) ⊎ (line_from some a x ≡ line_from some b y) → (line_from some b y ≡ Untold) ⊎ (line_from some b y ≡ line_from some c z) →
        (line_from some a x ≡ Untold) ⊎ (line_from some a x ≡ line_from some c z)
    by (inl e) f = inl e
    by (inr e) (inl f) = inl (e ∙ f)
    by (inr e) (inr f) = inr (e ∙ f)

-- the result of the rest of the words is that of all of them
pub agrees_then : (told : Told) (a b x y : List (List ℕ)) (this : Line) → Expands told a x b y → Agrees (line_from told b y) this → Agrees (line_from told a x) this
agrees_then told a b x y this h k settled = by (h told (knows_all told))
  where
    by : (line_from told a x ≡ Untold) ⊎ (line_from told a x ≡ line_from told b y) → line_from told a x ≡ this
    by (inl e) = absurd (subst (λ (l : Line). IsSettled l) e settled)
    by (inr e) = e ∙ k (subst (λ (l : Line). IsSettled l) e settled)

pub stops_then : (told : Told) (a b x y : List (List ℕ)) (why : LineStop) → Expands told a x b y → StopsFrom told b y why → StopsFrom told a x why
stops_then told a b x y (stop.File path) h k = by (h (without (string_bytes path) told) (knows_without (string_bytes path) told))
  where
    by : (line_from (without (string_bytes path) told) a x ≡ Untold) ⊎ (line_from (without (string_bytes path) told) a x ≡ line_from (without (string_bytes path) told) b y) → line_from (without (string_bytes path) told) a x ≡ Untold
    by (inl e) = e
    by (inr e) = e ∙ k
stops_then told a b x y stop.TooLong h k = agrees_then told a b x y TooLong h k
stops_then told a b x y (stop.Bad bad) h k = agrees_then told a b x y (Bad bad) h k
stops_then told a b x y stop.Memory h k = tt

-- what is known later of the files is the same
pub told_same : (was now : Told) (a b x y : List (List ℕ)) → ((p : List ℕ) → now p ≡ was p) → Expands now a x b y → Expands was a x b y
told_same was now a b x y same h some knows = h some (λ p. by p (knows p))
  where
    by : (p : List ℕ) → (some p ≡ None) ⊎ (some p ≡ was p) → (some p ≡ None) ⊎ (some p ≡ now p)
    by p (inl e) = inl e
    by p (inr e) = inr (e ∙ sym (same p))

-- the next of the words that are left
pub next_word : {Z : Type 0} (words : List (String Z)) (i : ℕ) (word : String Z) → i < length words → word ≡ slice_index_or words i word →
    texts_of (drop i words) ≡ string_bytes word ∷ texts_of (drop (i + 1) words)
next_word words i word lt e = ap (map (λ w. string_bytes w)) (drop_more words i word lt ∙ ap (λ (w : String _). w ∷ drop (i + 1) words) (sym e))

-- if the same is known, the line is the same
words_same : (before : List (List ℕ)) (r : Result (List (List ℕ)) BadWord) (f h : List (List ℕ) → Line) → ((b : List (List ℕ)) → f b ≡ h b) → with_words before r f ≡ with_words before r h
words_same before (Ok words) f h same = same (before ++ words)
words_same before (Err bad) f h same = refl

file_same : (before : List (List ℕ)) (o : Option (List ℕ)) (f h : List (List ℕ) → Line) → ((b : List (List ℕ)) → f b ≡ h b) → with_file before o f ≡ with_file before o h
file_same before None f h same = refl
file_same before (Some bytes) f h same = ap (λ (l : Line). cond (nat_lt ARGS_LIMIT (length bytes)) TooLong l) (words_same before (words_in bytes) f h same)

pub line_same : (was now : Told) → ((p : List ℕ) → now p ≡ was p) → (before words : List (List ℕ)) → line_from now before words ≡ line_from was before words
line_same was now same before [] = refl
line_same was now same before (word ∷ words) = by (args_path word) (λ (b : List (List ℕ)). line_same was now same b words)
  where
    by : (o : Option (List ℕ)) → ((b : List (List ℕ)) → line_from now b words ≡ line_from was b words) →
        with_word now before word o (λ b. line_from now b words) ≡ with_word was before word o (λ b. line_from was b words)
    by None rest = rest (before ++ word ∷ [])
    by (Some path) rest =
        ap (λ (o : Option (List ℕ)). with_file before o (λ b. line_from now b words)) (same path)
        ∙ file_same before (was path) (λ b. line_from now b words) (λ b. line_from was b words) rest

without_same : (path : List ℕ) (was now : Told) → ((p : List ℕ) → now p ≡ was p) → (p : List ℕ) → without path now p ≡ without path was p
without_same path was now same p = ap (λ (o : Option (List ℕ)). cond (bytes_eq p path) None o) (same p)

agrees_same : (was now : Told) (before words : List (List ℕ)) (this : Line) → ((p : List ℕ) → now p ≡ was p) → Agrees (line_from now before words) this → Agrees (line_from was before words) this
agrees_same was now before words this same h = subst (λ (l : Line). Agrees l this) (line_same was now same before words) h

pub stops_same : (was now : Told) (before words : List (List ℕ)) (why : LineStop) → ((p : List ℕ) → now p ≡ was p) → StopsFrom now before words why → StopsFrom was before words why
stops_same was now before words (stop.File path) same h =
    sym (line_same (without (string_bytes path) was) (without (string_bytes path) now) (without_same (string_bytes path) was now same) before words) ∙ h
stops_same was now before words stop.TooLong same h = agrees_same was now before words TooLong same h
stops_same was now before words (stop.Bad bad) same h = agrees_same was now before words (Bad bad) same h
stops_same was now before words stop.Memory same h = tt

-- the result of the words, once each file's words are in place of the word that names it
pub come_to : (told : Told) (words all : List (List ℕ)) (this : Line) → Expands told [] words all [] → read_all (line_of all) ≡ this → Agrees (line_in told words) this
come_to told words all this expands is settled = elim (expands told (knows_all told)) [
  | inl untold ↦ absurd (subst (λ (line : Line). IsSettled line) untold settled)
  | inr same ↦ same ∙ is
]
