-- What a command makes of a word, by what the word begins with.
use Rattle.std.proofs.Common.{◌≡◌, ◌∙◌, ◌⊎◌, ◌==◌, ℕ, Bool, true, false, List, [], ◌∷◌, Option, Some, None, ap, refl, sym, inl, inr, if◌then◌else◌, slice_get, bytes_eq, arith, option_and_then}
use Rattle.std.proofs.lemmas.Bool.{true≢false}
use Rattle.std.proofs.lemmas.Bool.Decides.{nat_tests}
use Rattle.std.specs.Str.{IsUtf8, chars, encode_utf8_all}
use Rattle.std.specs.Char.{encode_utf8}
use Rattle.std.specs.Option.{option_map_or}
use Rattle.std.proofs.lemmas.Str.{encodes-chars}
use Rattle.clap.specs.declared.error.kind.ErrorKind.{ErrorKind}
use Rattle.clap.specs.Words.{Kinds, Rule, Text, Shape}
use Rattle.clap.specs.Walk.{Held, idle, value, word_met, long_or_other, short_or_plain, arg_by_long, trailing}
use Rattle.clap.specs.Lexer.{long_of, long_of_rest, short_of, short_of_rest, name_and_value, strip_byte}
use Rattle.clap.specs.Faults.{word_fault, flag_word_fault, bundle_fault, long_fault}
use Rattle.tool_words.specs.Operands.{is_option}

-- some kind of error comes
pub record Faulty (kinds : Kinds) : Type 0 where
  pub kind : ErrorKind
  pub more : Kinds
  pub is : kinds ≡ kind ∷ more

pub faulty_as : (a b : Kinds) → a ≡ b → Faulty b → Faulty a
faulty_as a b same f = record { kind = f.kind; more = f.more; is = same ∙ f.is }

-- a word that is no option and not `--`
pub record IsPlain (word : Text) : Type 0 where
  pub not_end : bytes_eq word (45 ∷ 45 ∷ []) ≡ false
  pub not_long : long_of word ≡ None
  pub not_short : short_of word ≡ None

-- an option, by its form
pub data IsFlag (word : Text) : Type 0 where
  Long : (p : Text × Option Text) → long_of word ≡ Some p → IsFlag word
  Short : (first : ℕ) (flags : Text) → long_of word ≡ None → short_of word ≡ Some (first ∷ flags) → word ≡ 45 ∷ first ∷ flags → IsFlag word

-- ---- which of these a word is

-- what a word that isn't `--` is
abbrev pub Kind : Text → Type 0
Kind word = (is_option word ≡ false × IsPlain word) ⊎ ((is_option word ≡ true) × IsFlag word)

long_one : (b : Bool) → option_and_then long_of_rest (option_and_then (strip_byte 45) (if b then Some [] else None)) ≡ None
long_one true = refl
long_one false = refl

short_one : (b : Bool) → option_and_then short_of_rest (if b then Some [] else None) ≡ None
short_one true = refl
short_one false = refl

module _ (c d : ℕ) (word : Text) where
  long_by : (b : Bool) → (c == 45) ≡ b → long_of (c ∷ d ∷ word) ≡ option_and_then long_of_rest (option_and_then (strip_byte 45) (if b then Some (d ∷ word) else None))
  long_by b e = ap (λ (x : Bool). option_and_then long_of_rest (option_and_then (strip_byte 45) (if x then Some (d ∷ word) else None))) e

  long_then : (b : Bool) → (c == 45) ≡ true → (d == 45) ≡ b → long_of (c ∷ d ∷ word) ≡ option_and_then long_of_rest (if b then Some word else None)
  long_then b e f = long_by true e ∙ ap (λ (x : Bool). option_and_then long_of_rest (if x then Some word else None)) f

  short_by : (b : Bool) → (c == 45) ≡ b → short_of (c ∷ d ∷ word) ≡ option_and_then short_of_rest (if b then Some (d ∷ word) else None)
  short_by b e = ap (λ (x : Bool). option_and_then short_of_rest (if x then Some (d ∷ word) else None)) e

  short_then : (c == 45) ≡ true → (d == 45) ≡ false → short_of (c ∷ d ∷ word) ≡ Some (d ∷ word)
  short_then e f = short_by true e ∙ ap (λ (x : Bool). if x then None else Some (d ∷ word)) f

-- after two dashes
kind_long : (c d : ℕ) (word : Text) → (c == 45) ≡ true → (d == 45) ≡ true → bytes_eq (c ∷ d ∷ word) (45 ∷ 45 ∷ []) ≡ false → Kind (c ∷ d ∷ word)
kind_long c d [] e f other =
    let yes : bytes_eq (c ∷ d ∷ []) (45 ∷ 45 ∷ []) ≡ true = rw (e, f) refl in
    absurd (true≢false (sym yes ∙ other))
kind_long c d (x ∷ word) e f other = inr (e, Long (name_and_value (x ∷ word)) (long_then c d (x ∷ word) true e f))

kind_two : (c d : ℕ) (word : Text) (b g : Bool) → (c == 45) ≡ b → (d == 45) ≡ g → bytes_eq (c ∷ d ∷ word) (45 ∷ 45 ∷ []) ≡ false → Kind (c ∷ d ∷ word)
kind_two c d word false g e f other = inl (e, record { not_end = other; not_long = long_by c d word false e; not_short = short_by c d word false e })
kind_two c d word true true e f other = kind_long c d word e f other
kind_two c d word true false e f other =
    let is : c ≡ 45 = grind (arith, nat_tests) in
    inr (e, Short d word (long_then c d word false e f) (short_then c d word e f) (ap (λ x. x ∷ d ∷ word) is))

pub kind_of_word : (word : Text) → bytes_eq word (45 ∷ 45 ∷ []) ≡ false → Kind word
kind_of_word [] e = inl (refl, record { not_end = refl; not_long = refl; not_short = refl })
kind_of_word (c ∷ []) e = inl (refl, record { not_end = e; not_long = long_one (c == 45); not_short = short_one (c == 45) })
kind_of_word (c ∷ d ∷ word) e = kind_two c d word (c == 45) (d == 45) refl refl e

-- ---- what the walk makes of each

module _ (rules : List Rule) (position : ℕ) (word : Text) (h : Held) where
  pub met_plain : IsPlain word → word_met rules [] false idle position word h ≡ (h, value)
  met_plain p = ap (λ (b : Bool). if b then (h, trailing position) else long_or_other rules idle word (long_of word) h) p.not_end
      ∙ ap (λ (o : Option (Text × Option Text)). long_or_other rules idle word o h) p.not_long
      ∙ ap (λ (o : Option Text). short_or_plain rules idle word o h) p.not_short

module _ (s : Shape) (word : Text) (h : Held) where
  pub fault_plain : IsPlain word → word_fault s [] false idle word h ≡ []
  fault_plain p = ap (λ (b : Bool). if b then [] else flag_word_fault s.rules s.args_override_self (long_of word) word h) p.not_end
      ∙ ap (λ (o : Option (Text × Option Text)). flag_word_fault s.rules s.args_override_self o word h) p.not_long
      ∙ ap (λ (o : Option Text). option_map_or (λ flags. bundle_fault s.rules s.args_override_self flags h) o []) p.not_short

  fault_not_end : bytes_eq word (45 ∷ 45 ∷ []) ≡ false → word_fault s [] false idle word h ≡ flag_word_fault s.rules s.args_override_self (long_of word) word h
  fault_not_end e = ap (λ (b : Bool). if b then [] else flag_word_fault s.rules s.args_override_self (long_of word) word h) e

  pub fault_long : bytes_eq word (45 ∷ 45 ∷ []) ≡ false → (p : Text × Option Text) → long_of word ≡ Some p
      → Faulty (long_fault s.rules s.args_override_self (arg_by_long s.rules p.0) p.1 h) → Faulty (word_fault s [] false idle word h)
  fault_long e p is f = faulty_as _ _ (fault_not_end e ∙ ap (λ (o : Option (Text × Option Text)). flag_word_fault s.rules s.args_override_self o word h) is) f

  pub fault_short : bytes_eq word (45 ∷ 45 ∷ []) ≡ false → (flags : Text) → long_of word ≡ None → short_of word ≡ Some flags
      → Faulty (bundle_fault s.rules s.args_override_self flags h) → Faulty (word_fault s [] false idle word h)
  fault_short e flags other is f = faulty_as _ _ (fault_not_end e ∙ ap (λ (o : Option (Text × Option Text)). flag_word_fault s.rules s.args_override_self o word h) other
      ∙ ap (λ (o : Option Text). option_map_or (λ flags. bundle_fault s.rules s.args_override_self flags h) o []) is) f

-- ---- the characters after a dash

first_there : (first : ℕ) (flags cs : Text) → chars (first ∷ flags) ≡ cs → encode_utf8_all (45 ∷ cs) ≡ 45 ∷ first ∷ flags → (c : ℕ) × (slice_get (chars (first ∷ flags)) 0 ≡ Some c)
unfolding encode_utf8
first_there first flags [] is back = let one : encode_utf8_all (45 ∷ []) ≡ 45 ∷ [] = refl in absurd cc
first_there first flags (c ∷ cs) is back = (c, ap (λ (l : List ℕ). slice_get l 0) is)

pub first_flag : (first : ℕ) (flags : Text) → IsUtf8 (45 ∷ first ∷ flags) → (c : ℕ) × (slice_get (chars (first ∷ flags)) 0 ≡ Some c)
unfolding chars
first_flag first flags utf8 = first_there first flags (chars (first ∷ flags)) refl (encodes-chars (45 ∷ first ∷ flags) utf8)
