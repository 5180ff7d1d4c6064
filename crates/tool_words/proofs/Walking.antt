-- The walk of a command over words, where each place is for one word.
use Rattle.std.proofs.Common.{◌≡◌, ◌∙◌, ◌==◌, ◌<◌, ◌≤◌, ℕ, Bool, true, false, List, [], ◌∷◌, ◌++◌, Option, Some, None, ap, ap₂, refl, sym, inl, inr, if◌then◌else◌, length, bytes_eq, arith, fold, append-nil, append_assoc, length-append, subst, drop}
use Rattle.std.specs.Char.{encode_utf8}
use Rattle.std.specs.Str.{IsUtf8}
use Rattle.std.proofs.lemmas.Bool.{cases_lt}
use Rattle.std.proofs.lemmas.Bool.Decides.{nat_tests}
use Rattle.clap.specs.Kinds.{or_else}
use Rattle.clap.specs.Words.{Kinds, Row, Shape, Text}
use Rattle.clap.specs.Walk.{Held, Step, Walk, idle, value, trailing, after_step, arg_by_index, arg_by_long, arg_by_short, finished, long_or_other, settled, to_positional, walked}
use Rattle.clap.specs.Lexer.{long_of}
use Rattle.clap.specs.Faults.{bundle_step_fault, check_fault, defaults_fault, flags_fault, flag_word_fault, long_fault, settle_fault, short_fault, step_fault, turn_fault, walk_fault, word_fault}
use Rattle.tool_words.specs.Tools.{in_front, unless_faulty}
use Rattle.tool_words.specs.Operands.{AllUtf8, is_option, of_count, operands}
use Rattle.tool_words.proofs.WordKinds.{Faulty, faulty_as, IsPlain, IsFlag, Long, Short, kind_of_word, met_plain, fault_plain, fault_long, fault_short, first_flag}

abbrev after_walk : Shape → Held → Kinds
after_walk s end = or_else (settle_fault s.rules s.args_override_self end) (or_else (defaults_fault (settled s.rules end).rows s.rules) (check_fault s (finished s.rules end) false))

-- what a walk comes to that goes on from here over these words
abbrev pub outcome : Shape → (List Row → Option (List Text)) → Walk → List Text → Option (List Text)
outcome s found w words =
    unless_faulty (or_else (walk_fault s [] w words) (after_walk s (fold (walked s.rules []) w words).held))
    (found (finished s.rules (fold (walked s.rules []) w words).held))

module _ (s : Shape) (found : List Row → Option (List Text)) where
  passes : (w v : Walk) (word : Text) (words : List Text) → turn_fault s [] w word ≡ [] → walked s.rules [] w word ≡ v → outcome s found w (word ∷ words) ≡ outcome s found v words
  unfolding walk_fault
  passes w v word words turn next =
      ap (λ (k : Kinds). unless_faulty (or_else (or_else k (walk_fault s [] (walked s.rules [] w word) words)) (after_walk s (fold (walked s.rules []) (walked s.rules [] w word) words).held))
      (found (finished s.rules (fold (walked s.rules []) (walked s.rules [] w word) words).held))) turn
      ∙ ap (λ (x : Walk). outcome s found x words) next

  fails : (w : Walk) (word : Text) (words : List Text) → Faulty (turn_fault s [] w word) → outcome s found w (word ∷ words) ≡ None
  unfolding walk_fault
  fails w word words f =
      ap (λ (k : Kinds). unless_faulty (or_else (or_else k (walk_fault s [] (walked s.rules [] w word) words)) (after_walk s (fold (walked s.rules []) (walked s.rules [] w word) words).held))
      (found (finished s.rules (fold (walked s.rules []) (walked s.rules [] w word) words).held))) f.is

-- where the walk is after these words of its places
abbrev pub standing : (List Text → Held) → (List Text → ℕ) → List Text → Bool → Walk
standing held position words is_trailing = record { held = held words; waiting = idle; position = position words; is_trailing = is_trailing; stopped = None }

-- what a command does with this number of places for one word each, which takes words of the numbers that pass the test
pub record OneEach (s : Shape) (found : List Row → Option (List Text)) (most : ℕ) (fits : ℕ → Bool) (held : List Text → Held) (position : List Text → ℕ) : Type 0 where
  pub takes : (words : List Text) (word : Text) (is_trailing : Bool) → length words < most → (step_fault s (position words) (held words) value ≡ [])
      × (to_positional s.rules (arg_by_index s.rules (position words)) word (standing held position words is_trailing) (held words) ≡ standing held position (words ++ word ∷ []) is_trailing)
  pub full : (words : List Text) → length words ≡ most → Faulty (step_fault s (position words) (held words) value)
  pub ends : (words : List Text) (is_trailing : Bool) → length words ≤ most → outcome s found (standing held position words is_trailing) [] ≡ of_count fits (Some words)
  pub over : (n : ℕ) → most < n → fits n ≡ false
  pub long : (name : Text) (v : Option Text) (h : Held) → Faulty (long_fault s.rules s.args_override_self (arg_by_long s.rules name) v h)
  pub short : (c : ℕ) (rest : Text) (h : Held) (next : Held → Kinds) → Faulty (short_fault s.rules s.args_override_self (arg_by_short s.rules c) rest h next)
  pub no_skip : (words : List Text) → (held words).skip ≡ 0

-- words after others
abbrev pub behind : List Text → Option (List Text) → Option (List Text)
behind words None = None
behind words (Some more) = Some (words ++ more)

behind_one : (words : List Text) (word : Text) (rest : Option (List Text)) → behind (words ++ word ∷ []) rest ≡ behind words (in_front (Some word) rest)
behind_one words word None = refl
behind_one words word (Some more) = ap Some (append_assoc words (word ∷ []) more)

too_many : (most : ℕ) (fits : ℕ → Bool) (words : List Text) (word : Text) (rest : Option (List Text)) → ((n : ℕ) → most < n → fits n ≡ false) → length words ≡ most → None ≡ of_count fits (behind words (in_front (Some word) rest))
too_many most fits words word None over full = refl
too_many most fits words word (Some more) over full =
    let longer : fits (length (words ++ word ∷ more)) ≡ false = over _ (omega (arith, length-append words (word ∷ more))) in
    sym (ap (λ (b : Bool). if b then Some (words ++ word ∷ more) else None) longer)

abbrev operands_from : Bool → List Text → Option (List Text)
operands_from true words = Some words
operands_from false words = operands words

pub or_else_faulty : (a b : Kinds) → Faulty a → Faulty (or_else a b)
or_else_faulty a b f = record { kind = f.kind; more = f.more; is = ap (λ (k : Kinds). or_else k b) f.is }

module _ (s : Shape) (found : List Row → Option (List Text)) (most : ℕ) (fits : ℕ → Bool) (held : List Text → Held) (position : List Text → ℕ) (one : OneEach s found most fits held position) where
  -- a word that goes to a place
  value_step : (words more : List Text) (word : Text) (is_trailing : Bool) (rest : Option (List Text)) → length words ≤ most
      → turn_fault s [] (standing held position words is_trailing) word ≡ step_fault s (position words) (held words) value
      → walked s.rules [] (standing held position words is_trailing) word ≡ to_positional s.rules (arg_by_index s.rules (position words)) word (standing held position words is_trailing) (held words)
      → (length (words ++ word ∷ []) ≤ most → outcome s found (standing held position (words ++ word ∷ []) is_trailing) more ≡ of_count fits (behind (words ++ word ∷ []) rest))
      → outcome s found (standing held position words is_trailing) (word ∷ more) ≡ of_count fits (behind words (in_front (Some word) rest))
  value_step words more word is_trailing rest le turn next further =
      elim (cases_lt (length words) most) [
        | inl lt ↦
            let took = one.takes words word is_trailing lt in
            let still : length (words ++ word ∷ []) ≤ most = omega (arith, length-append words (word ∷ [])) in
            passes s found _ _ word more (turn ∙ took.0) (next ∙ took.1) ∙ further still ∙ ap (of_count fits) (behind_one words word rest)
        | inr ge ↦
            let all : length words ≡ most = omega arith in
            fails s found _ word more (faulty_as _ _ turn (one.full words all)) ∙ too_many most fits words word rest one.over all
      ]

  plain_turn : (words : List Text) (word : Text) → IsPlain word → turn_fault s [] (standing held position words false) word ≡ step_fault s (position words) (held words) value
  plain_turn words word p = ap₂ (λ (k : Kinds) (m : Held × Step). or_else k (step_fault s (position words) m.0 m.1)) (fault_plain s word (held words) p) (met_plain s.rules (position words) word (held words) p)

  plain_next : (words : List Text) (word : Text) → IsPlain word
      → walked s.rules [] (standing held position words false) word ≡ to_positional s.rules (arg_by_index s.rules (position words)) word (standing held position words false) (held words)
  unfolding walked
  plain_next words word p = ap (λ (m : Held × Step). after_step s.rules word (standing held position words false) m.0 m.1) (met_plain s.rules (position words) word (held words) p)

  trailing_next : (words : List Text) (word : Text)
      → walked s.rules [] (standing held position words true) word ≡ to_positional s.rules (arg_by_index s.rules (position words)) word (standing held position words true) (held words)
  unfolding walked
  trailing_next words word = refl

  -- `--`, if it ends the options
  end_turn : (words : List Text) (word : Text) → bytes_eq word (45 ∷ 45 ∷ []) ≡ true → turn_fault s [] (standing held position words false) word ≡ []
  end_turn words word e = ap₂ (λ (k : Kinds) (m : Held × Step). or_else k (step_fault s (position words) m.0 m.1))
      (ap (λ (b : Bool). if b then [] else flag_word_fault s.rules s.args_override_self (long_of word) word (held words)) e)
      (ap (λ (b : Bool). if b then (held words, trailing (position words)) else long_or_other s.rules idle word (long_of word) (held words)) e)

  end_next : (words : List Text) (word : Text) → bytes_eq word (45 ∷ 45 ∷ []) ≡ true → walked s.rules [] (standing held position words false) word ≡ standing held position words true
  unfolding walked
  end_next words word e = ap (λ (m : Held × Step). after_step s.rules word (standing held position words false) m.0 m.1)
      (ap (λ (b : Bool). if b then (held words, trailing (position words)) else long_or_other s.rules idle word (long_of word) (held words)) e)

  -- an option
  flag_word : (words : List Text) (word : Text) → bytes_eq word (45 ∷ 45 ∷ []) ≡ false → IsUtf8 word → IsFlag word → Faulty (word_fault s [] false idle word (held words))
  unfolding flags_fault
  flag_word words word e utf8 (Long p is) = fault_long s word (held words) e p is (one.long p.0 p.1 (held words))
  flag_word words word e utf8 (Short first flags other is whole) =
      let there = first_flag first flags (subst IsUtf8 whole utf8) in
      let none_skipped : Held = record (held words) { skip = 0 } in
      let rest = drop (length (encode_utf8 there.0)) (first ∷ flags) in
      let next : Text → ℕ → Held → Kinds = flags_fault s.rules s.args_override_self (length flags) in
      fault_short s word (held words) e (first ∷ flags) other is
      (faulty_as _ _ (ap₂ (λ (o : Option ℕ) (skip : ℕ). bundle_step_fault s.rules s.args_override_self o (first ∷ flags) skip none_skipped next) there.1 (one.no_skip words))
      (one.short there.0 rest none_skipped (next rest 0)))

  flag_turn : (words : List Text) (word : Text) → bytes_eq word (45 ∷ 45 ∷ []) ≡ false → IsUtf8 word → IsFlag word → Faulty (turn_fault s [] (standing held position words false) word)
  flag_turn words word e utf8 flag = or_else_faulty _ _ (flag_word words word e utf8 flag)

  -- what operands are, by their first word
  at_end : (word : Text) (more : List Text) → bytes_eq word (45 ∷ 45 ∷ []) ≡ true → operands (word ∷ more) ≡ Some more
  at_end word more e = ap (λ (b : Bool). if b then Some more else (if is_option word then None else in_front (Some word) (operands more))) e

  at_word : (word : Text) (more : List Text) (b : Bool) → bytes_eq word (45 ∷ 45 ∷ []) ≡ false → is_option word ≡ b → operands (word ∷ more) ≡ (if b then None else in_front (Some word) (operands more))
  at_word word more b e f = ap (λ (x : Bool). if x then Some more else (if is_option word then None else in_front (Some word) (operands more))) e
      ∙ ap (λ (x : Bool). if x then None else in_front (Some word) (operands more)) f

  pub read : (more words : List Text) (is_trailing : Bool) → length words ≤ most → AllUtf8 more
      → outcome s found (standing held position words is_trailing) more ≡ of_count fits (behind words (operands_from is_trailing more))
  read [] words true le utf8 = one.ends words true le ∙ ap (λ (l : List Text). of_count fits (Some l)) (sym (append-nil words))
  read [] words false le utf8 = one.ends words false le ∙ ap (λ (l : List Text). of_count fits (Some l)) (sym (append-nil words))
  read (word ∷ more) words true le utf8 = value_step words more word true (Some more) le refl (trailing_next words word) (λ still. read more (words ++ word ∷ []) true still utf8.1)
  read (word ∷ more) words false le utf8 =
      elim (bytes_eq word (45 ∷ 45 ∷ [])) as (λ b. bytes_eq word (45 ∷ 45 ∷ []) ≡ b
      → outcome s found (standing held position words false) (word ∷ more) ≡ of_count fits (behind words (operands (word ∷ more)))) [
        | true ↦ λ e. passes s found _ _ word more (end_turn words word e) (end_next words word e) ∙ read more words true le utf8.1
            ∙ ap (λ (o : Option (List Text)). of_count fits (behind words o)) (sym (at_end word more e))
        | false ↦ λ e. elim (kind_of_word word e) [
          | inl p ↦ value_step words more word false (operands more) le (plain_turn words word p.1) (plain_next words word p.1) (λ still. read more (words ++ word ∷ []) false still utf8.1)
              ∙ ap (λ (o : Option (List Text)). of_count fits (behind words o)) (sym (at_word word more false e p.0))
          | inr p ↦ fails s found _ word more (flag_turn words word e utf8.0 p.1)
              ∙ ap (λ (o : Option (List Text)). of_count fits (behind words o)) (sym (at_word word more true e p.0))
        ]
      ] refl
