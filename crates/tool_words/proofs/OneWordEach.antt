-- What the command of each tool does with words: each place is for one word.
use Rattle.std.proofs.Common.{◌≡◌, ◌∙◌, ◌+◌, ◌<◌, ◌==◌, ◌||◌, ℕ, Bool, true, false, List, [], ◌∷◌, ◌++◌, Option, Some, None, String, string_bytes, ap, ap₂, refl, zero, suc, length, arith, codes, bytes_eq, drop, map, if◌then◌else◌}
use Rattle.std.proofs.lemmas.Bool.Decides.{nat_tests}
use Rattle.std.proofs.lemmas.Str.{IsUtf8-string_bytes}
use Rattle.clap.specs.Kinds.{or_else}
use Rattle.clap.specs.Words.{App, Kinds, Row, Rule, Shape, Text, built, fault_of, is_simple_and_free, matches_of}
use Rattle.clap.specs.Simple.{filled, help_rule, label_of, names_of}
use Rattle.clap.specs.Walk.{Held, value, arg_by_index, arg_by_long, arg_by_short, nothing_held, pushed, rows_after, settled, to_positional}
use Rattle.clap.specs.Faults.{built_fault, long_fault, react_fault, short_fault, step_fault}
use Rattle.clap.specs.declared.error.kind.ErrorKind.TheVariants.{DisplayHelp, TooManyValues, UnknownArgument}
use Rattle.clap.proofs.FaultLemmas.{leaf_fault}
use Rattle.clap.proofs.OnLiterals.{clap_on_literals}
use Rattle.tool_words.specs.Tools.{command_of, command_with, filled_at, replay_places, explain_places, twin_places, sample_places, within_places, audit_places, suggest_places, show_places, compose_places, session_places, sessions_places, more_recordings, taken, taken_with, unless_faulty, words_at}
use Rattle.tool_words.specs.Operands.{AllUtf8, IsOneWordEach, IsOneWordAtMost, is_between, of_count, operands}
use Rattle.tool_words.proofs.WordKinds.{Faulty, faulty_as}
use Rattle.tool_words.proofs.Walking.{OneEach, behind, or_else_faulty, outcome, read, standing}

-- the words of strings are texts
all_utf8 : {Z : Type 0} (words : List (String Z)) → AllUtf8 (map (λ w. string_bytes w) words)
all_utf8 [] = tt
all_utf8 (word ∷ words) = (IsUtf8-string_bytes word, all_utf8 words)

pub utf8_behind : {Z : Type 0} (words : List (String Z)) → AllUtf8 (drop 1 (map (λ w. string_bytes w) words))
utf8_behind [] = tt
utf8_behind (word ∷ words) = all_utf8 words

behind_none : (words : Option (List Text)) → behind [] words ≡ words
behind_none None = refl
behind_none (Some words) = refl

or_false : (b : Bool) → b || false ≡ b
or_false true = refl
or_false false = refl

-- what a built command takes
abbrev built_takes : App → (List Row → Option (List Text)) → List Text → Option (List Text)
built_takes command found words = unless_faulty (built_fault command nothing_held words) (found (rows_after command.top.rules (names_of command) words))

-- ---- the wish for help is never taken

or_else_next : (a b : Kinds) → Faulty b → Faulty (or_else a b)
or_else_next [] b f = f
or_else_next (kind ∷ more) b f = record { kind = kind; more = more; is = refl }

help_fault : (c : List Rule) (h : Held) → Faulty (react_fault c false (filled help_rule) [] h)
help_fault c h = or_else_next _ _ (record { kind = DisplayHelp; more = []; is = refl })

help_long : (c : List Rule) (is_help : Bool) (v : Option Text) (h : Held) → Faulty (long_fault c false (if is_help then Some (filled help_rule) else None) v h)
help_long c true (Some v) h = record { kind = TooManyValues; more = []; is = refl }
help_long c true None h = help_fault c h
help_long c false v h = record { kind = UnknownArgument; more = []; is = refl }

help_short : (c : List Rule) (is_help : Bool) (rest : Text) (h : Held) (next : Held → Kinds) → Faulty (short_fault c false (if is_help then Some (filled help_rule) else None) rest h next)
help_short c true rest h next = or_else_faulty _ _ (help_fault c h)
help_short c false rest h next = record { kind = UnknownArgument; more = []; is = refl }

-- ---- lists of this many words

-- P holds of each list of this length
abbrev OfLength : ℕ → (List Text → Type 0) → Type 0
OfLength zero P = P []
OfLength (suc n) P = (word : Text) → OfLength n (λ words. P (word ∷ words))

-- .. and of each that is shorter
abbrev Shorter : ℕ → (List Text → Type 0) → Type 0
Shorter zero P = Unit {0}
Shorter (suc n) P = P [] × ((word : Text) → Shorter n (λ words. P (word ∷ words)))

of_length : (n : ℕ) (words : List Text) (P : List Text → Type 0) → OfLength n P → length words ≡ n → P words
of_length zero [] P all is = all
of_length zero (word ∷ words) P all is = absurd (omega arith)
of_length (suc n) [] P all is = absurd (omega arith)
of_length (suc n) (word ∷ words) P all is = of_length n words (λ more. P (word ∷ more)) (all word) (omega arith)

shorter : (n : ℕ) (words : List Text) (P : List Text → Type 0) → Shorter n P → length words < n → P words
shorter zero words P all lt = absurd (omega arith)
shorter (suc n) [] P all lt = all.0
shorter (suc n) (word ∷ words) P all lt = shorter n words (λ more. P (word ∷ more)) (all.1 word) (omega arith)

-- ---- a command, and its place after words of its places

-- what is held where each of these words goes to its place
abbrev held_from : List Rule → List Text → List Text → Held → Held
held_from rules places [] h = h
held_from rules [] (word ∷ words) h = h
held_from rules (place ∷ places) (word ∷ words) h = held_from rules places words (pushed place word (settled rules h))

held_skip : (rules : List Rule) (places words : List Text) (h : Held) → (held_from rules places words h).skip ≡ h.skip
held_skip rules places [] h = refl
held_skip rules [] (word ∷ words) h = refl
held_skip rules (place ∷ places) (word ∷ words) h = held_skip rules places words (pushed place word (settled rules h))

abbrev position : List Text → ℕ
position words = suc (length words)

-- of a command, with what it finds, its places, the least number of words and the number of its places
module _ (plain : App) (found : List Row → Option (List Text)) (places : List Text) (fits : ℕ → Bool) where
  abbrev command : App
  command = built plain

  abbrev held : List Text → Held
  held words = held_from command.top.rules places words nothing_held

  abbrev Takes : List Text → Type 0
  Takes words = (word : Text) (is_trailing : Bool) → (step_fault command.top (position words) (held words) value ≡ [])
      × (to_positional command.top.rules (arg_by_index command.top.rules (position words)) word (standing held position words is_trailing) (held words)
      ≡ standing held position (words ++ word ∷ []) (is_trailing || false))

  abbrev IsFull : List Text → Type 0
  IsFull words = Faulty (step_fault command.top (position words) (held words) value)

  abbrev Ends : List Text → Type 0
  Ends words = (is_trailing : Bool) → outcome command.top found (standing held position words is_trailing) [] ≡ of_count fits (Some words)

  -- what computes of the command of a tool
  record Computes : Type 0 where
    pub is_simple : is_simple_and_free plain ≡ true
    pub named : plain.top.no_binary_name ≡ false
    pub leaf : command.subs ≡ []
    pub long : (name : Text) → arg_by_long command.top.rules name ≡ (if bytes_eq (codes "help") name || false then Some (filled help_rule) else None)
    pub short : (c : ℕ) → arg_by_short command.top.rules c ≡ (if 104 == c || false then Some (filled help_rule) else None)
    pub keeps : command.top.args_override_self ≡ false
    pub takes : Shorter (length places) Takes
    pub full : OfLength (length places) IsFull
    pub ends : Shorter (suc (length places)) Ends
    pub over : (n : ℕ) → length places < n → fits n ≡ false

  one_each : Computes → OneEach command.top found (length places) fits held position
  one_each c = record {
    takes = λ words word is_trailing lt.
        let took = shorter (length places) words Takes c.takes lt word is_trailing in
        (took.0, took.1 ∙ ap (standing held position (words ++ word ∷ [])) (or_false is_trailing));
    full = λ words is. of_length (length places) words IsFull c.full is;
    ends = λ words is_trailing le. shorter (suc (length places)) words Ends c.ends (omega (arith, le)) is_trailing;
    over = c.over;
    long = λ name v h. faulty_as _ _ (ap₂ (λ (again : Bool) (rule : Option Rule). long_fault command.top.rules again rule v h) c.keeps (c.long name)) (help_long command.top.rules (bytes_eq (codes "help") name || false) v h);
    short = λ x rest h next. faulty_as _ _ (ap₂ (λ (again : Bool) (rule : Option Rule). short_fault command.top.rules again rule rest h next) c.keeps (c.short x)) (help_short command.top.rules (104 == x || false) rest h next);
    no_skip = λ words. held_skip command.top.rules places words nothing_held;
  }

  reads : Computes → (words : List Text) → AllUtf8 (drop 1 words) → unless_faulty (fault_of plain words) (found (matches_of plain words)) ≡ of_count fits (operands (drop 1 words))
  reads c words utf8 =
      ap (λ (b : Bool). built_takes command found (if b then words else drop 1 words)) c.named
      ∙ ap₂ unless_faulty (leaf_fault command nothing_held (drop 1 words) c.leaf) (ap (λ (subs : List Shape). found (rows_after command.top.rules (map label_of subs) (drop 1 words))) c.leaf)
      ∙ read command.top found (length places) fits held position (one_each c) (drop 1 words) [] false (omega arith) utf8
      ∙ ap (of_count fits) (behind_none (operands (drop 1 words)))

module _ (tool : Text) (places : List Text) where
  abbrev ComputesEach : Type 0
  ComputesEach = Computes (command_of tool places) (words_at places) places (λ k. k == length places)

  one_word_each : ComputesEach → IsOneWordEach tool places
  unfolding taken
  one_word_each c = record { is_simple = c.is_simple; takes = reads (command_of tool places) (words_at places) places (λ k. k == length places) c }

module _ (tool : Text) (places others : List Text) where
  abbrev ComputesAtMost : Type 0
  ComputesAtMost = Computes (command_with tool places others) (λ rows. Some (filled_at (places ++ others) rows)) (places ++ others) (is_between (length places) (length places + length others))

  one_word_at_most : ComputesAtMost → IsOneWordAtMost tool places others
  unfolding taken_with
  one_word_at_most c = record {
    is_simple = c.is_simple;
    takes = reads (command_with tool places others) (λ rows. Some (filled_at (places ++ others) rows)) (places ++ others) (is_between (length places) (length places + length others)) c;
  }

-- ---- each tool

over_number : (most n : ℕ) → most < n → (n == most) ≡ false
over_number most n lt = grind (arith, nat_tests)

over_most : (least most n : ℕ) → most < n → is_between least most n ≡ false
over_most least most n lt = grind (arith, nat_tests)

unknown : Faulty (UnknownArgument ∷ [])
unknown = record { kind = UnknownArgument; more = []; is = refl }

pub replay_one_each : IsOneWordEach (codes "replay") replay_places
unfolding clap_on_literals
replay_one_each = one_word_each (codes "replay") replay_places (record {
  is_simple = refl;
  named = refl;
  leaf = refl;
  long = λ name. refl;
  short = λ c. refl;
  keeps = refl;
  takes = (λ word t. (refl, refl), λ a. (λ word t. (refl, refl), λ b. tt));
  full = λ a b. unknown;
  ends = (λ t. refl, λ a. (λ t. refl, λ b. (λ t. refl, λ c. tt)));
  over = over_number 2;
})

pub explain_one_each : IsOneWordEach (codes "explain") explain_places
unfolding clap_on_literals
explain_one_each = one_word_each (codes "explain") explain_places (record {
  is_simple = refl;
  named = refl;
  leaf = refl;
  long = λ name. refl;
  short = λ c. refl;
  keeps = refl;
  takes = (λ word t. (refl, refl), λ a. (λ word t. (refl, refl), λ b. (λ word t. (refl, refl), λ c. tt)));
  full = λ a b c. unknown;
  ends = (λ t. refl, λ a. (λ t. refl, λ b. (λ t. refl, λ c. (λ t. refl, λ d. tt))));
  over = over_number 3;
})

pub twin_one_each : IsOneWordEach (codes "twin") twin_places
unfolding clap_on_literals
twin_one_each = one_word_each (codes "twin") twin_places (record {
  is_simple = refl;
  named = refl;
  leaf = refl;
  long = λ name. refl;
  short = λ c. refl;
  keeps = refl;
  takes = (λ word t. (refl, refl), λ a. (λ word t. (refl, refl), λ b. (λ word t. (refl, refl), λ c. tt)));
  full = λ a b c. unknown;
  ends = (λ t. refl, λ a. (λ t. refl, λ b. (λ t. refl, λ c. (λ t. refl, λ d. tt))));
  over = over_number 3;
})

pub sample_one_each : IsOneWordEach (codes "sample") sample_places
unfolding clap_on_literals
sample_one_each = one_word_each (codes "sample") sample_places (record {
  is_simple = refl;
  named = refl;
  leaf = refl;
  long = λ name. refl;
  short = λ c. refl;
  keeps = refl;
  takes = (λ word t. (refl, refl), λ a. (λ word t. (refl, refl), λ b. tt));
  full = λ a b. unknown;
  ends = (λ t. refl, λ a. (λ t. refl, λ b. (λ t. refl, λ c. tt)));
  over = over_number 2;
})

pub within_one_each : IsOneWordEach (codes "within") within_places
unfolding clap_on_literals
within_one_each = one_word_each (codes "within") within_places (record {
  is_simple = refl;
  named = refl;
  leaf = refl;
  long = λ name. refl;
  short = λ c. refl;
  keeps = refl;
  takes = (λ word t. (refl, refl), λ a. (λ word t. (refl, refl), λ b. tt));
  full = λ a b. unknown;
  ends = (λ t. refl, λ a. (λ t. refl, λ b. (λ t. refl, λ c. tt)));
  over = over_number 2;
})

pub show_one_each : IsOneWordEach (codes "show") show_places
unfolding clap_on_literals
show_one_each = one_word_each (codes "show") show_places (record {
  is_simple = refl;
  named = refl;
  leaf = refl;
  long = λ name. refl;
  short = λ c. refl;
  keeps = refl;
  takes = (λ word t. (refl, refl), λ a. tt);
  full = λ a. unknown;
  ends = (λ t. refl, λ a. (λ t. refl, λ b. tt));
  over = over_number 1;
})

pub compose_one_each : IsOneWordEach (codes "compose") compose_places
unfolding clap_on_literals
compose_one_each = one_word_each (codes "compose") compose_places (record {
  is_simple = refl;
  named = refl;
  leaf = refl;
  long = λ name. refl;
  short = λ c. refl;
  keeps = refl;
  takes = (λ word t. (refl, refl), λ a. tt);
  full = λ a. unknown;
  ends = (λ t. refl, λ a. (λ t. refl, λ b. tt));
  over = over_number 1;
})

pub session_one_each : IsOneWordEach (codes "session") session_places
unfolding clap_on_literals
session_one_each = one_word_each (codes "session") session_places (record {
  is_simple = refl;
  named = refl;
  leaf = refl;
  long = λ name. refl;
  short = λ c. refl;
  keeps = refl;
  takes = (λ word t. (refl, refl), λ a. (λ word t. (refl, refl), λ b. tt));
  full = λ a b. unknown;
  ends = (λ t. refl, λ a. (λ t. refl, λ b. (λ t. refl, λ c. tt)));
  over = over_number 2;
})

pub sessions_one_each : IsOneWordEach (codes "sessions") sessions_places
unfolding clap_on_literals
sessions_one_each = one_word_each (codes "sessions") sessions_places (record {
  is_simple = refl;
  named = refl;
  leaf = refl;
  long = λ name. refl;
  short = λ c. refl;
  keeps = refl;
  takes = (λ word t. (refl, refl), λ a. tt);
  full = λ a. unknown;
  ends = (λ t. refl, λ a. (λ t. refl, λ b. tt));
  over = over_number 1;
})

pub audit_at_most : IsOneWordAtMost (codes "audit") audit_places more_recordings
unfolding clap_on_literals
audit_at_most = one_word_at_most (codes "audit") audit_places more_recordings (record {
  is_simple = refl;
  named = refl;
  leaf = refl;
  long = λ name. refl;
  short = λ c. refl;
  keeps = refl;
  takes = (λ word t. (refl, refl), λ a. (λ word t. (refl, refl), λ b. (λ word t. (refl, refl), λ c. (λ word t. (refl, refl), λ d. (λ word t. (refl, refl), λ e. (λ word t. (refl, refl), λ f. (λ word t. (refl, refl), λ g. (λ word t. (refl, refl), λ h. (λ word t. (refl, refl), λ i. (λ word t. (refl, refl), λ j. (λ word t. (refl, refl), λ k. (λ word t. (refl, refl), λ l. (λ word t. (refl, refl), λ m. (λ word t. (refl, refl), λ n. (λ word t. (refl, refl), λ o. (λ word t. (refl, refl), λ p. (λ word t. (refl, refl), λ q. tt)))))))))))))))));
  full = λ a b c d e f g h i j k l m n o p q. unknown;
  ends = (λ t. refl, λ a. (λ t. refl, λ b. (λ t. refl, λ c. (λ t. refl, λ d. (λ t. refl, λ e. (λ t. refl, λ f. (λ t. refl, λ g. (λ t. refl, λ h. (λ t. refl, λ i. (λ t. refl, λ j. (λ t. refl, λ k. (λ t. refl, λ l. (λ t. refl, λ m. (λ t. refl, λ n. (λ t. refl, λ o. (λ t. refl, λ p. (λ t. refl, λ q. (λ t. refl, λ r. tt))))))))))))))))));
  over = over_most 2 17;
})

pub suggest_at_most : IsOneWordAtMost (codes "suggest") suggest_places more_recordings
unfolding clap_on_literals
suggest_at_most = one_word_at_most (codes "suggest") suggest_places more_recordings (record {
  is_simple = refl;
  named = refl;
  leaf = refl;
  long = λ name. refl;
  short = λ c. refl;
  keeps = refl;
  takes = (λ word t. (refl, refl), λ a. (λ word t. (refl, refl), λ b. (λ word t. (refl, refl), λ c. (λ word t. (refl, refl), λ d. (λ word t. (refl, refl), λ e. (λ word t. (refl, refl), λ f. (λ word t. (refl, refl), λ g. (λ word t. (refl, refl), λ h. (λ word t. (refl, refl), λ i. (λ word t. (refl, refl), λ j. (λ word t. (refl, refl), λ k. (λ word t. (refl, refl), λ l. (λ word t. (refl, refl), λ m. (λ word t. (refl, refl), λ n. (λ word t. (refl, refl), λ o. (λ word t. (refl, refl), λ p. tt))))))))))))))));
  full = λ a b c d e f g h i j k l m n o p. unknown;
  ends = (λ t. refl, λ a. (λ t. refl, λ b. (λ t. refl, λ c. (λ t. refl, λ d. (λ t. refl, λ e. (λ t. refl, λ f. (λ t. refl, λ g. (λ t. refl, λ h. (λ t. refl, λ i. (λ t. refl, λ j. (λ t. refl, λ k. (λ t. refl, λ l. (λ t. refl, λ m. (λ t. refl, λ n. (λ t. refl, λ o. (λ t. refl, λ p. (λ t. refl, λ q. tt)))))))))))))))));
  over = over_most 1 16;
})
