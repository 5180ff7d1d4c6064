use Rattle.std.proofs.Common.{◌≡◌, ◌∙◌, ℕ, ◌+◌, ◌<◌, ◌≤◌, ◌^◌, Bool, true, false, List, length, map, ap, sym, arith, inl, inr, String, string_bytes}
use Rattle.std.specs.List.{list_any}
use Rattle.std.specs.Prelude.{bytes_eq}
use Rattle.std.proofs.lemmas.Bool.{cases_lt, false_from_ne_true}
use Rattle.std.proofs.lemmas.List.{length-map}
use Rattle.std.proofs.lemmas.Result.{IfOk-weaker}
use Rattle.dbus_names.specs.Texts.{Text}
use Rattle.policy_within.specs.Elements.{IsFirstFree, is_among, z_word}
use Rattle.policy_within.proofs.ZWordLaws.{any-map, no-more}
use Rattle.policy_within.proofs.z_words.ZWords.first_free.Goals as goal

-- the words up to a number, and the word of that number
first : (words : List Text) (number : ℕ) (word : Text) → word ≡ z_word number → number < 2 ^ 64 → is_among words word ≡ false → ((j : ℕ) → j < number → is_among words (z_word j) ≡ true) → IsFirstFree words word
first words number word is small free below = record {
  number = number;
  is = is;
  small = small;
  free = free;
  below = below;
}

one-more : (words : List Text) (number : ℕ) → ((j : ℕ) → j < number → is_among words (z_word j) ≡ true) → is_among words (z_word number) ≡ true → (j : ℕ) → j < number + 1 → is_among words (z_word j) ≡ true
one-more words number below here j lt = elim (cases_lt j number) [
  | inl under ↦ below j under
  | inr over ↦ let same : number ≡ j = omega (arith, lt, over) in ap (λ k. is_among words (z_word k)) (sym same) ∙ here
]

-- the word after as many as there are words
past-all : (words : List Text) (number : ℕ) → length words ≤ number → number < 2 ^ 63 → ((j : ℕ) → j < number → is_among words (z_word j) ≡ true) → is_among words (z_word number) ≡ false
past-all words number long small below = false_from_ne_true (is_among words (z_word number)) (λ here.
    let few = no-more (number + 1) words (omega (arith, small)) (one-more words number below here) in
    absurd (omega (arith, few, long)))

-- what a look-up of a text answers
looked-up : {Z : Type 0} (keys : List (String Z)) (words : List Text) (text word : Text) (b : Bool) → map (λ k. string_bytes k) keys ≡ words → text ≡ word → b ≡ list_any (λ k. bytes_eq text (string_bytes k)) keys → is_among words word ≡ b
looked-up keys words text word b are same found =
    ap (λ ws. is_among ws word) (sym are) ∙ ap (is_among (map (λ k. string_bytes k) keys)) (sym same) ∙ any-map (bytes_eq text) (λ k. string_bytes k) keys ∙ sym found

pub returns-then-not-contains : goal.returns-then-not-contains
returns-then-not-contains c =
    first c.args.self.now c.loop-number.number (string_bytes c.in_ok-word.word) c.in_ok-word.ensures (omega arith)
    (looked-up c.self.inside.words.keys c.args.self.now c.as_str.result.now (string_bytes c.in_ok-word.word) c.contains.result c.self.view_is c.as_str.ensures.value c.contains.ensures ∙ c.if-not-contains.true)
    c.loop-number.invariant

pub loop-number-preserved : goal.loop-number-preserved
loop-number-preserved c =
    one-more c.args.self.now c.loop-number.number c.loop-number.invariant
    (ap (is_among c.args.self.now) (sym c.in_ok-word.ensures)
    ∙ looked-up c.self.inside.words.keys c.args.self.now c.as_str.result.now (string_bytes c.in_ok-word.word) c.contains.result c.self.view_is c.as_str.ensures.value c.contains.ensures ∙ c.if-not-contains.false)

pub returns : goal.returns
returns c =
    let whole : c.loop-number.number ≡ c.len-count.result = omega arith in
    let count : length c.args.self.now ≡ c.len-count.result = ap length (sym c.self.view_is) ∙ length-map c.self.inside.words.keys (λ k. string_bytes k) ∙ sym c.len-count.ensures.len in
    let below : (j : ℕ) → j < c.len-count.result → is_among c.args.self.now (z_word j) ≡ true = λ j lt. c.loop-number.invariant j (omega arith) in
    IfOk-weaker c.z_word-2.result (λ word. string_bytes word ≡ z_word c.len-count.result) (λ word. IsFirstFree c.args.self.now (string_bytes word))
    (λ word is. first c.args.self.now c.len-count.result (string_bytes word) is (omega arith)
    (ap (is_among c.args.self.now) is ∙ past-all c.args.self.now c.len-count.result (omega arith) c.len-count.ensures.small below) below)
    c.z_word-2.ensures
