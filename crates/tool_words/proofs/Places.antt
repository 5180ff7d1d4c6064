-- Places that are gone through one after the other.
use Rattle.std.proofs.Common.{◌≡◌, ◌∙◌, ◌+◌, ◌<◌, List, [], ◌∷◌, ◌++◌, ℕ, Bor, ap, ap₂, append_assoc, append-nil, fold, get_or, length, map, refl, sym, take}
use Rattle.std.specs.Prelude.{option_to_list}
use Rattle.std.proofs.lemmas.List.{map_more, take-map}
use Rattle.std.proofs.lemmas.List.Sums.{fold-append}
use Rattle.clap.specs.Words.{App, Row, Text, first_of}
use Rattle.tool_words.specs.Tools.{filled_at}

-- the texts of one place more
texts-more : (places : List (Bor Text)) (i : ℕ) (d : Bor Text) → i < length places → take (i + 1) (map (λ p. p.now) places) ≡ take i (map (λ p. p.now) places) ++ (get_or places i d).now ∷ []
texts-more places i d lt = take-map (λ p. p.now) (i + 1) places ∙ map_more (λ p. p.now) places i d lt ∙ ap (λ (l : List Text). l ++ (get_or places i d).now ∷ []) (sym (take-map (λ p. p.now) i places))

-- a command with one place more
pub folded-more : (add : App → Text → App) (command : App) (places : List (Bor Text)) (i : ℕ) (d : Bor Text) → i < length places
    → fold add command (take (i + 1) (map (λ p. p.now) places)) ≡ add (fold add command (take i (map (λ p. p.now) places))) (get_or places i d).now
folded-more add command places i d lt =
    ap (fold add command) (texts-more places i d lt) ∙ fold-append add command (take i (map (λ p. p.now) places)) ((get_or places i d).now ∷ [])

-- the filled places among some and others
pub filled_at-append : (places others : List Text) (rows : List Row) → filled_at (places ++ others) rows ≡ filled_at places rows ++ filled_at others rows
filled_at-append [] others rows = refl
filled_at-append (place ∷ places) others rows =
    ap (λ words. option_to_list (first_of place rows) ++ words) (filled_at-append places others rows)
    ∙ sym (append_assoc (option_to_list (first_of place rows)) (filled_at places rows) (filled_at others rows))

-- the filled places among one more
pub filled_at-more : (places : List (Bor Text)) (i : ℕ) (d : Bor Text) (rows : List Row) → i < length places
    → filled_at (take (i + 1) (map (λ p. p.now) places)) rows ≡ filled_at (take i (map (λ p. p.now) places)) rows ++ option_to_list (first_of (get_or places i d).now rows)
filled_at-more places i d rows lt =
    ap (λ ps. filled_at ps rows) (texts-more places i d lt)
    ∙ filled_at-append (take i (map (λ p. p.now) places)) ((get_or places i d).now ∷ []) rows
    ∙ ap (λ words. filled_at (take i (map (λ p. p.now) places)) rows ++ words) (append-nil (option_to_list (first_of (get_or places i d).now rows)))

-- one more word after those of the places before
pub pushed-more : (before found new word : List Text) (places : List (Bor Text)) (i : ℕ) (d : Bor Text) (rows : List Row) → i < length places
    → found ≡ before ++ filled_at (take i (map (λ p. p.now) places)) rows → word ≡ option_to_list (first_of (get_or places i d).now rows) → new ≡ found ++ word
    → new ≡ before ++ filled_at (take (i + 1) (map (λ p. p.now) places)) rows
pushed-more before found new word places i d rows lt held is pushed =
    pushed ∙ ap₂ (λ (f w : List Text). f ++ w) held is ∙ append_assoc before (filled_at (take i (map (λ p. p.now) places)) rows) (option_to_list (first_of (get_or places i d).now rows))
    ∙ sym (ap (λ words. before ++ words) (filled_at-more places i d rows lt))

-- all places, and then the others
pub filled-both : (first both : List Text) (places others : List Text) (rows : List Row) → first ≡ filled_at places rows → both ≡ first ++ filled_at others rows → both ≡ filled_at (places ++ others) rows
filled-both first both places others rows one other = other ∙ ap (λ words. words ++ filled_at others rows) one ∙ sym (filled_at-append places others rows)
