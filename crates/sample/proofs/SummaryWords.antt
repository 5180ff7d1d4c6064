-- The options under which a sample is played, and the words of its summary.
use Rattle.std.proofs.Common.{◌≡◌, ◌++◌, List, [], ◌∷◌, refl, ap, ◌∙◌, append_assoc, codes, decimal}
use Rattle.std.specs.Prelude.{Result, Ok}
use Rattle.dbus_names.specs.Texts.{Text}
use Rattle.policy_args.specs.Words.{PolicyOptions, options_of}
use Rattle.policy_args.specs.declared.BadWord.{BadWord}
use Rattle.sample.specs.Summary.{line_of, sample_options}
use Rattle.sample.specs.declared.counts.Counts.{Counts}

-- eight names and words after a text
eight_pushed : (b₀ b₁ b₂ b₃ b₄ b₅ b₆ b₇ b₈ n₁ n₂ n₃ n₄ n₅ n₆ n₇ n₈ p₁ p₂ p₃ p₄ p₅ p₆ p₇ p₈ : Text) →
    b₁ ≡ b₀ ++ n₁ ++ p₁ → b₂ ≡ b₁ ++ n₂ ++ p₂ → b₃ ≡ b₂ ++ n₃ ++ p₃ → b₄ ≡ b₃ ++ n₄ ++ p₄ → b₅ ≡ b₄ ++ n₅ ++ p₅ → b₆ ≡ b₅ ++ n₆ ++ p₆ →
    b₇ ≡ b₆ ++ n₇ ++ p₇ → b₈ ≡ b₇ ++ n₈ ++ p₈ →
    b₈ ≡ b₀ ++ (n₁ ++ p₁ ++ n₂ ++ p₂ ++ n₃ ++ p₃ ++ n₄ ++ p₄ ++ n₅ ++ p₅ ++ n₆ ++ p₆ ++ n₇ ++ p₇ ++ n₈ ++ p₈)
eight_pushed b₀ b₁ b₂ b₃ b₄ b₅ b₆ b₇ b₈ n₁ n₂ n₃ n₄ n₅ n₆ n₇ n₈ p₁ p₂ p₃ p₄ p₅ p₆ p₇ p₈ e₁ e₂ e₃ e₄ e₅ e₆ e₇ e₈ =
    rw (e₈, e₇, e₆, e₅, e₄, e₃, e₂, e₁) (simp append_assoc)

options_are : options_of (codes "--filter" ∷ codes "--talk=org.sample.A" ∷ []) ≡ Ok sample_options
unfolding options_of
options_are = refl

same_ok : (a b : PolicyOptions) (one two : Result PolicyOptions BadWord) → one ≡ Ok a → two ≡ Ok b → one ≡ two → a ≡ b
same_ok a b one two p q e = cc

-- what is read of these words is the options
pub options_read : (words : List Text) (filter talk : Text) (options : PolicyOptions) → words ≡ filter ∷ talk ∷ [] → filter ≡ codes "--filter" →
    talk ≡ codes "--talk=org.sample.A" → options_of words ≡ Ok options → options ≡ sample_options
options_read words filter talk options are is_filter is_talk read =
    let words_are : words ≡ codes "--filter" ∷ codes "--talk=org.sample.A" ∷ [] =
    are ∙ ap (λ w. w ∷ talk ∷ []) is_filter ∙ ap (λ w. codes "--filter" ∷ w ∷ []) is_talk in
    same_ok options sample_options _ _ read options_are (ap options_of words_are)

-- the names of the counts and the counts, as they are pushed and as they are joined
rejoined : (s feed n₁ n₂ n₃ n₄ n₅ n₆ n₇ n₈ c₁ c₂ c₃ c₄ c₅ c₆ c₇ c₈ : Text) →
    ((n₁ ++ s) ++ c₁ ++ (s ++ n₂ ++ s) ++ c₂ ++ (s ++ n₃ ++ s) ++ c₃ ++ (s ++ n₄ ++ s) ++ c₄ ++ (s ++ n₅ ++ s) ++ c₅ ++ (s ++ n₆ ++ s) ++ c₆ ++ (s ++ n₇ ++ s) ++ c₇
    ++ (s ++ n₈ ++ s) ++ c₈) ++ feed
    ≡ n₁ ++ s ++ (c₁ ++ s ++ (n₂ ++ s ++ (c₂ ++ s ++ (n₃ ++ s ++ (c₃ ++ s ++ (n₄ ++ s ++ (c₄ ++ s ++ (n₅ ++ s ++ (c₅ ++ s ++ (n₆ ++ s ++ (c₆ ++ s ++ (n₇ ++ s ++ (c₇ ++ s
    ++ (n₈ ++ s ++ (c₈ ++ feed)))))))))))))))
rejoined s feed n₁ n₂ n₃ n₄ n₅ n₆ n₇ n₈ c₁ c₂ c₃ c₄ c₅ c₆ c₇ c₈ = simp append_assoc

pub counts_pushed : (c : Counts) (b₀ b₁ b₂ b₃ b₄ b₅ b₆ b₇ b₈ b₉ : Text) →
    b₀ ≡ [] → b₁ ≡ b₀ ++ codes "items " ++ decimal c.items → b₂ ≡ b₁ ++ codes " passed " ++ decimal c.passed → b₃ ≡ b₂ ++ codes " pings " ++ decimal c.pings →
    b₄ ≡ b₃ ++ codes " shown " ++ decimal c.shown → b₅ ≡ b₄ ++ codes " instead " ++ decimal c.instead → b₆ ≡ b₅ ++ codes " hidden " ++ decimal c.hidden →
    b₇ ≡ b₆ ++ codes " to-bus " ++ decimal c.to_bus → b₈ ≡ b₇ ++ codes " to-client " ++ decimal c.to_client → b₉ ≡ b₈ ++ 10 ∷ [] → b₉ ≡ line_of c
counts_pushed c b₀ b₁ b₂ b₃ b₄ b₅ b₆ b₇ b₈ b₉ e₀ e₁ e₂ e₃ e₄ e₅ e₆ e₇ e₈ e₉ =
    e₉
    ∙ ap (λ b. b ++ 10 ∷ []) (eight_pushed b₀ b₁ b₂ b₃ b₄ b₅ b₆ b₇ b₈ (codes "items ") (codes " passed ") (codes " pings ") (codes " shown ") (codes " instead ") (codes " hidden ")
    (codes " to-bus ") (codes " to-client ") (decimal c.items) (decimal c.passed) (decimal c.pings) (decimal c.shown) (decimal c.instead) (decimal c.hidden) (decimal c.to_bus)
    (decimal c.to_client) e₁ e₂ e₃ e₄ e₅ e₆ e₇ e₈)
    ∙ ap (λ b. (b ++ (codes "items " ++ decimal c.items ++ codes " passed " ++ decimal c.passed ++ codes " pings " ++ decimal c.pings ++ codes " shown " ++ decimal c.shown
    ++ codes " instead " ++ decimal c.instead ++ codes " hidden " ++ decimal c.hidden ++ codes " to-bus " ++ decimal c.to_bus ++ codes " to-client " ++ decimal c.to_client)) ++ 10 ∷ []) e₀
    ∙ rejoined (codes " ") (10 ∷ []) (codes "items") (codes "passed") (codes "pings") (codes "shown") (codes "instead") (codes "hidden") (codes "to-bus") (codes "to-client")
    (decimal c.items) (decimal c.passed) (decimal c.pings) (decimal c.shown) (decimal c.instead) (decimal c.hidden) (decimal c.to_bus) (decimal c.to_client)
