use Rattle.std.proofs.Common.{◌≡◌, IfOk, List, [], ℕ, ap, ◌∙◌, subst, map, flat_map, string_bytes}
use Rattle.policy_args.specs.Policy.{entry_word}
use Rattle.policy_suggest.specs.Facts.{facts_of, gathered, word_by}
use Rattle.policy_suggest.specs.Suggest.{entries_for, in_order, suggested, targets}
use Rattle.policy_suggest.proofs.FactsLaws.{gathered-all, words-are}
use Rattle.policy_suggest.proofs.words.suggested_words.Goals as goal

pub returns : goal.returns
unfolding suggested
returns c =
    let all = c.args.asked.now in
    let same : map (word_by c.in_ok-facts.facts) c.in_ok-targets.targets ≡ map entry_word (entries_for all) =
    ap (λ f. map (word_by f) c.in_ok-targets.targets) c.in_ok-facts.ensures
    ∙ ap (map (word_by (facts_of all))) (c.in_ok-targets.ensures ∙ ap (λ f. gathered f [] all) c.in_ok-facts.ensures ∙ gathered-all all)
    ∙ words-are all (in_order (flat_map (targets all) all)) in
    subst (λ (ws : List (List ℕ)). IfOk c.words_of.result (λ words. map (λ w. string_bytes w) words.items ≡ ws)) same c.words_of.ensures
