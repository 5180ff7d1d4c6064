use Rattle.std.proofs.Common.{◌≡◌, ◌+◌, ◌-◌, [], Some, fold, take, ap, sym, ◌∙◌, slice_get, arith}
use Rattle.std.proofs.lemmas.List.Sums.{fold-append}
use Rattle.policy_args.specs.declared.entry.Entry.{Entry}
use Rattle.std.proofs.Common.{rules, string_bytes}
use Rattle.std.proofs.lemmas.Result.{IfOk-weaker}
use Rattle.policy_within.specs.Apart.{has_rooted}
use Rattle.policy_within.specs.Elements.{IsFirstFree, elements, entry_elements, fresh}
use Rattle.policy_within.specs.Steps.{with_z}
use Rattle.policy_within.proofs.Apart.{all-rooted, all-taken}
use Rattle.policy_within.proofs.ZWordLaws.{found-is-fresh, fresh-first}
use Rattle.policy_within.proofs.Prefixes.{all-more, flat-more}
use Rattle.policy_within.proofs.z_words.fresh_element.Goals as goal

pub loop-index-preserved : goal.loop-index-preserved
loop-index-preserved c =
    let number : c.loop-index.index + 1 - 1 ≡ c.loop-index.index = omega arith in
    let here : slice_get c.args.policy.now.entries c.loop-index.index ≡ Some c.entry.result.now = ap (slice_get c.args.policy.now.entries) (sym number) ∙ c.entry.ensures in
    record {
      words =
          c.in_ok-add_entry.ensures.words
          ∙ ap (λ ws. fold with_z ws (entry_elements c.entry.result.now)) c.loop-index.invariant.words
          ∙ sym (fold-append with_z [] (elements (take c.loop-index.index c.args.policy.now.entries)) (entry_elements c.entry.result.now))
          ∙ ap (fold with_z []) (sym (flat-more entry_elements c.args.policy.now.entries c.loop-index.index c.entry.result.now here));
      rooted = all-more (λ (e : Entry). has_rooted e.grant) c.args.policy.now.entries c.loop-index.index c.entry.result.now here c.loop-index.invariant.rooted c.in_ok-add_entry.ensures.rooted;
    }

pub returns-clause-fresh : goal.returns-clause-fresh
returns-clause-fresh c =
    let entries = c.args.policy.now.entries in
    let all = all-taken entries c.loop-index.taken c.loop-index.index (omega arith) c.loop-index.invariant.words in
    IfOk-weaker c.first_free.result (λ word. IsFirstFree c.loop-index.taken (string_bytes word)) (λ word. string_bytes word ≡ fresh entries)
    (λ word first. found-is-fresh entries c.loop-index.taken (string_bytes word) all first) c.first_free.ensures

pub returns-clause-free : goal.returns-clause-free
returns-clause-free c =
    let entries = c.args.policy.now.entries in
    let all = all-taken entries c.loop-index.taken c.loop-index.index (omega arith) c.loop-index.invariant.words in
    IfOk-weaker c.first_free.result (λ word. IsFirstFree c.loop-index.taken (string_bytes word)) (λ _. IsFirstFree (elements entries) (fresh entries))
    (λ word first. fresh-first entries c.loop-index.taken (string_bytes word) all first) c.first_free.ensures

pub returns-clause-rooted : goal.returns-clause-rooted
returns-clause-rooted c = let rooted = all-rooted c.args.policy.now.entries c.loop-index.index (omega arith) c.loop-index.invariant.rooted in search rules
