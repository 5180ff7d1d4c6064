use Rattle.std.proofs.Common.{◌≡◌, ◌++◌, ◌∷◌, [], ◌∙◌, List, ap, sym}
use Rattle.policy_args.specs.declared.requests.Asked.{Asked}
use Rattle.policy_suggest.specs.Needs.{need_word, with_request}
use Rattle.policy_suggest.specs.Seen.{request_seen}
use Rattle.policy_suggest.proofs.Gathering.{adds-nothing, adds-one, asked-added, words-added}
use Rattle.policy_suggest.proofs.gathered.Requests.add.Goals as goal

pub returns-then-contains : goal.returns-then-contains
returns-then-contains c =
    let a = request_seen c.args.request in
    let word : c.as_str.result.now ≡ need_word a = c.as_str.ensures.value ∙ c.in_ok-push_word.ensures ∙ ap (λ t. t ++ need_word a) c.clear.ensures.bytes in
    adds-nothing c.self.inside.words.keys c.self.inside.asked.items a c.as_str.result.now c.self.invariant.0 word (sym c.contains.ensures ∙ c.if-contains.true)
    ∙ ap (λ kept. with_request kept a) c.self.view_is

pub invariant_of-self-2 : goal.invariant_of-self-2
invariant_of-self-2 c =
    let a = request_seen c.args.request in
    let kept = c.self.inside.asked.items in
    let word : c.as_str.result.now ≡ need_word a = c.as_str.ensures.value ∙ c.in_ok-push_word.ensures ∙ ap (λ t. t ++ need_word a) c.clear.ensures.bytes in
    let pushed : c.push_reserved.new.self.items ≡ kept ++ a ∷ [] =
    c.push_reserved.ensures.items ∙ ap (λ (xs : List Asked). xs ++ c.in_ok-asked.asked ∷ []) c.in_ok-reserve.ensures.items ∙ ap (λ x. kept ++ x ∷ []) c.in_ok-asked.ensures in (
      words-added c.self.inside.words.keys kept a c.as_str.result.now c.self.invariant.0 word (sym c.contains.ensures ∙ c.if-contains.false) c.push_reserved.new.self.items pushed
          c.insert.new.self.keys c.in_ok-word.word (c.in_ok-word.ensures.ok ∙ c.as_str-2.ensures.value ∙ sym c.as_str.ensures.value) c.in_ok-insert.ensures.keys,
      asked-added c.self.inside.words.keys kept a c.as_str.result.now c.self.invariant.0 word (sym c.contains.ensures ∙ c.if-contains.false) c.push_reserved.new.self.items pushed c.self.invariant.1 c.requires,
    )

pub returns : goal.returns
returns c =
    let a = request_seen c.args.request in
    let kept = c.self.inside.asked.items in
    let word : c.as_str.result.now ≡ need_word a = c.as_str.ensures.value ∙ c.in_ok-push_word.ensures ∙ ap (λ t. t ++ need_word a) c.clear.ensures.bytes in
    let pushed : c.push_reserved.new.self.items ≡ kept ++ a ∷ [] =
    c.push_reserved.ensures.items ∙ ap (λ (xs : List Asked). xs ++ c.in_ok-asked.asked ∷ []) c.in_ok-reserve.ensures.items ∙ ap (λ x. kept ++ x ∷ []) c.in_ok-asked.ensures in
    adds-one c.self.inside.words.keys kept a c.as_str.result.now c.self.invariant.0 word (sym c.contains.ensures ∙ c.if-contains.false) c.push_reserved.new.self.items pushed
    ∙ ap (λ xs. with_request xs a) c.self.view_is
