use Rattle.std.proofs.Common.{◌≡◌, ◌+◌, List, ◌∷◌, ◌++◌, [], ◌<◌, length, ap, sym, ◌∙◌, subst, arith}
use Rattle.std.specs.String.{string_eq}
use Rattle.indexmap.specs.IndexSet.{insert_key}
use Rattle.policy_args.specs.Distinct.{AreOf, Distinct, noted, pattern_key}
use Rattle.name_patterns.specs.PatternIndex.{Indexes}
use Rattle.policy_args.specs.EntryRanks.{rank_of, ranked}
use Rattle.policy_args.specs.declared.entry.Entry.{Entry}
use Rattle.std.specs.List.{list_all}
use Rattle.name_patterns.specs.Patterns.{is_pattern}
use Rattle.policy_args.proofs.Distincts.{all-last, still-of}
use Rattle.policy_args.proofs.Adding.{adds-nothing, adds-too-many, adds-one, words-added, few-entries}
use Rattle.policy_args.proofs.RankedEntries.{ranked-added}
use Rattle.policy_args.proofs.policy.Policy.add.Goals as goal

pub returns-then-contains-clause-exact : goal.returns-then-contains-clause-exact
returns-then-contains-clause-exact c =
    adds-nothing c.self.inside.words.keys c.self.inside.entries.items c.args.self.now c.args.entry c.args.word.now c.self.invariant.0 c.self.view_is c.requires
    (sym c.contains.ensures ∙ c.if-contains.true) c.self.invariant.1

pub returns-then-len-eq-MOST_ENTRIES-clause-exact : goal.returns-then-len-eq-MOST_ENTRIES-clause-exact
returns-then-len-eq-MOST_ENTRIES-clause-exact c =
    adds-too-many c.self.inside.words.keys c.self.inside.entries.items c.args.self.now c.args.entry c.args.word.now c.self.invariant.0 c.self.view_is c.requires
    (sym c.contains.ensures ∙ c.if-contains.false) (omega arith)

pub invariant_of-self-2 : goal.invariant_of-self-2
invariant_of-self-2 c =
    let entries = c.self.inside.entries.items in
    let pushed : c.push_reserved.new.self.items ≡ c.self.inside.entries.items ++ c.args.entry ∷ [] = c.push_reserved.ensures.items ∙ ap (λ es. es ++ c.args.entry ∷ []) c.reserve.ensures.items in
    let room : length c.self.inside.entries.items < 65535 = omega arith in
    let counted : c.len-2.result ≡ length c.self.inside.entries.items = let same = ap length c.reserve.ensures.items in omega (arith, same) in
    let noted-is : c.add.new.self ≡ noted c.self.inside.patterns (pattern_key c.args.entry.pattern) (length c.self.inside.entries.items + 1) =
    c.in_ok-add.ensures.ok ∙ ap (λ n. noted c.self.inside.patterns (pattern_key c.args.entry.pattern) (n + 1)) counted in (
      words-added c.self.inside.words.keys c.self.inside.entries.items c.args.self.now c.args.entry c.args.word.now c.self.invariant.0 c.self.view_is c.requires
          c.insert.new.self.keys _ c.in_ok-word.word (sym c.contains.ensures ∙ c.if-contains.false) c.in_ok-word.ensures.ok
          (c.in-Ok.ensures.keys ∙ ap (λ ks. insert_key string_eq ks c.in_ok-word.word) c.reserve-2.ensures.keys) pushed,
      few-entries c.self.inside.words.keys c.self.inside.entries.items c.args.self.now c.args.entry c.args.word.now c.self.invariant.0 c.self.view_is c.requires _ room pushed,
      subst (λ (d : Distinct). AreOf c.push_reserved.new.self.items d) (sym noted-is)
          (subst (λ (es : List Entry). AreOf es (noted c.self.inside.patterns (pattern_key c.args.entry.pattern) (length entries + 1))) (sym pushed)
          (still-of entries c.args.entry c.self.inside.patterns c.self.invariant.2)),
      ap (list_all (λ e. is_pattern e.pattern)) pushed ∙ all-last (λ e. is_pattern e.pattern) entries c.args.entry c.self.invariant.3 c.in_ok-add.ensures.grammar,
      subst (λ (es : List Entry). Indexes (ranked es) c.add_reserved.new.self) (sym pushed)
          (ranked-added entries c.args.entry c.rank-rank.result (c.len-2.result + 1) c.make_room.new.self c.add_reserved.new.self c.add_reserved.ensures
          (c.make_room.ensures.same (ranked entries) c.self.invariant.4) (ap (λ n. n + 1) counted) (c.rank-rank.ensures ∙ ap rank_of c.level.ensures)),
    )

pub returns-clause-exact : goal.returns-clause-exact
returns-clause-exact c =
    let pushed : c.push_reserved.new.self.items ≡ c.self.inside.entries.items ++ c.args.entry ∷ [] = c.push_reserved.ensures.items ∙ ap (λ es. es ++ c.args.entry ∷ []) c.reserve.ensures.items in
    let room : length c.self.inside.entries.items < 65535 = omega arith in
    adds-one c.self.inside.words.keys c.self.inside.entries.items c.args.self.now c.args.entry c.args.word.now c.self.invariant.0 c.self.view_is c.requires
    _ (sym c.contains.ensures ∙ c.if-contains.false) room pushed
