use Rattle.std.proofs.Common.{rules, ap, ◌∙◌, map, arith, ◌≡◌, IfSome, Option, List, ℕ, Some, None, ◌++◌, ◌∷◌, [], suc, length-append, length, take, drop, string_bytes}
use Rattle.std.proofs.lemmas.List.{map_push}
use Rattle.std.specs.List.{slice_get}
use Rattle.std.specs.Option.{option_map}
use Rattle.link_traits.specs.Texts.{texts_of}
use Rattle.process_streams.proofs.Reading.{more_texts, bad_word}
use Rattle.process_streams.proofs.words.words_of_process.Goals as goal

next_is : (told : Option (List (List ℕ))) (i n : ℕ) (word : Option (List ℕ)) (w : List ℕ) → i ≡ suc n → word ≡ Some w → IfSome told (λ words. word ≡ slice_get words i) → IfSome told (λ words. Some w ≡ slice_get words (suc n))
next_is None i n word w e p s = tt
next_is (Some words) i n word w e p s = cc

carried : (told : Option (List (List ℕ))) (new old : List (List ℕ)) (m n : ℕ) → new ≡ old → m ≡ n → IfSome told (λ words. old ≡ take n (drop 1 words)) → IfSome told (λ words. new ≡ take m (drop 1 words))
carried None new old m n e f h = tt
carried (Some words) new old m n e f h = cc

pub returns-in_default-clause-err : goal.returns-in_default-clause-err
returns-in_default-clause-err g c =
    let told = g.A.Arguments.told c.args.arguments.now in
    let n = length c.loop-index.texts.items in
    let is_next : IfSome told (λ words. Some c.in-Ok-Some.bytes.items ≡ slice_get words (suc n)) =
    next_is told c.loop-index.index n _ c.in-Ok-Some.bytes.items c.loop-index.invariant.count (ap (λ o. option_map (λ w. w.items) o) c.in-Ok-Some.field-0-is) c.in-Ok-Some.ensures in
    bad_word told (texts_of c.loop-index.texts.items) n c.in-Ok-Some.bytes.items c.loop-index.invariant.texts is_next (c.text_of.ensures.none c.in_default.is)

pub loop-index-preserved : goal.loop-index-preserved
loop-index-preserved g c =
    let told = g.A.Arguments.told c.args.arguments.now in
    let before = c.loop-index.texts.items in
    let n = length before in
    let is_next : IfSome told (λ words. Some c.in-Ok-Some.bytes.items ≡ slice_get words (suc n)) =
    next_is told c.loop-index.index n _ c.in-Ok-Some.bytes.items c.loop-index.invariant.count (ap (λ o. option_map (λ w. w.items) o) c.in-Ok-Some.field-0-is) c.in-Ok-Some.ensures in
    let items : c.push.new.self.items ≡ before ++ (c.in-Some.text ∷ []) = search rules in
    let texts : texts_of c.push.new.self.items ≡ texts_of before ++ (c.in-Ok-Some.bytes.items ∷ []) =
    ap (map (λ w. string_bytes w)) items ∙ map_push (λ w. string_bytes w) before c.in-Some.text ∙ ap (λ w. texts_of before ++ (w ∷ [])) c.in-Some.ensures.some in
    let longer : length c.push.new.self.items ≡ suc n = omega (arith, ap length items, length-append before (c.in-Some.text ∷ [])) in
    record {
      count = omega (arith, longer, c.loop-index.invariant.count);
      texts = carried told _ _ _ _ texts longer (more_texts told (texts_of before) n c.in-Ok-Some.bytes.items c.loop-index.invariant.texts is_next);
    }
