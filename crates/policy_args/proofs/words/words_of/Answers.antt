use Rattle.std.proofs.Common.{ℕ, ◌<◌, List, [], ◌∷◌, length, map, string_bytes, ap, ap₂, sym, ◌∙◌, subst, arith}
use Rattle.std.proofs.lemmas.Bool.Decides.{nat_tests}
use Rattle.std.proofs.lemmas.List.{map-append}
use Rattle.dbus_names.specs.Names.{parts_at}
use Rattle.policy_args.specs.declared.refusals.LineRefusal.{LineRefusal}
use Rattle.policy_args.specs.Gives.{Fails, refusal_at}
use Rattle.policy_args.specs.Words.{each_word, with_word, without_last_empty, words_in}
use Rattle.policy_args.proofs.FileWords.{goes_on, stops, words-cut}
use Rattle.policy_args.proofs.words.words_of.Goals as goal

pub loop-rest-init : goal.loop-rest-init
unfolding words_in
loop-rest-init c =
    ap₂ (λ (n : ℕ) (ws : List (List ℕ)). each_word with_word n ws (without_last_empty (parts_at 0 c.args.bytes.now))) c.new-words.ensures.len (ap (map (λ w. string_bytes w)) c.new-words.ensures.items)

pub returns-in-Err : goal.returns-in-Err
returns-in-Err c =
    let some : 0 < length c.loop-rest.rest.now = grind (arith, nat_tests) in
    let first = words-cut c.loop-rest.rest.now c.cut.result.0.now c.cut.result.1.now some c.cut.ensures.word c.cut.ensures.after in
    subst (λ (r : LineRefusal). Fails r (words_in c.args.bytes.now)) (sym (c.at.ensures ∙ ap (λ n. refusal_at n c.in-Err.refusal) c.len.ensures))
    (stops _ _ _ _ _ _ _ c.loop-rest.invariant first c.in-Err.ensures)

pub loop-rest-preserved : goal.loop-rest-preserved
loop-rest-preserved c =
    let some : 0 < length c.loop-rest.rest.now = grind (arith, nat_tests) in
    let first = words-cut c.loop-rest.rest.now c.cut.result.0.now c.cut.result.1.now some c.cut.ensures.word c.cut.ensures.after in
    ap₂ (λ (n : ℕ) (ws : List (List ℕ)). each_word with_word n ws (without_last_empty (parts_at 0 c.cut.result.1.now))) c.in_ok-push-in-Ok.ensures.len
    (ap (map (λ w. string_bytes w)) c.in_ok-push-in-Ok.ensures.items ∙ map-append (λ w. string_bytes w) c.loop-rest.words.items (c.in-Ok.text ∷ []))
    ∙ goes_on _ _ _ _ _ _ _ c.loop-rest.invariant first c.in-Ok.ensures
