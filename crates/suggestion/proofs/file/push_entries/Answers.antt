use Rattle.std.proofs.Common.{◌≡◌, ◌∙◌, ◌++◌, ◌+◌, ap, drop, string_bytes, sym, Option, Some, append_assoc}
use Rattle.std.specs.Option.{option_map}
use Rattle.std.specs.Prelude.{slice_get}
use Rattle.dbus_names.specs.Texts.{Text}
use Rattle.policy_args.specs.Policy.{entry_word}
use Rattle.suggestion.specs.Suggestion.{entry_words, file_word}
use Rattle.suggestion.proofs.Words.{same_place, words-drop}
use Rattle.suggestion.proofs.file.push_entries.Goals as goal

pub loop-place-preserved : goal.loop-place-preserved
loop-place-preserved c =
    let place = c.loop-place.place in
    let entries = c.args.policy.now.entries in
    let before = string_bytes c.loop-place.text in
    let rest = entry_words (drop (place + 1) entries) in
    let there : option_map entry_word (slice_get entries place) ≡ Some c.word.result.now = ap (λ n. option_map entry_word (slice_get entries n)) (sym (same_place place)) ∙ c.word.ensures in
    ap (λ (t : Text). t ++ rest) c.in_ok-push_word.ensures ∙ append_assoc before (file_word c.word.result.now) rest
    ∙ ap (λ (t : Text). before ++ t) (sym (words-drop entries place c.word.result.now there)) ∙ c.loop-place.invariant
