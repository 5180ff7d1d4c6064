use Rattle.std.proofs.Common.{rules, ◌≡◌, ℕ, ap, sym, ◌∙◌, option_map, string_bytes, length, subst}
use Rattle.std.proofs.lemmas.List.{length-map}
use Rattle.link_traits.specs.Texts.{texts_of}
use Rattle.line_words.specs.Stops.{IsBehind}
use Rattle.line_words.proofs.WordLaws.{file_stops}
use Rattle.line_words.proofs.reading.add_word.Goals as goal

pub returns-in-Some-clause-stops : goal.returns-in-Some-clause-stops
returns-in-Some-clause-stops g c = λ rest. let count : c.len.result ≡ length c.args.all.now.items = search rules in
    file_stops (g.F.Files.view c.args.files.now).told (texts_of c.args.all.now.items) c.args.word.now (string_bytes c.in-Some.path) rest
    (sym c.requires ∙ ap (option_map (λ p. string_bytes p)) c.in-Some.is) c.in-Err.stop c.behind.result
    c.in-Err.ensures.stops (subst (λ (n : ℕ). IsBehind n c.in-Err.stop c.behind.result) (count ∙ sym (length-map c.args.all.now.items (λ w. string_bytes w))) c.behind.ensures)
