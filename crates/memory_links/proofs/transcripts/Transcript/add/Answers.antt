use Rattle.std.proofs.Common.{rules, ◌≡◌, ◌+◌, ◌-◌, ℕ, List, [], ◌∷◌, ◌++◌, length, ap, ap₂, sym, ◌∙◌, arith, length-append}
use Rattle.link_traits.specs.Journals.{Journal}
use Rattle.memory_links.specs.Transcripts.{bytes_in}
use Rattle.memory_links.proofs.Entered.{bytes_in-append, reverse-entries_of}
use Rattle.memory_links.proofs.transcripts.Transcript.add.Goals as goal

pub invariant_of-self : goal.invariant_of-self
invariant_of-self c =
    let was = c.self.invariant in
    let pushed : c.push.new.self.items ≡ c.self.inside.notes.items ++ record { note = c.args.note; length = length c.args.bytes.now } ∷ [] = search rules in
    let put : c.extend_from_slice.new.self.items ≡ c.self.inside.bytes.items ++ c.args.bytes.now = search rules in
    let notes : bytes_in c.push.new.self.items ≡ bytes_in c.self.inside.notes.items + length c.args.bytes.now = ap bytes_in pushed ∙ bytes_in-append c.self.inside.notes.items c.args.note (length c.args.bytes.now) in
    let bytes : length c.extend_from_slice.new.self.items ≡ length c.self.inside.bytes.items + length c.args.bytes.now = ap length put ∙ length-append c.self.inside.bytes.items c.args.bytes.now in
    (omega (arith, was.0, notes, bytes), search rules, search rules)

pub returns : goal.returns
returns c =
    let pushed : c.push.new.self.items ≡ c.self.inside.notes.items ++ record { note = c.args.note; length = length c.args.bytes.now } ∷ [] = search rules in
    let put : c.extend_from_slice.new.self.items ≡ c.self.inside.bytes.items ++ c.args.bytes.now = search rules in
    let newest = reverse-entries_of c.self.inside.notes.items c.push.new.self.items c.self.inside.bytes.items c.extend_from_slice.new.self.items c.args.note c.args.bytes.now c.self.invariant.0 pushed put in
    rw (← c.self.view_is) (ap₂ (λ (j : Journal) (b : List ℕ). record { tells = c.self.inside.tells; entries = j; entries_left = c.self.inside.entries_left - 1; bytes_left = c.self.inside.bytes_left - length b }) newest (sym c.requires.own))
