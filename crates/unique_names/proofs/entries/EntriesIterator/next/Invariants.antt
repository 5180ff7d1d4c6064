use Rattle.unique_names.proofs.entries.EntriesIterator.next.Given as goal

abbrev pub ghosts-next_from : goal.ghosts-next_from
ghosts-next_from a = record { name = a.blank.name; parts = a.blank.parts }
