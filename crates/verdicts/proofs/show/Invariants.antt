use Rattle.verdicts.proofs.show.Given as goal

abbrev pub ghosts-show_from : goal.ghosts-show_from
ghosts-show_from a = record { name = a.blank.name; parts = a.blank.parts }
