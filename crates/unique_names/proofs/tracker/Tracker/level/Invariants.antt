use Rattle.unique_names.proofs.tracker.Tracker.level.Given as goal

abbrev pub ghosts-level_from : goal.ghosts-level_from
ghosts-level_from a = record { name = a.blank.name; parts = a.blank.parts }
