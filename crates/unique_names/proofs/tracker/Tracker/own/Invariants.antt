use Rattle.unique_names.proofs.tracker.Tracker.own.Given as goal

abbrev pub ghosts-own_from : goal.ghosts-own_from
ghosts-own_from a = record { name = a.blank.name; parts = a.blank.parts }
