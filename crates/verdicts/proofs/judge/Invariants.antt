use Rattle.verdicts.proofs.judge.Given as goal

abbrev pub ghosts-judge_from : goal.ghosts-judge_from
ghosts-judge_from a = record { name = a.blank.name; parts = a.blank.parts }
