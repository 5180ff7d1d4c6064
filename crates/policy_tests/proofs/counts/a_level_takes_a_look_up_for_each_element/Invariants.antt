use Rattle.policy_tests.proofs.counts.a_level_takes_a_look_up_for_each_element.Given as goal

abbrev pub ghosts-both_levels : goal.ghosts-both_levels
ghosts-both_levels g a = record { name = a.blank.name; parts = a.blank.parts }
