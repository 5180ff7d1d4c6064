-- The entries as a policy's index has them: their patterns, each with a rank.
use Rattle.std.specs.Prelude.{ℕ, ◌==◌, map, List, if◌then◌else◌}
use Rattle.name_patterns.specs.Ranks.{Ranked}
use Rattle.policy_args.specs.Policy.{given_by}
use Rattle.policy_args.specs.declared.Level.{Level}
use Rattle.policy_args.specs.declared.Level.TheVariants.{None as NoLevel, See, Talk, Own}
use Rattle.policy_args.specs.declared.entry.Entry.{Entry}

-- the rank of a level: a greater level has a greater rank
abbrev pub rank_of : Level → ℕ
rank_of NoLevel = 0
rank_of See = 1
rank_of Talk = 2
rank_of Own = 3

-- the level with the rank
abbrev pub level_of_rank : ℕ → Level
level_of_rank rank = if rank == 0 then NoLevel else (if rank == 1 then See else (if rank == 2 then Talk else Own))

-- the entry's pattern, with the rank of what the entry gives
abbrev pub as_ranked : Entry → Ranked
as_ranked e = (e.pattern, rank_of (given_by e.grant))

abbrev pub ranked : List Entry → List Ranked
ranked entries = map as_ranked entries
