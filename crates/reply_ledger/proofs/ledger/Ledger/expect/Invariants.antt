use Rattle.reply_ledger.proofs.ledger.Ledger.expect.Given as goal

abbrev pub ghosts-expect_from : goal.ghosts-expect_from
ghosts-expect_from a = record { name = a.blank.name; parts = a.blank.parts }
