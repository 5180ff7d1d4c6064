use Rattle.reply_ledger.proofs.ledger.Ledger.peek.Given as goal

abbrev pub ghosts-peek_from : goal.ghosts-peek_from
ghosts-peek_from a = record { name = a.blank.name; parts = a.blank.parts }
