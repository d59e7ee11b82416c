use Rattle.test_calls.proofs.telling.a_thousand_tickets_are_told.Given as goal

abbrev pub ghosts-relay : goal.ghosts-relay
ghosts-relay a b = record { table = b.table.now }
