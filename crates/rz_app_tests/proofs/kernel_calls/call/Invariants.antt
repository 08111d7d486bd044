use Rattle.rz_app_tests.proofs.kernel_calls.call.Given as goal

-- the ledger of a count that nobody reads is the blank's
abbrev pub ghosts-counted : goal.ghosts-counted
ghosts-counted g a = record { name = a.blank.name; parts = a.blank.parts }
