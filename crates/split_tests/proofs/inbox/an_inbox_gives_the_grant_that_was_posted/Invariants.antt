use Rattle.std.proofs.Common.{[], ◌∷◌}
use Rattle.split_tests.proofs.inbox.an_inbox_gives_the_grant_that_was_posted.Given as goal

-- the turn that was just opened
abbrev pub ghosts-pass_on : goal.ghosts-pass_on
ghosts-pass_on g a = record { turns = a.turn.now.cell ∷ [] }
