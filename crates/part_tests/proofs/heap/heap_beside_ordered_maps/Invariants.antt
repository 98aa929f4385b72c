use Rattle.part_tests.proofs.heap.heap_beside_ordered_maps.Given as goal

-- the ledger of the test's count
abbrev pub ghosts-play : goal.ghosts-play
ghosts-play g a = record { name = a.blank.name; parts = a.blank.parts }
