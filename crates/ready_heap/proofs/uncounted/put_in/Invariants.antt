use Rattle.ready_heap.proofs.uncounted.put_in.Given as goal

-- the ledger of a count that nobody reads
abbrev pub ghosts-counted_insert : goal.ghosts-counted_insert
ghosts-counted_insert a = record { name = a.blank.name; parts = a.blank.parts }
