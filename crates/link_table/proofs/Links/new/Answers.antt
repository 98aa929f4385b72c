use Rattle.std.proofs.Common.{rules}
use Rattle.link_table.proofs.PlaceLaws.{numbers_of_tasks-replicate}
use Rattle.link_table.proofs.AmongLaws.{among-unlinked}
use Rattle.link_table.proofs.SoundLaws.{none_in, sound-unlinked}
use Rattle.link_table.proofs.Links.new.Goals as goal

pub returns-clause-unlinked : goal.returns-clause-unlinked
returns-clause-unlinked c = rw (c.in_ok-runs.ensures.items_if_clones_equal (search rules), c.in_ok-links.ensures.items_if_clones_equal (search rules), numbers_of_tasks-replicate)

pub returns-clause-sound : goal.returns-clause-sound
returns-clause-sound c = rw (returns-clause-unlinked c) (sound-unlinked _ _)

pub returns-clause-among : goal.returns-clause-among
returns-clause-among c = rw (returns-clause-unlinked c) (among-unlinked _ _)

pub invariant_of-result : goal.invariant_of-result
invariant_of-result c = (
  returns-clause-sound c,
  c.in_ok-top_marks.ensures,
  rw (c.in_ok-runs.ensures.items_if_clones_equal (search rules), numbers_of_tasks-replicate, none_in) c.in_ok-run_marks.ensures,
)
