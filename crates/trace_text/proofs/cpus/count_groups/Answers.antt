use Rattle.trace_text.proofs.GroupLaws.{groups-few}
use Rattle.trace_text.proofs.cpus.count_groups.Goals as goal

pub count_in-requires : goal.count_in-requires
count_in-requires c = rw c.parts.ensures.parts (groups-few c.args.setup.now c.parts.ensures.valid)
