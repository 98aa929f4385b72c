use Rattle.std.proofs.Common.{◌∙◌}
use Rattle.trace_writer.proofs.Replays.{lent-cpus}
use Rattle.trace_writer.proofs.replay.Replay.open.Goals as goal

pub stretches_of-requires-clause-there : goal.stretches_of-requires-clause-there
stretches_of-requires-clause-there c = lent-cpus c.engine-engine.result.now _ c.as_slice-list.result.now c.in_ok-cpus.cpus.items (c.engine-engine.ensures ∙ c.in_ok-counted.ensures) c.as_slice-list.ensures.value c.in_ok-cpus.ensures

pub read_links-requires : goal.read_links-requires
read_links-requires c = lent-cpus c.engine-engine.result.now _ c.as_slice-list.result.now c.in_ok-cpus.cpus.items (c.engine-engine.ensures ∙ c.in_ok-counted.ensures) c.as_slice-list.ensures.value c.in_ok-cpus.ensures
