use Rattle.rt_plays.specs.Groups.{group_of}
use Rattle.cpu_site.proofs.Numbering.{cpu-listed}
use Rattle.cpu_site.proofs.cpu_views.look.Goals as goal

pub cpu_view_of-requires : goal.cpu_view_of-requires
cpu_view_of-requires c = cpu-listed (group_of c.args.player.now) c.args.cpus.now c.loop-cpu.cpu-index (record { 0 = 0 }) c.requires c.loop-cpu-test.true
