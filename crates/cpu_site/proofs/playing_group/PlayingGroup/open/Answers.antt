use Rattle.std.proofs.Common.{◌≡◌, sym, ap, ◌∙◌, subst, arith}
use Rattle.rt_model.specs.Group.{group_processors}
use Rattle.rt_plays.specs.Plays.{IsBegunPlay}
use Rattle.rt_plays.specs.Groups.{GroupHistory, group_of}
use Rattle.cpu_site.specs.Cpus.{cpu_numbers}
use Rattle.cpu_site.proofs.Numbering.{cpus-read}
use Rattle.cpu_site.proofs.CpuViewLaws.{raises-none}
use Rattle.cpu_site.proofs.playing_group.PlayingGroup.open.Goals as goal

pub invariant_of-result : goal.invariant_of-result
invariant_of-result c =
    let cpus : cpu_numbers c.in_ok-cpus.cpus.items ≡ group_processors (group_of c.in_ok-player.player) = c.in_ok-cpus.ensures ∙ ap (λ (h : GroupHistory). group_processors (group_of h)) (sym c.in_ok-player.ensures.group) in (
      cpus,
      c.in_ok-cpu_views.ensures,
      raises-none c.in_ok-player.player c.in_ok-raises.raises.items c.len.result (ap (λ (h : GroupHistory). h.entries) c.in_ok-player.ensures.group) (omega (arith, c.len.ensures, c.in_ok-cpus.cpus.ok.0, cpus-read (group_of c.in_ok-player.player) c.in_ok-cpus.cpus.items cpus)) c.in_ok-raises.ensures,
      subst (λ (h : GroupHistory). IsBegunPlay (group_of h) h.entries) c.player.view_is c.player.invariant.begun,
    )
