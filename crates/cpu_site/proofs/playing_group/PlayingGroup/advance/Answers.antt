use Rattle.std.proofs.Common.{length, ap, sym, ◌∙◌, arith, length-append, ◌∷◌, []}
use Rattle.rt_model.specs.Group.{group_processors}
use Rattle.rt_plays.specs.Groups.{GroupHistory}
use Rattle.cpu_site.proofs.CpuViewLaws.{group-same, raises-low, raises-more}
use Rattle.cpu_site.proofs.playing_group.PlayingGroup.advance.Goals as goal

pub count_raises-requires-clause-few : goal.count_raises-requires-clause-few
count_raises-requires-clause-few c =
    let longer = ap (λ (x : GroupHistory). length x.entries) c.in-Did.ensures.outcome.1 in
    raises-low c.self.inside.player c.self.inside.raises.items c.self.invariant.2 (omega (arith, longer, c.in-Did.ensures.few, length-append c.self.inside.player.entries (c.in-Did.entry ∷ [])))

pub invariant_of-self : goal.invariant_of-self
invariant_of-self c = (
  c.self.invariant.0 ∙ ap group_processors (sym (group-same c.self.inside.player c.advance.new.self c.in-Did.entry c.in-Did.ensures.outcome.1)),
  c.count_raises.ensures.seen,
  raises-more c.self.inside.player c.advance.new.self c.in-Did.entry c.self.inside.raises.items c.count_raises.new.counts.items c.self.inside.cpu_views.items c.count_raises.new.cpu_views.items c.in-Did.ensures.outcome.1 c.self.invariant.2 c.self.invariant.1 c.count_raises.ensures,
  c.in-Did.ensures.begun,
)
