use Rattle.std.proofs.Common.{◌≡◌, ◌∙◌, set, sym, ap, arith, length-set}
use Rattle.std.specs.Prelude.{None, Some}
use Rattle.rt_base.specs.TaskNos.{numbers_of_tasks}
use Rattle.prio_inherit.specs.Waits.{Waits}
use Rattle.prio_inherit.specs.Local.{IsRaising}
use Rattle.prio_inherit.proofs.Settling.{numbers-set, set-set, inherit-of}
use Rattle.prio_inherit.proofs.Raising.{joined}
use Rattle.prio_inherit.proofs.Tables.{joins-counted, joins-fit}
use Rattle.prio_inherit.proofs.Inherit.waits.Goals as goal

pub raise-requires : goal.raise-requires
raise-requires c =
    let nexts : numbers_of_tasks c.self.inside.nexts.items ≡ set c.args.self.now.nexts c.args.task.0 None = ap (λ (w : Waits). w.nexts) (c.self.view_is ∙ c.stops.ensures) in
    let bases : c.self.inside.bases.items ≡ c.args.self.now.bases = ap (λ (w : Waits). w.bases) (c.self.view_is ∙ c.stops.ensures) in
    let raising : IsRaising c.self.inside.bases.items (set (numbers_of_tasks c.self.inside.nexts.items) c.args.task.0 (Some c.args.holder.0)) c.self.inside.keys.items (Some c.args.holder.0) c.index-key.result.now = joined _ _ _ _ _ _ c.args.task.0 c.args.holder.0 c.index-key.result.now c.self.invariant.inherit bases nexts c.requires.task c.requires.holder c.requires.ends c.index-key.ensures in
    rw (c.as_slice.ensures.value, numbers-set) record {
      length = raising.settling.keys_length;
      start = raising.settling.at_within;
      within = raising.settling.within;
    }

pub invariant_of-self : goal.invariant_of-self
invariant_of-self c =
    let nexts : numbers_of_tasks c.self.inside.nexts.items ≡ set c.args.self.now.nexts c.args.task.0 None = ap (λ (w : Waits). w.nexts) (c.self.view_is ∙ c.stops.ensures) in
    let bases : c.self.inside.bases.items ≡ c.args.self.now.bases = ap (λ (w : Waits). w.bases) (c.self.view_is ∙ c.stops.ensures) in
    let raising : IsRaising c.self.inside.bases.items (set (numbers_of_tasks c.self.inside.nexts.items) c.args.task.0 (Some c.args.holder.0)) c.self.inside.keys.items (Some c.args.holder.0) c.index-key.result.now = joined _ _ _ _ _ _ c.args.task.0 c.args.holder.0 c.index-key.result.now c.self.invariant.inherit bases nexts c.requires.task c.requires.holder c.requires.ends c.index-key.ensures in
    rw numbers-set record {
      inherit = inherit-of _ _ _ _ _ _ raising.settling
          (c.self.invariant.inherit.bases_length ∙ sym (length-set _ _ _))
          (c.self.invariant.inherit.boosts_length ∙ sym (length-set _ _ _))
          (rw (c.as_slice.ensures.value, numbers-set) at c.raise.ensures.length)
          ((rw (c.as_slice.ensures.value, numbers-set) at c.raise.ensures.local) _ raising);
      counted = joins-counted _ _ _ _ _ c.args.self.now.bases c.args.self.now.nexts c.args.task.0 c.args.holder.0 c.self.invariant bases nexts c.requires.task c.requires.holder c.index_mut-2.result.now c.index_mut-2.ensures.value;
    }

pub overflow_add-index_mut : goal.overflow_add-index_mut
overflow_add-index_mut c =
    let nexts : numbers_of_tasks c.self.inside.nexts.items ≡ set c.args.self.now.nexts c.args.task.0 None = ap (λ (w : Waits). w.nexts) (c.self.view_is ∙ c.stops.ensures) in
    let bases : c.self.inside.bases.items ≡ c.args.self.now.bases = ap (λ (w : Waits). w.bases) (c.self.view_is ∙ c.stops.ensures) in
    omega (arith, joins-fit _ _ _ _ _ c.args.self.now.bases c.args.self.now.nexts c.args.task.0 c.args.holder.0 c.self.invariant bases nexts c.requires.task c.requires.holder c.index_mut-2.result.now c.index_mut-2.ensures.value)

pub returns : goal.returns
returns c =
    let nexts : numbers_of_tasks c.self.inside.nexts.items ≡ set c.args.self.now.nexts c.args.task.0 None = ap (λ (w : Waits). w.nexts) (c.self.view_is ∙ c.stops.ensures) in
    let bases : c.self.inside.bases.items ≡ c.args.self.now.bases = ap (λ (w : Waits). w.bases) (c.self.view_is ∙ c.stops.ensures) in
    let boosts : c.self.inside.boosts.items ≡ c.args.self.now.boosts = ap (λ (w : Waits). w.boosts) (c.self.view_is ∙ c.stops.ensures) in
    rw (numbers-set, nexts, set-set, bases, boosts)
