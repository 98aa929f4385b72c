use Rattle.std.proofs.Common.{◌≡◌, ◌-◌, ◌∙◌, set, sym, length-set}
use Rattle.std.specs.Prelude.{None, is_some, true, slice_index_or}
use Rattle.rt_base.specs.TaskNos.{numbers_of_tasks}
use Rattle.prio_inherit.proofs.Settling.{numbers-set, inherit-of}
use Rattle.prio_inherit.proofs.Tables.{IsCut, cut, is-waited}
use Rattle.prio_inherit.proofs.Inherit.stops.Goals as goal

pub overflow_sub-index_mut : goal.overflow_sub-index_mut
overflow_sub-index_mut c =
    let told : is_some (slice_index_or c.self.inside.bases.items c.args.task.0 None) ≡ true = rw (← c.self.view_is) at c.requires in
    is-waited _ _ _ _ _ c.self.invariant c.args.task.0 c.in-Some.holder c.index.result.now told c.index.ensures c.in-Some.is c.index_mut-2.result.now c.index_mut-2.ensures.value

pub update_walk_left-requires : goal.update_walk_left-requires
update_walk_left-requires c =
    let told : is_some (slice_index_or c.self.inside.bases.items c.args.task.0 None) ≡ true = rw (← c.self.view_is) at c.requires in
    let is_cut : IsCut c.self.inside.bases.items (numbers_of_tasks c.self.inside.nexts.items) c.self.inside.keys.items (set c.self.inside.counts.items c.in-Some.holder.0 (c.index_mut-2.result.now - 1)) c.args.task.0 c.in-Some.holder.0 = cut _ _ _ _ _ c.self.invariant c.args.task.0 c.in-Some.holder c.index.result.now told c.index.ensures c.in-Some.is c.index_mut-2.result.now c.index_mut-2.ensures.value in
    rw (c.as_slice.ensures.value, c.as_slice-2.ensures.value, c.as_slice-3.ensures.value, numbers-set) record {
      counts = is_cut.counted;
      settling = is_cut.settling;
      task = is_cut.within;
      lower = is_cut.lower;
    }

pub invariant_of-self : goal.invariant_of-self
invariant_of-self c =
    let told : is_some (slice_index_or c.self.inside.bases.items c.args.task.0 None) ≡ true = rw (← c.self.view_is) at c.requires in
    let is_cut : IsCut c.self.inside.bases.items (numbers_of_tasks c.self.inside.nexts.items) c.self.inside.keys.items (set c.self.inside.counts.items c.in-Some.holder.0 (c.index_mut-2.result.now - 1)) c.args.task.0 c.in-Some.holder.0 = cut _ _ _ _ _ c.self.invariant c.args.task.0 c.in-Some.holder c.index.result.now told c.index.ensures c.in-Some.is c.index_mut-2.result.now c.index_mut-2.ensures.value in
    rw numbers-set record {
      inherit = inherit-of _ _ _ _ _ _ is_cut.settling
          (c.self.invariant.inherit.bases_length ∙ sym (length-set _ _ _))
          (c.self.invariant.inherit.boosts_length ∙ sym (length-set _ _ _))
          (rw (c.as_slice-2.ensures.value, numbers-set) at c.update_walk_left.ensures.length)
          (rw (c.as_slice.ensures.value, c.as_slice-2.ensures.value, numbers-set) at c.update_walk_left.ensures.local);
      counted = is_cut.counted;
    }

pub returns : goal.returns
returns c = rw (← c.self.view_is, numbers-set)
