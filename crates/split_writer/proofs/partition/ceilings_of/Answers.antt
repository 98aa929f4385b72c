use Rattle.std.proofs.Common.{ℕ, ◌<◌, length, sym, ap, ◌∙◌, subst}
use Rattle.std.specs.Prelude.{IfOk, List, slice_index_or}
use Rattle.rt_task.specs.declared.Cluster.{Cluster}
use Rattle.rt_model.specs.Group.{no_cluster}
use Rattle.mpcp_ceilings.specs.Ceilings.{AreCeilings}
use Rattle.rt_plays.specs.Plays.{group_with}
use Rattle.split_writer.proofs.Partitions.{low, number-is}
use Rattle.split_writer.proofs.partition.ceilings_of.Goals as goal

pub bounds-as_slice-cpu : goal.bounds-as_slice-cpu
bounds-as_slice-cpu c = subst (λ (xs : List Cluster). c.args.cpu.0 < length xs) (sym c.as_slice.ensures) (low c.args.parts.now c.args.cpu.0 c.requires)

pub returns : goal.returns
returns c =
    subst (λ (n : ℕ). IfOk c.open.result (λ t. AreCeilings (group_with c.args.parts.now n) t))
    (ap (λ (xs : List Cluster). (slice_index_or xs c.args.cpu.0 no_cluster).group.0) c.as_slice.ensures ∙ sym (number-is c.args.parts.now c.args.cpu.0 c.requires))
    c.open.ensures
