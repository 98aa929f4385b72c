use Rattle.std.proofs.Common.{◌≡◌, ◌∙◌, ap, subst, sym}
use Rattle.std.specs.Prelude.{slice_index_or}
use Rattle.pcp_sem.specs.PcpKept.{PcpKept}
use Rattle.sem_table.specs.Conditions.{IsPcpRequest}
use Rattle.sem_table.specs.SemTable.{ClusterSets, set_at}
use Rattle.sem_table.proofs.Reading.{set-same}
use Rattle.sem_table.proofs.any_sem.ask_pcp.Goals as goal

pub ask_set-requires : goal.ask_set-requires
ask_set-requires c =
    let seen : PcpKept = c.index_mut.result.now in
    let same : set_at c.args.sets.now c.args.c.0 ≡ seen = set-same c.args.sets.now c.args.c.0 c.args.sem.0 seen c.requires.known ∙ sym (ap (λ (s : ClusterSets). slice_index_or s.pcp c.args.c.0 seen) c.sets.view_is) ∙ sym c.index_mut.ensures.value in
    subst (λ (p : PcpKept). IsPcpRequest p c.args.task.0 c.args.key c.args.sem.0) same c.requires
