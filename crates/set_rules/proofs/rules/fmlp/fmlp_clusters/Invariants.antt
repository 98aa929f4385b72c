use Rattle.std.proofs.Common.{◌≡◌, ℕ, ◌==◌, ◌&&◌, take}
use Rattle.std.specs.List.{list_any}
use Rattle.rt_base.specs.declared.SemNo.{SemNo}
use Rattle.rt_task.specs.declared.draft.DraftTask.{DraftTask}
use Rattle.rt_task.specs.Lookups.{is_fmlp_sem}
use Rattle.set_rules.specs.inside.NamesSeen.{has_number}
use Rattle.set_rules.proofs.rules.fmlp.fmlp_clusters.Given as goal

-- of the tasks so far
abbrev pub invariant-loop-p : goal.invariant-loop-p
invariant-loop-p l = (c : ℕ) → has_number l.clusters c ≡ list_any (λ (p : DraftTask). p.cluster == c && list_any (λ (s : SemNo). is_fmlp_sem l.d s.0) p.uses) (take l.p-index l.p-items)
