-- Worked bodies: each that would have an operation refused, beside the like that has none.
use Rattle.std.specs.Prelude.{◌≡◌, ℕ, List, [], ◌∷◌, ◌++◌, refl}
use Rattle.rt_task.specs.declared.Op.{Op}
use Rattle.rt_task.specs.declared.Op.TheVariants as ops
use Rattle.rt_task.specs.declared.Parts.{Parts}
use Rattle.rt_task.specs.declared.PluginKind.TheVariants as plugins
use Rattle.rt_task.specs.declared.Protocol.TheVariants.{Fmlp, Pcp, Mpcp}
use Rattle.rt_task.specs.declared.Sem.{Sem}
use Rattle.rt_task.specs.declared.bad_set.Part.TheVariants as parts
use Rattle.rt_task.specs.declared.bad_set.SetKind.TheVariants as kinds
use Rattle.rt_model.specs.worked.Samples.{cluster_with, sem_under, sem_no, periodic, using, with_body}
use Rattle.rt_laws.specs.worked.EdgeCases.{rules_computed}
use Rattle.rt_laws.specs.worked.RuleCases.{refusals, valid, refused, called, sem_called, set_of}

-- semaphores 1 and 2 are under FMLP, 3 is under MPCP, 4 to 12 are under PCP, and 13, under FMLP, is not declared
abbrev pub sems : List Sem
sems =
    sem_called 97 (sem_under Fmlp) ∷ sem_called 98 (sem_under Fmlp) ∷ sem_called 99 (sem_under Mpcp) ∷ sem_called 100 (sem_under Pcp)
    ∷ sem_called 101 (sem_under Pcp) ∷ sem_called 102 (sem_under Pcp) ∷ sem_called 103 (sem_under Pcp) ∷ sem_called 104 (sem_under Pcp)
    ∷ sem_called 105 (sem_under Pcp) ∷ sem_called 106 (sem_under Pcp) ∷ sem_called 107 (sem_under Pcp) ∷ sem_called 108 (sem_under Pcp)
    ∷ sem_called 109 (sem_under Fmlp) ∷ []

-- the second task has this body
abbrev pub playing : List Op → Parts
playing body =
    set_of plugins.PFp (cluster_with 1 0 ∷ []) sems [] (
    called 97 (periodic 1 1 10 10) ∷
    called 98 (with_body body (using (1 ∷ 2 ∷ 3 ∷ 4 ∷ 5 ∷ 6 ∷ 7 ∷ 8 ∷ 9 ∷ 10 ∷ 11 ∷ 12 ∷ []) (periodic 2 1 10 10))) ∷
    [])

abbrev pub lock : ℕ → Op
lock s = ops.Lock (sem_no s)

abbrev pub unlock : ℕ → Op
unlock s = ops.Unlock (sem_no s)

-- ---- the end is the last operation, and stands nowhere else

pub ends-of-bodies :
    refusals playing
    ((ops.End ∷ [])
    ∷ (ops.Work ∷ [])
    ∷ (ops.End ∷ ops.Work ∷ [])
    ∷ (ops.End ∷ ops.End ∷ [])
    ∷ (ops.Work ∷ ops.End ∷ ops.Work ∷ ops.End ∷ [])
    ∷ [])
    ≡ valid
    ∷ refused kinds.Sharing parts.Task 1
    ∷ refused kinds.Sharing parts.Task 1
    ∷ refused kinds.Sharing parts.Task 1
    ∷ refused kinds.Sharing parts.Task 1
    ∷ []
unfolding rules_computed
ends-of-bodies = refl

-- neither in a non-preemptive section nor while a semaphore is held
pub ends-in-sections :
    refusals playing
    ((ops.NpOn ∷ ops.NpOff ∷ ops.End ∷ [])
    ∷ (ops.NpOn ∷ ops.End ∷ [])
    ∷ (lock 1 ∷ unlock 1 ∷ ops.End ∷ [])
    ∷ (lock 1 ∷ ops.End ∷ [])
    ∷ (lock 4 ∷ lock 5 ∷ unlock 5 ∷ ops.End ∷ [])
    ∷ [])
    ≡ valid
    ∷ refused kinds.Sharing parts.Task 1
    ∷ valid
    ∷ refused kinds.Sharing parts.Task 1
    ∷ refused kinds.Sharing parts.Task 1
    ∷ []
unfolding rules_computed
ends-in-sections = refl

-- ---- sleeping, likewise

pub sleeps-in-sections :
    refusals playing
    ((ops.Sleep 5 ∷ ops.Sleep 5 ∷ ops.End ∷ [])
    ∷ (ops.NpOn ∷ ops.Sleep 5 ∷ ops.NpOff ∷ ops.End ∷ [])
    ∷ (lock 1 ∷ ops.Sleep 5 ∷ unlock 1 ∷ ops.End ∷ [])
    ∷ (lock 1 ∷ unlock 1 ∷ ops.Sleep 5 ∷ ops.End ∷ [])
    ∷ [])
    ≡ valid ∷ refused kinds.Sharing parts.Task 1 ∷ refused kinds.Sharing parts.Task 1 ∷ valid ∷ []
unfolding rules_computed
sleeps-in-sections = refl

-- ---- non-preemptive sections do not nest, and end once

pub non-preemptive-sections :
    refusals playing
    ((ops.NpOn ∷ ops.Work ∷ ops.NpOff ∷ ops.NpOn ∷ ops.NpOff ∷ ops.End ∷ [])
    ∷ (ops.NpOn ∷ ops.NpOn ∷ ops.NpOff ∷ ops.End ∷ [])
    ∷ (ops.NpOff ∷ ops.End ∷ [])
    ∷ (ops.NpOn ∷ ops.NpOff ∷ ops.NpOff ∷ ops.End ∷ [])
    ∷ [])
    ≡ valid ∷ refused kinds.Sharing parts.Task 1 ∷ refused kinds.Sharing parts.Task 1 ∷ refused kinds.Sharing parts.Task 1 ∷ []
unfolding rules_computed
non-preemptive-sections = refl

-- a section of the one kind in one of the other: none is locked while non-preemptive, of whatever protocol, but one may be given back
pub locks-while-non-preemptive :
    refusals playing
    ((ops.NpOn ∷ lock 1 ∷ ops.NpOff ∷ unlock 1 ∷ ops.End ∷ [])
    ∷ (ops.NpOn ∷ lock 3 ∷ unlock 3 ∷ ops.NpOff ∷ ops.End ∷ [])
    ∷ (ops.NpOn ∷ lock 4 ∷ unlock 4 ∷ ops.NpOff ∷ ops.End ∷ [])
    ∷ (lock 1 ∷ ops.NpOn ∷ ops.Work ∷ unlock 1 ∷ ops.NpOff ∷ ops.End ∷ [])
    ∷ [])
    ≡ refused kinds.Sharing parts.Task 1 ∷ refused kinds.Sharing parts.Task 1 ∷ refused kinds.Sharing parts.Task 1 ∷ valid ∷ []
unfolding rules_computed
locks-while-non-preemptive = refl

-- ---- what is locked is declared, and what is given back is held

pub declared-semaphores :
    refusals playing ((lock 12 ∷ unlock 12 ∷ ops.End ∷ []) ∷ (lock 13 ∷ unlock 13 ∷ ops.End ∷ []) ∷ [])
    ≡ valid ∷ refused kinds.Sharing parts.Task 1 ∷ []
unfolding rules_computed
declared-semaphores = refl

pub held-semaphores :
    refusals playing
    ((unlock 1 ∷ ops.End ∷ [])
    ∷ (lock 1 ∷ unlock 2 ∷ unlock 1 ∷ ops.End ∷ [])
    ∷ (lock 1 ∷ unlock 1 ∷ unlock 1 ∷ ops.End ∷ [])
    ∷ (lock 1 ∷ unlock 1 ∷ lock 1 ∷ unlock 1 ∷ lock 2 ∷ unlock 2 ∷ ops.End ∷ [])
    ∷ [])
    ≡ refused kinds.Sharing parts.Task 1 ∷ refused kinds.Sharing parts.Task 1 ∷ refused kinds.Sharing parts.Task 1 ∷ valid ∷ []
unfolding rules_computed
held-semaphores = refl

-- ---- requests nest under PCP alone, with PCP alone, and none is asked for while it is held

pub nested-requests :
    refusals playing
    ((lock 1 ∷ lock 2 ∷ unlock 2 ∷ unlock 1 ∷ ops.End ∷ [])
    ∷ (lock 1 ∷ lock 3 ∷ unlock 3 ∷ unlock 1 ∷ ops.End ∷ [])
    ∷ (lock 1 ∷ lock 4 ∷ unlock 4 ∷ unlock 1 ∷ ops.End ∷ [])
    ∷ (lock 4 ∷ lock 1 ∷ unlock 1 ∷ unlock 4 ∷ ops.End ∷ [])
    ∷ (lock 4 ∷ lock 5 ∷ unlock 5 ∷ unlock 4 ∷ ops.End ∷ [])
    ∷ (lock 1 ∷ lock 1 ∷ unlock 1 ∷ unlock 1 ∷ ops.End ∷ [])
    ∷ (lock 4 ∷ lock 4 ∷ unlock 4 ∷ unlock 4 ∷ ops.End ∷ [])
    ∷ [])
    ≡ refused kinds.Sharing parts.Task 1
    ∷ refused kinds.Sharing parts.Task 1
    ∷ refused kinds.Sharing parts.Task 1
    ∷ refused kinds.Sharing parts.Task 1
    ∷ valid
    ∷ refused kinds.Sharing parts.Task 1
    ∷ refused kinds.Sharing parts.Task 1
    ∷ []
unfolding rules_computed
nested-requests = refl

-- they are given back last in, first out
pub stacked-requests :
    refusals playing
    ((lock 4 ∷ lock 5 ∷ unlock 4 ∷ unlock 5 ∷ ops.End ∷ [])
    ∷ (lock 4 ∷ lock 5 ∷ unlock 5 ∷ lock 6 ∷ unlock 6 ∷ unlock 4 ∷ ops.End ∷ [])
    ∷ (lock 4 ∷ lock 5 ∷ lock 6 ∷ unlock 6 ∷ unlock 4 ∷ unlock 5 ∷ ops.End ∷ [])
    ∷ [])
    ≡ refused kinds.Sharing parts.Task 1 ∷ valid ∷ refused kinds.Sharing parts.Task 1 ∷ []
unfolding rules_computed
stacked-requests = refl

-- at most eight are held
abbrev pub eight_held : List Op
eight_held = lock 4 ∷ lock 5 ∷ lock 6 ∷ lock 7 ∷ lock 8 ∷ lock 9 ∷ lock 10 ∷ lock 11 ∷ []

abbrev pub eight_freed : List Op
eight_freed = unlock 11 ∷ unlock 10 ∷ unlock 9 ∷ unlock 8 ∷ unlock 7 ∷ unlock 6 ∷ unlock 5 ∷ unlock 4 ∷ ops.End ∷ []

pub most-held :
    refusals playing ((eight_held ++ eight_freed) ∷ (eight_held ++ lock 12 ∷ unlock 12 ∷ eight_freed) ∷ [])
    ≡ valid ∷ refused kinds.Sharing parts.Task 1 ∷ []
unfolding rules_computed
most-held = refl
