-- What the table keeps of the semaphores of a group is what the rules say of its past.
use Rattle.std.specs.Prelude.{◌≡◌, ◌<◌, ℕ, true, [], ◌||◌, List, length}
use Rattle.rt_task.specs.declared.Protocol.{Protocol}
use Rattle.rt_task.specs.declared.Protocol.TheVariants as protocols
use Rattle.rt_rules.specs.declared.Key.{Key}
use Rattle.rt_rules.specs.Numbers.{has}
use Rattle.rt_model.specs.BaseKeys.{base_key}
use Rattle.rt_model.specs.Ceilings.{ceiling, is_pcp, pcp}
use Rattle.rt_model.specs.Group.{Group, cpus, in_group, protocol, sems, tasks, users}
use Rattle.rt_model.specs.Holders.{sem_state}
use Rattle.rt_model.specs.Past.{Past}
use Rattle.rt_model.specs.Semaphores.{cluster_of, fmlp, omlp, mpcp}
use Rattle.rt_model.specs.StackPolicy.{is_srp, srp, srp_ceiling}
use Rattle.rt_rules.specs.Distinct.{IsDistinct}
use Rattle.sem_laws.specs.KeptKeys.{key_at}
use Rattle.fmlp_sem.specs.FmlpLine.{FmlpLine}
use Rattle.omlp_sem.specs.OmlpKept.{OmlpKept}
use Rattle.mpcp_sem.specs.MpcpState.{MpcpState}
use Rattle.pcp_sem.specs.Pairs.{has_pair}
use Rattle.pcp_sem.specs.PcpKept.{PcpKept}
use Rattle.pcp_sem.specs.IsPcp.{IsSound}
use Rattle.srp_sem.specs.Pairs.{sems_of}
use Rattle.srp_sem.specs.SrpKept.{SrpKept, ceiling_at}
use Rattle.sem_table.specs.declared.any_sem.AnySem.{AnySem}
use Rattle.sem_table.specs.declared.any_sem.AnySem.TheVariants as any
use Rattle.sem_table.specs.SemTable.{SemTable, sem_at, set_at, srp_set_at}

-- each user has a position
abbrev pub HasRoom : Group → ℕ → ℕ → Type 0
HasRoom g s n = (t : ℕ) → has t (users g s) ≡ true → t < n

-- the keys of the waiting tasks are their base keys
abbrev pub KeepsKeys : Group → ℕ → Past → List Key → Type 0
KeepsKeys g s past keys = (u : ℕ) → has u (sem_state g s past).waiting ≡ true → key_at keys u ≡ base_key g u past

pub record KeepsFmlp (g : Group) (s : ℕ) (past : Past) (l : FmlpLine) : Type 0 where
  pub line : l.line ≡ fmlp g s past
  pub room : HasRoom g s l.room

pub record KeepsOmlp (g : Group) (s : ℕ) (past : Past) (k : OmlpKept) : Type 0 where
  pub state : k.state ≡ omlp g s past
  pub cap : k.cap ≡ cpus g (cluster_of g s)
  pub room : HasRoom g s (length k.keys)
  pub keys : KeepsKeys g s past k.keys

pub record KeepsMpcp (g : Group) (s : ℕ) (past : Past) (k : MpcpState) : Type 0 where
  pub state : k.state ≡ mpcp g s past
  pub room : HasRoom g s (length k.keys)
  pub keys : KeepsKeys g s past k.keys

abbrev pub KeepsSem : Group → ℕ → Past → Protocol → AnySem → Type 0
KeepsSem g s past protocols.Fmlp (any.Fmlp l) = KeepsFmlp g s past l
KeepsSem g s past protocols.Omlp (any.Omlp k) = KeepsOmlp g s past k
KeepsSem g s past protocols.Mpcp (any.Mpcp k) = KeepsMpcp g s past k
KeepsSem g s past protocols.Pcp (any.Pcp c) = c.0 ≡ cluster_of g s
KeepsSem g s past protocols.Srp (any.Srp c) = c.0 ≡ cluster_of g s
KeepsSem g s past _ _ = ⊥

-- a PCP semaphore of that cluster
pub record IsPcpOf (g : Group) (c s : ℕ) : Type 0 where
  pub known : has s (sems g) ≡ true
  pub of_pcp : is_pcp (protocol g s) ≡ true
  pub home_is : cluster_of g s ≡ c

-- the PCP semaphores of a cluster, with their ceilings and the base keys of those that hold or wait; where the cluster has none, there
-- need be no room
pub record KeepsSet (g : Group) (c : ℕ) (past : Past) (p : PcpKept) : Type 0 where
  pub state : p.state ≡ pcp g c past
  pub known : (s : ℕ) → IsPcpOf g c s → s < length p.ceilings
  pub ceilings : (s : ℕ) → IsPcpOf g c s → key_at p.ceilings s ≡ ceiling g s
  pub room : (s t : ℕ) → IsPcpOf g c s → has t (tasks g) ≡ true → t < length p.keys
  pub keys : (t s : ℕ) → has_pair t s (pcp g c past).held || has_pair t s (pcp g c past).waiting ≡ true → key_at p.keys t ≡ base_key g t []
  pub sound : IsSound p.ceilings p.keys p.state

-- an SRP semaphore of that cluster
pub record IsSrpOf (g : Group) (c s : ℕ) : Type 0 where
  pub known : has s (sems g) ≡ true
  pub of_srp : is_srp (protocol g s) ≡ true
  pub home_is : cluster_of g s ≡ c

-- the SRP semaphores of a cluster, with their ceilings; where the cluster has none, there need be no room
pub record KeepsSrp (g : Group) (c : ℕ) (past : Past) (p : SrpKept) : Type 0 where
  pub held : p.held ≡ srp g c past
  pub known : (s : ℕ) → IsSrpOf g c s → s < length p.ceilings
  pub ceilings : (s : ℕ) → IsSrpOf g c s → ceiling_at p.ceilings s ≡ srp_ceiling g s
  pub room : (s t : ℕ) → IsSrpOf g c s → has t (tasks g) ≡ true → t < p.room
  pub once : IsDistinct (sems_of p.held)

pub record KeepsSems (g : Group) (past : Past) (w : SemTable) : Type 0 where
  pub sem_room : (s : ℕ) → has s (sems g) ≡ true → s < length w.sems
  pub set_room : (c : ℕ) → c < length g.setup.clusters → c < length w.sets.pcp
  pub srp_room : (c : ℕ) → c < length g.setup.clusters → c < length w.sets.srp
  pub kept : (s : ℕ) → has s (sems g) ≡ true → KeepsSem g s past (protocol g s) (sem_at w.sems s)
  pub sets : (c : ℕ) → c < length g.setup.clusters → in_group g c ≡ true → KeepsSet g c past (set_at w.sets c)
  pub srp_sets : (c : ℕ) → c < length g.setup.clusters → in_group g c ≡ true → KeepsSrp g c past (srp_set_at w.sets c)
