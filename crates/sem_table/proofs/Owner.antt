-- Whom the waiting tasks of a semaphore wait for.
use Rattle.std.proofs.Common.{◌≡◌, ℕ, true, refl, ap}
use Rattle.rt_task.specs.declared.Protocol.{Protocol}
use Rattle.rt_task.specs.declared.Protocol.TheVariants.{Fmlp, Mpcp, Omlp, Pcp, Srp}
use Rattle.rt_rules.specs.Numbers.{first, has}
use Rattle.rt_rules.specs.Pcp.{PcpState}
use Rattle.rt_rules.specs.SemState.{SemState}
use Rattle.rt_model.specs.Group.{Group, protocol, sems, users}
use Rattle.rt_model.specs.Holders.{holder}
use Rattle.rt_model.specs.Past.{Past}
use Rattle.rt_laws.proofs.Rules.{MeetsRules}
use Rattle.rt_laws.proofs.ValidSets.{rules_of}
use Rattle.rt_changes.specs.Owners.{owner}
use Rattle.pcp_sem.specs.Pairs.{tasks_of}
use Rattle.sem_table.specs.declared.any_sem.AnySem.{AnySem}
use Rattle.sem_table.specs.declared.any_sem.AnySem.TheVariants as any
use Rattle.sem_table.specs.SemTable.{SemTable, sem_at}
use Rattle.sem_table.specs.Told.{owner_by}
use Rattle.sem_table.specs.KeptSems.{KeepsSem, KeepsSems}
use Rattle.sem_table.specs.Telling.{TellsOwner}
use Rattle.sem_table.proofs.Conditions.{set-here, tells}

owner-is : (g : Group) → MeetsRules g → (past : Past) (w : SemTable) (k : KeepsSems g past w) (s u : ℕ) → has s (sems g) ≡ true → has u (users g s) ≡ true → (p : Protocol) (x : AnySem) → protocol g s ≡ p → KeepsSem g s past p x → owner_by w.sets s x ≡ owner g s past
unfolding holder
owner-is g rules past w k s u known user Fmlp (any.Fmlp l) q v = rw q (ap (λ (y : SemState). y.holder) (tells g rules past w k s u known user Fmlp (any.Fmlp l) q v))
owner-is g rules past w k s u known user Omlp (any.Omlp l) q v = rw q (ap (λ (y : SemState). y.holder) (tells g rules past w k s u known user Omlp (any.Omlp l) q v))
owner-is g rules past w k s u known user Mpcp (any.Mpcp l) q v = rw q (ap (λ (y : SemState). y.holder) (tells g rules past w k s u known user Mpcp (any.Mpcp l) q v))
owner-is g rules past w k s u known user Pcp (any.Pcp c) q v = rw q (ap (λ (l : PcpState). first (tasks_of l.held)) (set-here g rules past w k s u known user (rw q refl) c.0 v).state)
owner-is g rules past w k s u known user Srp (any.Srp c) q v = rw q (ap (λ (y : SemState). y.holder) (tells g rules past w k s u known user Srp (any.Srp c) q v))
owner-is g rules past w k s u known user p x q v = absurd v

pub tells_owner : TellsOwner
tells_owner g past valid made w s u known user k = owner-is g (rules_of g valid) past w k s u known user (protocol g s) (sem_at w.sems s) refl (k.kept s known)
