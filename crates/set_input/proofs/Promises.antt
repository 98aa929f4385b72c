-- What is promised holds after each entry of all histories of a valid set.
use Rattle.std.proofs.Common.{List, [], take, get_or}
use Rattle.rt_task.specs.declared.Parts.{Parts}
use Rattle.rt_task.specs.Validity.{IsValid}
use Rattle.rt_rules.specs.declared.history.Entry.{Entry}
use Rattle.rt_model.specs.Group.{Group}
use Rattle.rt_model.specs.Past.{Past}
use Rattle.rt_model.proofs.PastLaws.{links_are_the_top}
use Rattle.rt_laws.specs.EveryPast.{EveryPast}
use Rattle.rt_laws.proofs.mpcp.HolderLinked.{holder_is_linked}
use Rattle.rt_laws.proofs.pcp.PriorityCeiling.{later_is_above_ceiling, waiting_does_not_pass, walks_end}
use Rattle.rt_laws.proofs.semaphores.SemaphoreLaws.{histories_are_made, one_holder}
use Rattle.resv_core.proofs.TableLaws.{tables_are_followed}
use Rattle.rt_laws.proofs.srp.SrpOnce.{stack_is_followed}
use Rattle.rt_changes.proofs.requests.Bounds.{seen_within_bound}
use Rattle.set_input.specs.LinksOf.{LinksAreTheTopOf}
use Rattle.set_input.specs.Throughout.{AfterEach, HoldsThroughout}

-- a law of every past holds after each entry
law-after : (Holds : Group → Past → Type 0) → EveryPast Holds → (p : Parts) (hs : List (List Entry)) → IsValid p → AfterEach Holds p hs
law-after Holds law p hs valid n k low within = law (record { setup = p; number = n }) _ valid (histories_are_made (record { setup = p; number = n }) (take k (get_or hs n [])))

links-of : (p : Parts) (hs : List (List Entry)) → LinksAreTheTopOf p hs
links-of p hs n k low within c t = links_are_the_top (record { setup = p; number = n }) (take k (get_or hs n [])) c t

pub holds-throughout : (p : Parts) (hs : List (List Entry)) → IsValid p → HoldsThroughout p hs
holds-throughout p hs valid = record {
  links = links-of p hs;
  one_holder = law-after _ one_holder p hs valid;
  blockers_linked = law-after _ holder_is_linked p hs valid;
  waits_end = law-after _ walks_end p hs valid;
  waiters_stay = law-after _ waiting_does_not_pass p hs valid;
  later_above = law-after _ later_is_above_ceiling p hs valid;
  bounds = law-after _ seen_within_bound p hs valid;
  tables = law-after _ tables_are_followed p hs valid;
  stack = law-after _ stack_is_followed p hs valid;
}
