-- The bounds on what each request in the list has seen.
use Rattle.std.proofs.Common.{arith, length, refl, ℕ, ◌*◌, ◌-◌, ◌≡◌, ◌≤◌}
use Rattle.std.proofs.lemmas.List.Elements.{All-map}
use Rattle.std.specs.Prelude.{Some}
use Rattle.rt_task.specs.declared.Protocol.TheVariants.{Fmlp, Mpcp, Omlp, Pcp, Srp}
use Rattle.rt_task.specs.declared.Protocol.{Protocol}
use Rattle.rt_task.specs.Validity.{IsValid}
use Rattle.rt_model.specs.Blocking.{Asked, bound, bound_by, ends, ends_all, requests}
use Rattle.rt_model.specs.Group.{Group, cpus, home, protocol, users}
use Rattle.rt_model.specs.Reachable.{IsReachable}
use Rattle.rt_model.specs.Past.{Past}
use Rattle.rt_laws.proofs.semaphores.Bounds.{blocked_ends_are_ends, fmlp_bound, omlp_bound}
use Rattle.rt_changes.specs.OpenLaws.{IsWithin, SeenWithinBound}
use Rattle.rt_changes.specs.Tallies.{tally}

within : (g : Group) (past : Past) → IsValid g.setup → IsReachable g past → (r : Asked) → IsWithin g (tally g past r)
unfolding bound bound_by
within g past valid made r = record {
  ends_within = λ b h. ends_by (protocol g r.sem) refl b h;
  all_within = λ b p h. all_by (protocol g r.sem) b p h (fmlp_bound g past valid made r.no r.task r.sem p);
  under_omlp = omlp_bound g past valid made r.no r.task r.sem;
  under_fmlp = fmlp_bound g past valid made r.no r.task r.sem;
  blocked_among = blocked_ends_are_ends g past valid made r.no r.task r.sem;
}
  where
    all_by : (p : Protocol) (b : ℕ) → p ≡ Fmlp → bound_by g p r.task r.sem ≡ Some b → ends_all g r.no r.task r.sem past ≤ length (users g r.sem) - 1 → ends_all g r.no r.task r.sem past ≤ b
    all_by Fmlp b k h most = let same : length (users g r.sem) - 1 ≡ b = cc in omega (arith, same, most)
    all_by Omlp b k h most = cc
    all_by Mpcp b k h most = cc
    all_by Pcp b k h most = cc
    all_by Srp b k h most = cc

    ends_by : (p : Protocol) → protocol g r.sem ≡ p → (b : ℕ) → bound_by g p r.task r.sem ≡ Some b → ends g r.no r.task r.sem past ≤ b
    ends_by Fmlp k b h = let same : length (users g r.sem) - 1 ≡ b = cc in omega (arith, same, fmlp_bound g past valid made r.no r.task r.sem k, blocked_ends_are_ends g past valid made r.no r.task r.sem)
    ends_by Omlp k b h = let same : 2 * cpus g (home g r.task) - 1 ≡ b = cc in omega (arith, same, omlp_bound g past valid made r.no r.task r.sem k)
    ends_by Mpcp k b h = cc
    ends_by Pcp k b h = cc
    ends_by Srp k b h = cc

pub seen_within_bound : SeenWithinBound
seen_within_bound g past valid made = All-map (IsWithin g) (tally g past) (requests past) (λ k d low. within g past valid made _)
