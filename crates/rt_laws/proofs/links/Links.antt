-- Each task has one processor at most, and that is of its cluster.
use Rattle.std.proofs.Common.{List, [], arith, inl, inr, length, subst, suc, sym, true, ℕ, ◌+◌, ◌-◌, ◌<◌, ◌∙◌, ◌∷◌, ◌≡◌, ◌≤◌, ◌⊎◌}
use Rattle.std.specs.Prelude.{Option, Some}
use Rattle.rt_rules.specs.Distinct.{IsDistinct}
use Rattle.rt_rules.specs.Numbers.{has, is}
use Rattle.rt_rules.specs.Placing.{link_at, tasks_in}
use Rattle.rt_model.specs.Group.{Group, cpus, first_cpu, home, processors}
use Rattle.rt_model.specs.Links.{linked, links, runs_of}
use Rattle.rt_model.specs.Reachable.{IsReachable}
use Rattle.rt_model.specs.Past.{Past}
use Rattle.rt_model.specs.Tops.{top}
use Rattle.rt_rules.proofs.DistinctLaws.{length-distinct}
use Rattle.rt_rules.proofs.LinkLaws.{distinct-placed, has-link_at, one_link}
use Rattle.rt_rules.proofs.MemberLaws.{is-some, some-is}
use Rattle.rt_rules.proofs.NumberLaws.{has-numbers_from, numbers_from-has}
use Rattle.rt_rules.proofs.BoolLaws.{either}
use Rattle.rt_rules.proofs.PlacingLaws.{has-tasks_in}
use Rattle.rt_model.proofs.PastLaws.{IsSingle, length-links, links-top, processor-home, single}
use Rattle.rt_model.proofs.TopLaws.{distinct-top, length-top}
use Rattle.rt_laws.specs.Links.{HasLinkTo, LinkedAtHome, LinkedToOne, LinksAreLinked, LinksFit, RunsAtHome, RunsOnOne}
use Rattle.rt_laws.proofs.links.LinkedTasks.{IsLinked, linked-eligible}
use Rattle.rt_laws.proofs.jobs.Running.{running, runs_once}
use Rattle.rt_laws.proofs.ValidSets.{rules_of}

-- the links of a cluster have no task twice
links-distinct : (g : Group) (c : ℕ) {past : Past} → IsReachable g past → IsDistinct (tasks_in (links g c past))
links-distinct g c {past} made =
    let s : IsSingle g c past = single g c (processor-home g c) made in
    rw s.links_are (distinct-placed (top g c past) (runs_of g c past) s.before (distinct-top g c past) s.runs_distinct s.before_distinct)

pub runs_on_one : RunsOnOne
runs_on_one g past valid made p q t h k = runs_once g made p q t (running g (rules_of g valid) made p t h) (running g (rules_of g valid) made q t k) h k

pub runs_at_home : RunsAtHome
runs_at_home g past valid made q t h = (running g (rules_of g valid) made q t h).at_home

is_linked : (g : Group) {past : Past} → IsReachable g past → (q t : ℕ) → linked g q past ≡ Some t → IsLinked g q t past
is_linked g {past} made q t h = linked-eligible g made q t (some-is t (linked g q past) h)

pub linked_at_home : LinkedAtHome
linked_at_home g past valid made q t h = (is_linked g made q t h).at_home

-- where a task is linked, and how far that is from the first processor of its cluster
at_home : (g : Group) {past : Past} → IsReachable g past → (q t : ℕ) → linked g q past ≡ Some t → is t (link_at (links g (home g t) past) (q - first_cpu g (home g t))) ≡ true
unfolding linked
at_home g {past} made q t h = subst (λ c. is t (link_at (links g c past) (q - first_cpu g c)) ≡ true) (is_linked g made q t h).at_home (some-is t _ h)

from_first : (g : Group) {past : Past} → IsReachable g past → (q t : ℕ) → linked g q past ≡ Some t → first_cpu g (home g t) ≤ q
unfolding processors
from_first g made q t h = has-numbers_from q (first_cpu g (home g t)) (cpus g (home g t)) (is_linked g made q t h).placed

pub linked_to_one : LinkedToOne
linked_to_one g past valid made p q t h k =
    let same : p - first_cpu g (home g t) ≡ q - first_cpu g (home g t) = one_link t (links g (home g t) past) _ _ (links-distinct g (home g t) made) (at_home g made p t h) (at_home g made q t k) in
    omega (arith, same, from_first g made p t h, from_first g made q t k)

pub links_fit : LinksFit
links_fit g past valid made c =
    let few : length (tasks_in (links g c past)) ≤ length (top g c past) = length-distinct _ _ (links-distinct g c made) (distinct-top g c past) (λ t h. sym (links-top g c (processor-home g c) made t) ∙ h) in
    omega (arith, few, length-top g c past)

-- a task in a list of links has a place
placed-at : (t : ℕ) (ls : List (Option ℕ)) → has t (tasks_in ls) ≡ true → (k : ℕ) × (k < length ls) × (is t (link_at ls k) ≡ true)
placed-at t [] h = cc
placed-at t (l ∷ ls) h = split (either (is t l) _ (rw has-tasks_in at h)) (placed-at t ls)
  where
    split : (is t l ≡ true) ⊎ (has t (tasks_in ls) ≡ true) → (has t (tasks_in ls) ≡ true → (k : ℕ) × (k < length ls) × (is t (link_at ls k) ≡ true)) → (k : ℕ) × (k < length (l ∷ ls)) × (is t (link_at (l ∷ ls) k) ≡ true)
    split (inl k) r = (0, omega arith, k)
    split (inr k) r = let q = r k in (suc q.0, omega (arith, q.1), q.2)

linked-at : (g : Group) (c q : ℕ) (past : Past) → has q (processors g c) ≡ true → linked g q past ≡ link_at (links g c past) (q - first_cpu g c)
unfolding linked
linked-at g c q past there = rw (processor-home g c q there)

has_link : (g : Group) {past : Past} → IsReachable g past → (c t : ℕ) → has t (tasks_in (links g c past)) ≡ true → HasLinkTo g c t past
unfolding processors
has_link g {past} made c t h =
    let place = placed-at t (links g c past) h in
    let fits : length (links g c past) ≡ cpus g c = length-links g c past (single g c (processor-home g c) made) in
    let q : ℕ = first_cpu g c + place.0 in
    let there : has q (processors g c) ≡ true = numbers_from-has (first_cpu g c) (cpus g c) q (omega arith) (omega (arith, place.1, fits)) in
    let at : q - first_cpu g c ≡ place.0 = omega arith in
    record { cpu = q; there = there; linked_it = linked-at g c q past there ∙ rw at (is-some t _ place.2) }

pub links_are_linked : LinksAreLinked
links_are_linked g past valid made c t = (has_link g made c t, λ l. has-link_at t (links g c past) (l.cpu - first_cpu g c) (some-is t _ (sym (linked-at g c l.cpu past l.there) ∙ l.linked_it)))
