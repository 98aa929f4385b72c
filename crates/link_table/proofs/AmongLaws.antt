-- Which tasks run on a cluster's processors and are linked to them.
use Rattle.std.proofs.Common.{◌≡◌, ℕ, ◌+◌, ◌-◌, ◌<◌, ◌≤◌, true, ◌⊎◌, inl, inr, List, length, set, refl, sym, ◌∙◌, subst, arith}
use Rattle.std.specs.Prelude.{◌↔◌, Option, None, replicate}
use Rattle.rt_rules.specs.Distinct.{IsDistinct}
use Rattle.rt_rules.specs.Numbers.{has, is}
use Rattle.rt_rules.specs.Placing.{tasks_in, link_at, placed}
use Rattle.rt_rules.proofs.LinkLaws.{link_at-inside, has-link_at}
use Rattle.rt_rules.proofs.PlacingLaws.{has-placed}
use Rattle.link_table.specs.Linked.{Linked, unlinked, IsAmong, IsSound, LinksAreOfProcessors, RunsAreOfProcessors, StaysAmong, StaysAmongWith}
use Rattle.link_table.proofs.PlaceLaws.{has-set, position_of}
use Rattle.link_table.proofs.SoundLaws.{none_in}

pub among-unlinked : (first cpus : ℕ) (ts : List ℕ) → IsAmong ts (unlinked first cpus)
among-unlinked first cpus ts = record { runs = λ t h. nowhere t h; links = λ t h. nowhere t h }
  where
    nowhere : (t : ℕ) → has t (tasks_in (replicate cpus None)) ≡ true → has t ts ≡ true
    nowhere t h = let n = rw none_in at h in cc

pub among-placed : (l : Linked) (top : List ℕ) → IsSound l → IsDistinct top → length top ≤ length l.runs → StaysAmongWith top l (record l { links = placed top l.runs l.links })
among-placed l top sound once fits ts inside among = record {
  runs = among.runs;
  links = λ t h. inside t (sym (has-placed t top l.runs l.links once sound.runs_once sound.linked_once sound.same_length fits) ∙ h);
}

-- a processor may come to run its link, or nothing
pub among-set : (l : Linked) (k : ℕ) (o : Option ℕ) → ((t : ℕ) → is t o ≡ true → is t (link_at l.links k) ≡ true) → StaysAmong l (record l { runs = set l.runs k o })
among-set l k o of_link ts among = record { runs = λ t h. split t (has-set t l.runs k o h); links = among.links }
  where
    split : (t : ℕ) → (is t o ≡ true) ⊎ (has t (tasks_in l.runs) ≡ true) → has t ts ≡ true
    split t (inl new) = among.links t (has-link_at t l.links k (of_link t new))
    split t (inr old) = among.runs t old

-- a task of a list stands at the place of a processor of the cluster
at_processor : (first n t : ℕ) (ls : List (Option ℕ)) → n ≡ length ls → (has t (tasks_in ls) ≡ true) ↔ (q : ℕ) × ((first ≤ q) × (q < first + n)) × (is t (link_at ls (q - first)) ≡ true)
at_processor first n t ls size = (there, λ r. has-link_at t ls (r.0 - first) r.2)
  where
    there : has t (tasks_in ls) ≡ true → (q : ℕ) × ((first ≤ q) × (q < first + n)) × (is t (link_at ls (q - first)) ≡ true)
    there h =
        let p = position_of t ls h in
        let inside : p.0 < length ls = link_at-inside t ls p.0 p.1 in
        let back : p.0 ≡ first + p.0 - first = omega arith in
        (first + p.0, (omega arith, omega (arith, size)), subst (λ k. is t (link_at ls k) ≡ true) back p.1)

pub links-of_processors : LinksAreOfProcessors
links-of_processors l t sound = at_processor l.first (length l.runs) t l.links sound.same_length

pub runs-of_processors : RunsAreOfProcessors
runs-of_processors l t = at_processor l.first (length l.runs) t l.runs refl
