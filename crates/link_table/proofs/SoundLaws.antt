-- Placing, interrupts and leaving keep each task at one place.
use Rattle.std.proofs.Common.{◌≡◌, ◌≢◌, ℕ, zero, suc, ◌<◌, ◌≤◌, true, ◌⊎◌, inl, inr, List, [], length, set, length-set, refl, sym, ◌∙◌}
use Rattle.std.proofs.lemmas.Bool.{cases_eq}
use Rattle.std.specs.Prelude.{Option, None, replicate}
use Rattle.rt_rules.specs.Distinct.{IsDistinct}
use Rattle.rt_rules.specs.Numbers.{is}
use Rattle.rt_rules.specs.Placing.{tasks_in, link_at, placed}
use Rattle.rt_rules.proofs.LinkLaws.{distinct-placed, links-runs, length-placed}
use Rattle.link_table.specs.Linked.{Linked, unlinked, IsSound}
use Rattle.link_table.proofs.PlaceLaws.{same_link, link_at-set_same, link_at-set_other, distinct-set}

pub none_in : (n : ℕ) → tasks_in (replicate n None) ≡ []
none_in zero = refl
none_in (suc n) = none_in n

none_at : (n k : ℕ) → link_at (replicate n None) k ≡ None
none_at zero k = refl
none_at (suc n) zero = refl
none_at (suc n) (suc k) = none_at n k

pub sound-unlinked : (first cpus : ℕ) → IsSound (unlinked first cpus)
sound-unlinked first cpus = record {
  same_length = refl;
  runs_once = rw none_in tt;
  linked_once = rw none_in tt;
  one_link = λ t i j h k. let n = rw none_at at h in cc;
}

pub sound-placed : (l : Linked) (top : List ℕ) → IsSound l → IsDistinct top → length top ≤ length l.runs → IsSound (record l { links = placed top l.runs l.links })
sound-placed l top sound once fits = record {
  same_length = sym (length-placed top l.runs l.links sound.same_length);
  runs_once = sound.runs_once;
  linked_once = distinct-placed top l.runs l.links once sound.runs_once sound.linked_once;
  one_link = λ t i j. links-runs t top l.runs l.links i j once sound.runs_once sound.linked_once sound.same_length fits;
}

-- a processor may come to run its link, or nothing
pub sound-set : (l : Linked) (k : ℕ) (o : Option ℕ) → IsSound l → k < length l.runs → ((t : ℕ) → is t o ≡ true → is t (link_at l.links k) ≡ true) → IsSound (record l { runs = set l.runs k o })
sound-set l k o sound inside of_link = record {
  same_length = length-set _ _ _ ∙ sound.same_length;
  runs_once = distinct-set l.runs k o sound.runs_once (λ t j new old. sound.one_link t k j (of_link t new) old);
  linked_once = sound.linked_once;
  one_link = λ t i j h there. by_case t i j h there (cases_eq j k);
}
  where
    by_case : (t i j : ℕ) → is t (link_at l.links i) ≡ true → is t (link_at (set l.runs k o) j) ≡ true → (j ≡ k) ⊎ (j ≢ k) → i ≡ j
    by_case t i j h there (inl same) = let new : is t o ≡ true = rw (same, link_at-set_same l.runs k o inside) at there in same_link t l.links i j sound.linked_once h (rw same (of_link t new))
    by_case t i j h there (inr apart) = sound.one_link t i j h (rw (link_at-set_other l.runs k j o apart) at there)
