-- Links that were placed stay as they are while the top has the same tasks and processors run their links or nothing.
use Rattle.std.proofs.Common.{◌≡◌, ◌≢◌, ℕ, suc, ◌-◌, ◌<◌, ◌≤◌, Bool, true, false, not, ◌&&◌, cond, eqb-true, ◌⊎◌, inl, inr, List, [], ◌∷◌, length, set, refl, sym, ap, ◌∙◌, subst, arith}
use Rattle.std.proofs.lemmas.Bool.{cases_eq}
use Rattle.std.specs.Prelude.{Option, None, Some, ◌==◌, filter}
use Rattle.rt_rules.specs.Distinct.{IsDistinct}
use Rattle.rt_rules.specs.Numbers.{has, is}
use Rattle.rt_rules.specs.Placing.{link_at, filled_with, is_of, kept, kept_link, placed, tasks_in}
use Rattle.rt_rules.proofs.BoolLaws.{clash, or_true, unless}
use Rattle.rt_rules.proofs.LinkLaws.{has-link_at, links-runs}
use Rattle.rt_rules.proofs.PlacingLaws.{equal_self, has-placed}
use Rattle.link_table.specs.Linked.{Linked, IsSound, IsPlaced, LinkedTopStays, PlacedLinksStay, is_deferred, is_pending, link_of, with_run}
use Rattle.link_table.proofs.Filling.{filled-none}
use Rattle.link_table.proofs.PlaceLaws.{link_at-set_other, link_at-set_same, position_of}
use Rattle.link_table.proofs.SoundLaws.{sound-set}

-- a task of the top that runs is linked where it runs, and the tasks of the top alone are linked
pub record AreLinked (top : List ℕ) (runs links : List (Option ℕ)) : Type 0 where
  pub where_it_runs : (t k : ℕ) → is t (link_at runs k) ≡ true → has t top ≡ true → is t (link_at links k) ≡ true
  pub top_alone : (t : ℕ) → has t (tasks_in links) ≡ has t top

pub placed-linked : (top : List ℕ) (l : Linked) → IsSound l → IsDistinct top → length top ≤ length l.runs → IsPlaced top l → AreLinked top l.runs l.links
placed-linked top l sound once fits stay = record { where_it_runs = there; top_alone = alone }
  where
    alone : (t : ℕ) → has t (tasks_in l.links) ≡ has t top
    alone t = ap (λ ls. has t (tasks_in ls)) (sym stay) ∙ has-placed t top l.runs l.links once sound.runs_once sound.linked_once sound.same_length fits

    there : (t k : ℕ) → is t (link_at l.runs k) ≡ true → has t top ≡ true → is t (link_at l.links k) ≡ true
    there t k h of_top =
        let p = position_of t l.links (alone t ∙ of_top) in
        let placed_there : is t (link_at (placed top l.runs l.links) p.0) ≡ true = subst (λ ls. is t (link_at ls p.0) ≡ true) (sym stay) p.1 in
        let same : p.0 ≡ k = links-runs t top l.runs l.links p.0 k once sound.runs_once sound.linked_once sound.same_length fits placed_there h in
        subst (λ j. is t (link_at l.links j) ≡ true) same p.1

-- ---- links of the tasks of the top alone are kept

some_is : (t : ℕ) (o : Option ℕ) → is t o ≡ true → Some t ≡ o
some_is t None h = cc
some_is t (Some u) h = ap {B = Option ℕ} (λ x. Some x) (eqb-true t u h)

module _ (top running : List ℕ) where
  -- the link of a processor that runs none of the top
  kept-link : (r l : Option ℕ) → ((t : ℕ) → is t r ≡ true → has t top ≡ false) → ((t : ℕ) → is t l ≡ true → has t top ≡ true)
      → ((t : ℕ) → is t l ≡ true → has t running ≡ true → is t r ≡ true) → cond (is_of top l && not (is_of running l)) l None ≡ l
  kept-link r None out of_top home = refl
  kept-link r (Some u) out of_top home =
      let here : has u top ≡ true = of_top u (equal_self u) in
      let idle : has u running ≡ false = unless (has u running) (λ h. clash (has u top) here (out u (home u (equal_self u) h))) in
      rw (here, idle) refl

  pub kept-here : (r l : Option ℕ) → ((t : ℕ) → is t r ≡ true → has t top ≡ true → is t l ≡ true) → ((t : ℕ) → is t l ≡ true → has t top ≡ true)
      → ((t : ℕ) → is t l ≡ true → has t running ≡ true → is t r ≡ true) → kept_link top running r l ≡ l
  kept-here None l there of_top home = kept-link None l (λ t h. cc) of_top home
  kept-here (Some v) l there of_top home = by_case (has v top) refl
    where
      only : has v top ≡ false → (t : ℕ) → is t (Some v) ≡ true → has t top ≡ false
      only e t h = rw (eqb-true t v h) e

      by_case : (b : Bool) → has v top ≡ b → cond b (Some v) (cond (is_of top l && not (is_of running l)) l None) ≡ l
      by_case true e = some_is v l (there v (equal_self v) e)
      by_case false e = kept-link (Some v) l (only e) of_top home

  pub kept-all : (rs ls : List (Option ℕ)) → length rs ≡ length ls → ((t k : ℕ) → is t (link_at rs k) ≡ true → has t top ≡ true → is t (link_at ls k) ≡ true)
      → ((t k : ℕ) → is t (link_at ls k) ≡ true → has t top ≡ true) → ((t k : ℕ) → is t (link_at ls k) ≡ true → has t running ≡ true → is t (link_at rs k) ≡ true)
      → kept top running rs ls ≡ ls
  kept-all [] [] same there of_top home = refl
  kept-all [] (l ∷ ls) same there of_top home = absurd (omega arith)
  kept-all (r ∷ rs) [] same there of_top home = absurd (omega arith)
  kept-all (r ∷ rs) (l ∷ ls) same there of_top home =
      let here : kept_link top running r l ≡ l = kept-here r l (λ t. there t 0) (λ t. of_top t 0) (λ t. home t 0) in
      let later : kept top running rs ls ≡ ls = kept-all rs ls (omega arith) (λ t k. there t (suc k)) (λ t k. of_top t (suc k)) (λ t k. home t (suc k)) in
      ap (λ x. x ∷ kept top running rs ls) here ∙ ap (λ xs. l ∷ xs) later

none-left : (p : ℕ → Bool) (ts : List ℕ) → ((t : ℕ) → has t ts ≡ true → p t ≡ false) → filter p ts ≡ []
none-left p [] none = refl
none-left p (t ∷ ts) none = rw (none t (rw (equal_self t))) (none-left p ts (λ u h. none u (rw h (or_true (u == t)))))

-- a task that is linked and runs does so at one place
pub runs_where_linked : (l : Linked) → IsSound l → (t k : ℕ) → is t (link_at l.links k) ≡ true → has t (tasks_in l.runs) ≡ true → is t (link_at l.runs k) ≡ true
runs_where_linked l sound t k h running = let p = position_of t l.runs running in subst (λ j. is t (link_at l.runs j) ≡ true) (sym (sound.one_link t k p.0 h p.1)) p.1

linked-placed : (top : List ℕ) (l : Linked) → IsSound l → AreLinked top l.runs l.links → IsPlaced top l
linked-placed top l sound are = ap (λ ls. filled_with top ls) all ∙ rw none (filled-none l.links)
  where
    all : kept top (tasks_in l.runs) l.runs l.links ≡ l.links
    all = kept-all top (tasks_in l.runs) l.runs l.links sound.same_length are.where_it_runs (λ t k h. sym (are.top_alone t) ∙ has-link_at t l.links k h) (runs_where_linked l sound)

    none : filter (λ t. not (has t (tasks_in l.links))) top ≡ []
    none = none-left (λ t. not (has t (tasks_in l.links))) top (λ t h. let linked : has t (tasks_in l.links) ≡ true = are.top_alone t ∙ h in rw linked)

-- ---- what leaves the links as they are placed

-- a processor comes to run its link, or nothing
stays-set : (l : Linked) (top : List ℕ) (k : ℕ) (o : Option ℕ) → IsSound l → IsDistinct top → length top ≤ length l.runs → k < length l.runs
    → ((t : ℕ) → is t o ≡ true → is t (link_at l.links k) ≡ true) → IsPlaced top l → IsPlaced top (record l { runs = set l.runs k o })
stays-set l top k o sound once fits inside of_link stay =
    linked-placed top (record l { runs = set l.runs k o }) (sound-set l k o sound inside of_link) (record { where_it_runs = λ t j h of_top. there t j h of_top (cases_eq j k); top_alone = are.top_alone })
  where
    are : AreLinked top l.runs l.links
    are = placed-linked top l sound once fits stay

    there : (t j : ℕ) → is t (link_at (set l.runs k o) j) ≡ true → has t top ≡ true → (j ≡ k) ⊎ (j ≢ k) → is t (link_at l.links j) ≡ true
    there t j h of_top (inl same) = let new : is t o ≡ true = rw (same, link_at-set_same l.runs k o inside) at h in rw same (of_link t new)
    there t j h of_top (inr apart) = are.where_it_runs t j (rw (link_at-set_other l.runs k j o apart) at h) of_top

pub placed_links-stay : PlacedLinksStay
placed_links-stay l top q np sound of_cluster once fits stay = (by_case (is_pending l q && not (is_deferred l q np)), left)
  where
    inside : q - l.first < length l.runs
    inside = omega (arith, of_cluster.0, of_cluster.1)

    left : IsPlaced top (with_run l q None)
    left = stays-set l top (q - l.first) None sound once fits inside (λ t h. cc) stay

    by_case : (b : Bool) → IsPlaced top (cond b (with_run l q (link_of l q)) l)
    by_case true = stays-set l top (q - l.first) (link_of l q) sound once fits inside (λ t h. h) stay
    by_case false = stay

pub linked_top-stays : LinkedTopStays
linked_top-stays l top other sound once fits same stay =
    let are = placed-linked top l sound once fits stay in
    linked-placed other l sound (record { where_it_runs = λ t k h of_other. are.where_it_runs t k h (same t ∙ of_other); top_alone = λ t. are.top_alone t ∙ same t })
