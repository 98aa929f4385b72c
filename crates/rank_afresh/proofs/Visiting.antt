-- Which clusters the end of a move goes to: those that it passes over stay.
use Rattle.std.proofs.Common.{◌≡◌, ◌≢◌, ◌⊎◌, inl, inr, ℕ, zero, suc, ◌+◌, ◌<◌, ◌≤◌, ◌||◌, Bool, true, false, cond, List, [], ◌∷◌, ◌++◌, length, length-set, get_or, get_or-set_same, get_or-set_other, set, take, eqb-true, refl, sym, ap, ◌∙◌, subst, arith}
use Rattle.std.specs.Prelude.{◌==◌}
use Rattle.std.proofs.lemmas.Bool.{cases_eq}
use Rattle.std.proofs.lemmas.List.{map_more, take_more}
use Rattle.rt_base.specs.TaskNos.{numbers}
use Rattle.rt_base.specs.declared.TaskNo.{TaskNo}
use Rattle.rt_task.specs.declared.Parts.{Parts}
use Rattle.rt_rules.specs.Distinct.{IsDistinct}
use Rattle.rt_rules.specs.Numbers.{has}
use Rattle.rt_rules.proofs.BoolLaws.{clash, or_true, unless}
use Rattle.rt_rules.proofs.DistinctLaws.{length-few}
use Rattle.rt_rules.proofs.MemberLaws.{equal_self, has-appended, has-one, has-push}
use Rattle.group_core.specs.Facts as core
use Rattle.rank_afresh.specs.declared.ran.Ran.{Ran}
use Rattle.rank_afresh.specs.declared.ran.Ran.TheVariants as rans
use Rattle.rank_afresh.specs.Clusters.{ClusterFacts, HasRelinked, HasRenewed, IsPlaced, IsPlacedBut, has_cpu, looked_at, looked_over, no_facts, own, runs_anew}
use Rattle.rank_afresh.specs.Facts.{ArePlacedBut, HaveRenewed, cluster_at}
use Rattle.rank_afresh.specs.Visits.{AreAllVisited, AreHomes, AreVisited, HasMore, IsRanVisited, IsVisited, VisitFacts}
use Rattle.rank_afresh.proofs.Renewing.{length-links}

-- ---- the list of positions

-- there is room for one more
pub room-left : (n count : ℕ) (ps : List ℕ) → IsDistinct ps → ((m : ℕ) → has m ps ≡ true → m < count) → n < count → has n ps ≡ false → length ps < count
room-left n count ps once inside low new =
    let all : length (n ∷ ps) ≤ count = length-few count (n ∷ ps) (new, once) below in
    omega (arith, all)
  where
    below : (m : ℕ) → has m (n ∷ ps) ≡ true → m < count
    below m h = by_case (m == n) refl h
      where
        by_case : (b : Bool) → m == n ≡ b → b || has m ps ≡ true → m < count
        by_case true e k = let same : m ≡ n = eqb-true m n e in omega (arith, same, low)
        by_case false e k = inside m k

pub below-more : (n count : ℕ) (ps : List ℕ) → ((m : ℕ) → has m ps ≡ true → m < count) → n < count → (m : ℕ) → has m (ps ++ n ∷ []) ≡ true → m < count
below-more n count ps inside low m h = by_case (has-appended m ps (n ∷ []) h)
  where
    by_case : (has m ps ≡ true) ⊎ (has m (n ∷ []) ≡ true) → m < count
    by_case (inl k) = inside m k
    by_case (inr k) = let same : m ≡ n = has-one m n k in omega (arith, same, low)

pub has-more : (n : ℕ) (ps : List ℕ) (m : ℕ) → has m ps ≡ true → has m (ps ++ n ∷ []) ≡ true
has-more n ps m h = has-push m n ps ∙ rw h (or_true (m == n))

pub has-new : (n : ℕ) (ps : List ℕ) → has n (ps ++ n ∷ []) ≡ true
has-new n ps = has-push n n ps ∙ rw (equal_self n) refl

-- ---- what is gone to stays so

pub more-again : (u v w : VisitFacts) → HasMore u v → HasMore v w → HasMore u w
more-again u v w m m' = record { stay = λ n h. m'.stay n (m.stay n h); rest = m'.rest ∙ ap (λ (x : VisitFacts). record x { positions = w.positions }) m.rest }

pub still-visited : (v w : VisitFacts) (homes : List ℕ) (i : ℕ) → HasMore v w → IsVisited v homes i → IsVisited w homes i
still-visited v w homes i more is = λ n low here. more.stay n (is n (subst (λ m. n < m) (ap (λ (x : VisitFacts). x.count) more.rest) low) here)

-- one that is alone is listed, where any is
pub listed-alone : (ps : List ℕ) → length ps ≡ 1 → ((m : ℕ) → has m ps ≡ true → m < 1) → (n : ℕ) → n < 1 → has n ps ≡ true
listed-alone [] one below n low = absurd (omega (arith, one))
listed-alone (p ∷ ps) one below n low =
    let b : p < 1 = below p (rw (equal_self p)) in
    let same : n ≡ p = omega (arith, b, low) in
    subst (λ m. has m (p ∷ ps) ≡ true) (sym same) (rw (equal_self p))

pub all-visited : (us vs : List ℕ) (ran : Ran) (v : VisitFacts) → AreAllVisited v → AreVisited us vs ran v
all-visited us vs ran v all = record { touched_are = λ t h n low here. all n low; changed_are = λ t h n low here. all n low; ran_is = by_ran ran }
  where
    by_ran : (r : Ran) → IsRanVisited v r
    by_ran rans.Nowhere = tt
    by_ran (rans.At q) = λ n low here. all n low
    by_ran rans.Anywhere = all

-- with one task more
pub homes-more : (v w : VisitFacts) (homes : List ℕ) (ts : List TaskNo) (i : ℕ) (d : TaskNo) → i < length ts → HasMore v w
    → ((t : ℕ) → has t (numbers (take i ts)) ≡ true → IsVisited v homes t) → IsVisited w homes (get_or ts i d).0 → (t : ℕ) → has t (numbers (take (i + 1) ts)) ≡ true → IsVisited w homes t
homes-more v w homes ts i d inside more so_far here t h = by_case (has-appended t (numbers (take i ts)) (u ∷ []) (subst (λ us. has t us ≡ true) (map_more (λ (x : TaskNo). x.0) ts i d inside) h))
  where
    u : ℕ
    u = (get_or ts i d).0

    by_case : (has t (numbers (take i ts)) ≡ true) ⊎ (has t (u ∷ []) ≡ true) → IsVisited w homes t
    by_case (inl k) = still-visited v w homes t more (so_far t k)
    by_case (inr k) = subst (IsVisited w homes) (sym (has-one t u k)) here

-- ---- where none of these tasks is its own

none-own : (c : ClusterFacts) (us : List ℕ) → ((t : ℕ) → has t us ≡ true → has t c.tasks ≡ true → ⊥) → own c us ≡ []
none-own c [] none = refl
none-own c (u ∷ us) none = by_case (has u c.tasks) refl (none-own c us (λ t h. none t (rw h (or_true (t == u)))))
  where
    by_case : (b : Bool) → has u c.tasks ≡ b → own c us ≡ [] → cond b (u ∷ own c us) (own c us) ≡ []
    by_case true e r = absurd (none u (rw (equal_self u)) e)
    by_case false e r = r

looked-none : (p : Parts) (f : core.Facts) (us : List ℕ) (c : ClusterFacts) → own c us ≡ [] → looked_at p f us c ≡ c
looked-none p f us c none = ap (λ ts. record c { ranked = looked_over p f ts c.ranked }) none

-- a cluster that is placed stays
renewed-quiet : (p : Parts) (f : core.Facts) (us : List ℕ) (c : ClusterFacts) → own c us ≡ [] → own c f.resvs.changed ≡ [] → IsPlaced f.kept c → HasRenewed p f us c c
renewed-quiet p f us c none unchanged placed =
    subst (λ d. HasRelinked f.kept d c) (sym (ap (looked_at p f f.resvs.changed) (looked-none p f us c none) ∙ looked-none p f f.resvs.changed c unchanged)) (record {
      first_same = refl;
      tasks_same = refl;
      ranked_same = refl;
      top_is = placed.top_is;
      runs_are = placed.runs_are;
      links_follow = inr (record { top_same = refl; runs_stay = inl refl; links_same = refl });
    })

-- so does one that is passed over
module _ (p : Parts) (f : core.Facts) (us : List ℕ) (ran : Ran) (cs : List ClusterFacts) (v : VisitFacts) (n : ℕ) (homes : AreHomes cs v) (visited : AreVisited us f.resvs.changed ran v)
    (inside : n < length cs) (passed : has n v.positions ≡ false) where
  abbrev c : ClusterFacts
  c = cluster_at cs n

  low : n < v.count
  low = omega (arith, inside, homes.count_is)

  runs-same : runs_anew ran f.kept c ≡ c.runs
  runs-same = by_ran ran visited.ran_is
    where
      by_cpu : (q : ℕ) (b : Bool) → has_cpu c q ≡ b → IsVisited v v.cpu_homes q → has_cpu c q ≡ false
      by_cpu q true e is = absurd (clash _ (is n low (homes.cpus_at n q e)) passed)
      by_cpu q false e is = e

      by_ran : (r : Ran) → IsRanVisited v r → runs_anew r f.kept c ≡ c.runs
      by_ran rans.Nowhere is = refl
      by_ran (rans.At q) is = rw (by_cpu q.0 (has_cpu c q.0) refl is) refl
      by_ran rans.Anywhere is = absurd (clash _ (is n low) passed)

  pub renewed-passed : IsPlacedBut ran f.kept c → HasRenewed p f us c c
  renewed-passed placed =
      renewed-quiet p f us c (none-own c us (λ t h k. clash _ (visited.touched_are t h n low (homes.tasks_at n t k)) passed))
      (none-own c f.resvs.changed (λ t h k. clash _ (visited.changed_are t h n low (homes.tasks_at n t k)) passed))
      (record { top_is = placed.top_is; runs_are = sym runs-same ∙ placed.runs_are })

-- ---- clusters keep their tasks and processors

pub homes-set : (p : Parts) (f : core.Facts) (us : List ℕ) (cs : List ClusterFacts) (v : VisitFacts) (n : ℕ) (new : ClusterFacts) → n < length cs → HasRenewed p f us (cluster_at cs n) new
    → AreHomes cs v → AreHomes (set cs n new) v
homes-set p f us cs v n new inside renewed homes = record {
  count_is = homes.count_is ∙ sym (length-set cs n new);
  tasks_at = λ m t h. homes.tasks_at m t (subst (λ (ts : List ℕ). has t ts ≡ true) (same-tasks m (cases_eq m n)) h);
  cpus_at = λ m q h. homes.cpus_at m q (sym (same-cpus m q (cases_eq m n)) ∙ h);
}
  where
    same-tasks : (m : ℕ) → (m ≡ n) ⊎ (m ≢ n) → (cluster_at (set cs n new) m).tasks ≡ (cluster_at cs m).tasks
    same-tasks m (inl same) =
        ap (λ i. (cluster_at (set cs n new) i).tasks) same ∙ ap (λ (x : ClusterFacts). x.tasks) (get_or-set_same cs n new no_facts inside)
        ∙ renewed.tasks_same ∙ ap (λ i. (cluster_at cs i).tasks) (sym same)
    same-tasks m (inr apart) = ap (λ (x : ClusterFacts). x.tasks) (get_or-set_other cs n m new no_facts apart)

    same-cpus : (m q : ℕ) → (m ≡ n) ⊎ (m ≢ n) → has_cpu (cluster_at (set cs n new) m) q ≡ has_cpu (cluster_at cs m) q
    same-cpus m q (inl same) =
        ap (λ i. has_cpu (cluster_at (set cs n new) i) q) same ∙ ap (λ (x : ClusterFacts). has_cpu x q) (get_or-set_same cs n new no_facts inside)
        ∙ rw (renewed.first_same, length-links p f us (cluster_at cs n) new renewed) refl ∙ ap (λ i. has_cpu (cluster_at cs i) q) (sym same)
    same-cpus m q (inr apart) = ap (λ (x : ClusterFacts). has_cpu x q) (get_or-set_other cs n m new no_facts apart)

-- ---- one cluster after the other

pub has-position : (qs : List ℕ) (i : ℕ) → i < length qs → has (get_or qs i 0) qs ≡ true
has-position [] i h = absurd (omega arith)
has-position (q ∷ qs) zero h = rw (equal_self q) refl
has-position (q ∷ qs) (suc i) h = rw (has-position qs i (omega arith)) (or_true (get_or qs i 0 == q))

position-new : (qs : List ℕ) (i : ℕ) → IsDistinct qs → i < length qs → has (get_or qs i 0) (take i qs) ≡ false
position-new [] i once h = absurd (omega arith)
position-new (q ∷ qs) zero once h = refl
position-new (q ∷ qs) (suc i) once h = by_case (get_or qs i 0 == q) refl (position-new qs i once.1 (omega arith)) (has-position qs i (omega arith))
  where
    by_case : (b : Bool) → get_or qs i 0 == q ≡ b → has (get_or qs i 0) (take i qs) ≡ false → has (get_or qs i 0) qs ≡ true → b || has (get_or qs i 0) (take i qs) ≡ false
    by_case true e r there = absurd (clash _ (subst (λ m. has m qs ≡ true) (eqb-true _ q e) there) once.0)
    by_case false e r there = r

-- the cluster at the next position
module _ (qs : List ℕ) (i n : ℕ) (next : n ≡ get_or qs i 0) (once : IsDistinct qs) (inside : i < length qs) where
  pub not-before : has n (take i qs) ≡ false
  not-before = rw next (position-new qs i once inside)

  taken : (m : ℕ) → has m (take (i + 1) qs) ≡ (m == n || has m (take i qs))
  taken m = ap (has m) (take_more qs i 0 inside) ∙ has-push m (get_or qs i 0) (take i qs) ∙ ap (λ k. m == k || has m (take i qs)) (sym next)

  pub taken-here : has n (take (i + 1) qs) ≡ true
  taken-here = taken n ∙ rw (equal_self n) refl

  pub taken-other : (m : ℕ) → m ≢ n → has m (take (i + 1) qs) ≡ has m (take i qs)
  taken-other m apart = let other : m == n ≡ false = unless _ (λ e. apart (eqb-true m n e)) in taken m ∙ rw other refl

pub each-set : (P : ℕ → ClusterFacts → Type 0) (cs : List ClusterFacts) (n : ℕ) (new : ClusterFacts) → n < length cs → ((m : ℕ) → m ≢ n → P m (cluster_at cs m)) → P n new → (m : ℕ) → P m (cluster_at (set cs n new) m)
each-set P cs n new low others here m = by_case (cases_eq m n)
  where
    by_case : (m ≡ n) ⊎ (m ≢ n) → P m (cluster_at (set cs n new) m)
    by_case (inl same) = subst (λ k. P k (cluster_at (set cs n new) k)) (sym same) (subst (P n) (sym (get_or-set_same cs n new no_facts low)) here)
    by_case (inr apart) = subst (P m) (sym (get_or-set_other cs n m new no_facts apart)) (others m apart)

pub visited-as : (us us' vs vs' : List ℕ) (ran : Ran) (v : VisitFacts) → us ≡ us' → vs ≡ vs' → AreVisited us vs ran v → AreVisited us' vs' ran v
visited-as us us' vs vs' ran v touched changed are = subst (λ xs. AreVisited us' xs ran v) changed (subst (λ xs. AreVisited xs vs ran v) touched are)

pub homes-as : (cs : List ClusterFacts) (v w : VisitFacts) → w ≡ record v { positions = w.positions } → AreHomes cs v → AreHomes cs w
homes-as cs v w same homes = subst (AreHomes cs) (sym same) (record { count_is = homes.count_is; tasks_at = homes.tasks_at; cpus_at = homes.cpus_at })

-- each cluster is gone to, or stays
pub each-renewed : (p : Parts) (x : core.Facts) (us : List ℕ) (ran : Ran) (olds cs : List ClusterFacts) (v : VisitFacts) → AreHomes olds v → AreVisited us x.resvs.changed ran v → ArePlacedBut ran x.kept olds
    → ((m : ℕ) → has m v.positions ≡ true → HasRenewed p x us (cluster_at olds m) (cluster_at cs m)) → ((m : ℕ) → has m v.positions ≡ false → cluster_at cs m ≡ cluster_at olds m)
    → HaveRenewed p x us olds cs
each-renewed p x us ran olds cs v homes visited placed done rest m inside = by_case (has m v.positions) refl
  where
    by_case : (b : Bool) → has m v.positions ≡ b → HasRenewed p x us (cluster_at olds m) (cluster_at cs m)
    by_case true e = done m e
    by_case false e = subst (HasRenewed p x us (cluster_at olds m)) (sym (rest m e)) (renewed-passed p x us ran olds v m homes visited inside e (placed m inside))
