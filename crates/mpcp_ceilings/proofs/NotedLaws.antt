-- The rows after some tasks are noted.
use Rattle.std.proofs.Common.{Bool, List, [], ap, arith, cond, get_or, length, map, not, refl, subst, suc, sym, true, false, zero, ℕ, ◌++◌, ◌+◌, ◌-◌, ◌<◌, ◌∙◌, ◌∷◌, ◌≡◌, ◌≤◌, ◌&&◌, replicate}
use Rattle.std.proofs.lemmas.List.{append-nil, map-append, get_or_default, length-replicate}
use Rattle.std.proofs.lemmas.List.Elements.{filter-append}
use Rattle.std.specs.Prelude.{None, Option, Some, filter, if◌then◌else◌, nat_lt, slice_index_or, unwrap_or, ◌==◌}
use Rattle.rt_base.specs.declared.SemNo.{SemNo}
use Rattle.rt_task.specs.declared.Cluster.{Cluster}
use Rattle.rt_task.specs.declared.Task.{Task}
use Rattle.rt_rules.specs.Numbers.{foremost, has, numbers_from}
use Rattle.rt_rules.proofs.NumberLaws.{numbers_from-below}
use Rattle.rt_model.specs.Boosts.{mpcp_ceiling}
use Rattle.rt_model.specs.Group.{Group, cluster, declares, home, in_group, no_cluster, no_task, sems, task, tasks, users}
use Rattle.mpcp_ceilings.specs.Ceilings.{AreCeilings, CeilingTable, CeilingsAreTold, smallest_outside}
use Rattle.mpcp_ceilings.specs.inside.Noting.{lowered, noted_uses, with_user}
use Rattle.mpcp_ceilings.specs.declared.user_prios.UserPrios.{UserPrios}
use Rattle.mpcp_ceilings.proofs.SmallestLaws.{foremost-push}
use Rattle.mpcp_ceilings.proofs.UserLaws.{IsOrdered, noted-at, noted-length, outside-with_user, with_user-ordered}

-- the priority numbers of the users outside cluster c among the first so many tasks
abbrev pub prios_in : Group → ℕ → ℕ → ℕ → List ℕ
prios_in g s c k = map (λ u. (task g u).prio) (filter (λ u. not (home g u == c)) (filter (λ t. declares g t s) (filter (λ t. in_group g (home g t)) (numbers_from 1 k))))

pub record AreNoted (g : Group) (k : ℕ) (rows : List (Option UserPrios)) : Type 0 where
  pub count : length rows ≡ length g.setup.sems + 1
  pub ordered : (s : ℕ) → s < length rows → IsOrdered (get_or rows s None)
  pub smallest : (s c : ℕ) → s < length rows → smallest_outside c (get_or rows s None) ≡ foremost nat_lt (prios_in g s c k)

numbers-more : (a n : ℕ) → numbers_from a (suc n) ≡ numbers_from a n ++ (a + n) ∷ []
numbers-more a zero = let e : a + 0 ≡ a = omega arith in rw e refl
numbers-more a (suc n) = ap (λ xs. a ∷ xs) (numbers-more (suc a) n) ∙ (let e : suc a + n ≡ a + suc n = omega arith in rw e refl)

-- the next task's number, where it is a user outside the cluster
abbrev one_more : Group → ℕ → ℕ → ℕ → List ℕ
one_more g s c t = if in_group g (home g t) && (declares g t s && not (home g t == c)) then (task g t).prio ∷ [] else []

prios-more : (g : Group) (s c k : ℕ) → prios_in g s c (k + 1) ≡ prios_in g s c k ++ one_more g s c (k + 1)
prios-more g s c k =
    let next : k + 1 ≡ suc k = omega arith in
    let shift : 1 + k ≡ k + 1 = omega arith in
    ap (λ n. prios_in g s c n) next
    ∙ ap (λ ns. map f (filter h (filter d (filter i ns)))) (numbers-more 1 k ∙ ap (λ n. numbers_from 1 k ++ n ∷ []) shift)
    ∙ ap (λ ns. map f (filter h (filter d ns))) (filter-append i (numbers_from 1 k) ((k + 1) ∷ []))
    ∙ ap (λ ns. map f (filter h ns)) (filter-append d (filter i (numbers_from 1 k)) (filter i ((k + 1) ∷ [])))
    ∙ ap (λ ns. map f ns) (filter-append h (filter d (filter i (numbers_from 1 k))) (filter d (filter i ((k + 1) ∷ []))))
    ∙ map-append f (filter h (filter d (filter i (numbers_from 1 k)))) (filter h (filter d (filter i ((k + 1) ∷ []))))
    ∙ ap (λ ns. prios_in g s c k ++ ns) (by_case (i (k + 1)) (d (k + 1)) (h (k + 1)) refl refl refl)
  where
    f : ℕ → ℕ
    f u = (task g u).prio

    h : ℕ → Bool
    h u = not (home g u == c)

    d : ℕ → Bool
    d t = declares g t s

    i : ℕ → Bool
    i t = in_group g (home g t)

    by_case : (a b e : Bool) → i (k + 1) ≡ a → d (k + 1) ≡ b → h (k + 1) ≡ e → map f (filter h (filter d (filter i ((k + 1) ∷ [])))) ≡ (if a && (b && e) then f (k + 1) ∷ [] else [])
    by_case true true true x y z = rw (x, y, z) refl
    by_case true true false x y z = rw (x, y, z) refl
    by_case true false e x y z = rw (x, y) refl
    by_case false b e x y z = rw x refl

abbrev nobody : Option UserPrios
nobody = None

none-at : (n s : ℕ) → get_or (replicate n nobody) s nobody ≡ nobody
none-at zero s = refl
none-at (suc n) zero = refl
none-at (suc n) (suc s) = none-at n s

pub noted-none : (g : Group) (rows : List (Option UserPrios)) → rows ≡ replicate (length g.setup.sems + 1) nobody → AreNoted g 0 rows
noted-none g rows is =
    let none : (s : ℕ) → get_or rows s None ≡ None = λ s. ap (λ rs. get_or rs s None) is ∙ none-at (length g.setup.sems + 1) s in
    record {
      count = ap length is ∙ length-replicate (length g.setup.sems + 1) nobody;
      ordered = λ s low. subst IsOrdered (sym (none s)) tt;
      smallest = λ s c low. ap (smallest_outside c) (none s);
    }

other-group : (g : Group) (s c k : ℕ) → in_group g (home g (k + 1)) ≡ false → prios_in g s c (k + 1) ≡ prios_in g s c k
other-group g s c k e = prios-more g s c k ∙ ap (λ b. prios_in g s c k ++ (if b && (declares g (k + 1) s && not (home g (k + 1) == c)) then (task g (k + 1)).prio ∷ [] else [])) e ∙ append-nil (prios_in g s c k)

-- what is kept of a semaphore's users, where one more task of the group is noted
row-more : (g : Group) (s c k : ℕ) (o : Option UserPrios) → in_group g (home g (k + 1)) ≡ true → IsOrdered o → smallest_outside c o ≡ foremost nat_lt (prios_in g s c k) → smallest_outside c (if declares g (k + 1) s then Some (with_user (task g (k + 1)).prio (task g (k + 1)).cluster o) else o) ≡ foremost nat_lt (prios_in g s c (k + 1))
unfolding home
row-more g s c k o own ordered h = by_case (declares g (k + 1) s) (home g (k + 1) == c) refl refl
  where
    x : Task
    x = task g (k + 1)

    more : (b e : Bool) → declares g (k + 1) s ≡ b → home g (k + 1) == c ≡ e → prios_in g s c (k + 1) ≡ prios_in g s c k ++ (if b && not e then x.prio ∷ [] else [])
    more b e p q = prios-more g s c k ∙ rw (own, p, q) refl

    by_case : (b e : Bool) → declares g (k + 1) s ≡ b → home g (k + 1) == c ≡ e → smallest_outside c (if b then Some (with_user x.prio x.cluster o) else o) ≡ foremost nat_lt (prios_in g s c (k + 1))
    by_case false e p q = h ∙ ap (foremost nat_lt) (sym (more false e p q ∙ append-nil (prios_in g s c k)))
    by_case true true p q = outside-with_user c x.prio x.cluster o ordered ∙ rw q h ∙ ap (foremost nat_lt) (sym (more true true p q ∙ append-nil (prios_in g s c k)))
    by_case true false p q = outside-with_user c x.prio x.cluster o ordered ∙ rw (q, h) (sym (foremost-push (prios_in g s c k) x.prio)) ∙ ap (foremost nat_lt) (sym (more true false p q))

noted-row : (g : Group) (s k : ℕ) (rows : List (Option UserPrios)) → s < length rows → get_or (noted_uses (task g (k + 1)).prio (task g (k + 1)).cluster (task g (k + 1)).uses rows) s None ≡ (if declares g (k + 1) s then Some (with_user (task g (k + 1)).prio (task g (k + 1)).cluster (get_or rows s None)) else get_or rows s None)
unfolding declares
noted-row g s k rows low = noted-at (task g (k + 1)).prio (task g (k + 1)).cluster (task g (k + 1)).uses rows s low

row-ordered : (b : Bool) (x : Task) (o : Option UserPrios) → IsOrdered o → IsOrdered (if b then Some (with_user x.prio x.cluster o) else o)
row-ordered true x o h = with_user-ordered x.prio x.cluster o h
row-ordered false x o h = h

noted-own : (g : Group) (k : ℕ) (rows : List (Option UserPrios)) → AreNoted g k rows → in_group g (home g (k + 1)) ≡ true → AreNoted g (k + 1) (noted_uses (task g (k + 1)).prio (task g (k + 1)).cluster (task g (k + 1)).uses rows)
noted-own g k rows h own =
    let x : Task = task g (k + 1) in
    let same = noted-length x.prio x.cluster x.uses rows in
    record {
      count = same ∙ h.count;
      ordered = λ s low. let inside : s < length rows = subst (λ n. s < n) same low in subst IsOrdered (sym (noted-row g s k rows inside)) (row-ordered (declares g (k + 1) s) x (get_or rows s None) (h.ordered s inside));
      smallest = λ s c low. let inside : s < length rows = subst (λ n. s < n) same low in ap (smallest_outside c) (noted-row g s k rows inside) ∙ row-more g s c k (get_or rows s None) own (h.ordered s inside) (h.smallest s c inside);
    }

noted-other : (g : Group) (k : ℕ) (rows : List (Option UserPrios)) → AreNoted g k rows → in_group g (home g (k + 1)) ≡ false → AreNoted g (k + 1) rows
noted-other g k rows h other = record { count = h.count; ordered = h.ordered; smallest = λ s c low. h.smallest s c low ∙ ap (foremost nat_lt) (sym (other-group g s c k other)) }

-- one task more
pub noted-more : (g : Group) (k : ℕ) (rows after : List (Option UserPrios)) → AreNoted g k rows → after ≡ (if in_group g (home g (k + 1)) then noted_uses (task g (k + 1)).prio (task g (k + 1)).cluster (task g (k + 1)).uses rows else rows) → AreNoted g (k + 1) after
noted-more g k rows after h is = by_case (in_group g (home g (k + 1))) refl is
  where
    by_case : (b : Bool) → in_group g (home g (k + 1)) ≡ b → after ≡ (if b then noted_uses (task g (k + 1)).prio (task g (k + 1)).cluster (task g (k + 1)).uses rows else rows) → AreNoted g (k + 1) after
    by_case true e q = subst (AreNoted g (k + 1)) (sym q) (noted-own g k rows h e)
    by_case false e q = subst (AreNoted g (k + 1)) (sym q) (noted-other g k rows h e)

-- the same of a task as it is read
pub noted-read : (g : Group) (k : ℕ) (x : Task) (ks : List Cluster) (rows after : List (Option UserPrios)) → AreNoted g k rows → k < length g.setup.tasks → x ≡ get_or g.setup.tasks k x → ks ≡ g.setup.clusters → after ≡ (if (slice_index_or ks x.cluster.0 no_cluster).group.0 == g.number then noted_uses x.prio x.cluster x.uses rows else rows) → AreNoted g (k + 1) after
unfolding in_group home task cluster
noted-read g k x ks rows after h low is there made =
    let position : k + 1 - 1 ≡ k = omega arith in
    let own : x ≡ slice_index_or g.setup.tasks (k + 1 - 1) no_task = is ∙ get_or_default g.setup.tasks k x no_task low ∙ ap (λ i. get_or g.setup.tasks i no_task) (sym position) in
    noted-more g k rows after h (made ∙ ap (λ (cs : List Cluster). if (slice_index_or cs x.cluster.0 no_cluster).group.0 == g.number then noted_uses x.prio x.cluster x.uses rows else rows) there ∙ ap (λ (y : Task). if (slice_index_or g.setup.clusters y.cluster.0 no_cluster).group.0 == g.number then noted_uses y.prio y.cluster y.uses rows else rows) own)

pub noted-all : (g : Group) (rows : List (Option UserPrios)) → AreNoted g (length g.setup.tasks) rows → AreCeilings g (record { rows = rows })
unfolding users tasks sems
noted-all g rows h = record {
  count = h.count;
  smallest = λ s k m. h.smallest s k (omega (arith, h.count, numbers_from-below s 1 (length g.setup.sems) m));
}

pub ceilings_are_told : CeilingsAreTold
unfolding mpcp_ceiling home task
ceilings_are_told g c s t h m = ap (λ o. unwrap_or o (task g t).prio) (h.smallest s (home g t) m)
