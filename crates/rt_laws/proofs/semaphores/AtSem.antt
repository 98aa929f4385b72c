-- An act at one semaphore, or of one cluster, is an act.
use Rattle.std.proofs.Common.{Bool, cond, eqb-true, false, refl, true, ℕ, ◌&&◌, ◌≡◌}
use Rattle.std.specs.Prelude.{◌==◌}
use Rattle.rt_rules.specs.SemState.{Asks, Frees, Neither, SemAct}
use Rattle.rt_model.specs.Ceilings.{at_cluster, is_pcp}
use Rattle.rt_model.specs.Group.{Group, home, protocol}
use Rattle.rt_model.specs.Semaphores.{at_sem}
use Rattle.rt_model.specs.StackPolicy.{is_srp, srp_at}
use Rattle.rt_rules.proofs.BoolLaws.{both}

-- an act at a semaphore that asks is one that asks for that semaphore
pub at_sem-asks : (s t r : ℕ) (x : SemAct) → at_sem s x ≡ Asks t r → x ≡ Asks t s
at_sem-asks s t r (Asks u v) h = by_case (s == v) refl h
  where
    by_case : (b : Bool) → s == v ≡ b → cond b (Asks u v) Neither ≡ Asks t r → Asks u v ≡ Asks t s
    by_case true e k = let same : u ≡ t = cc in let same_sem : s ≡ v = eqb-true s v e in rw (same, same_sem)
    by_case false e k = cc
at_sem-asks s t r (Frees u v) h = by_case (s == v) h
  where
    by_case : (b : Bool) → cond b (Frees u v) Neither ≡ Asks t r → Frees u v ≡ Asks t s
    by_case true k = cc
    by_case false k = cc
at_sem-asks s t r Neither h = cc

-- an act at a semaphore that frees is one that frees that semaphore
pub at_sem-frees : (s t r : ℕ) (x : SemAct) → at_sem s x ≡ Frees t r → x ≡ Frees t s
at_sem-frees s t r (Asks u v) h = by_case (s == v) h
  where
    by_case : (b : Bool) → cond b (Asks u v) Neither ≡ Frees t r → Asks u v ≡ Frees t s
    by_case true k = cc
    by_case false k = cc
at_sem-frees s t r (Frees u v) h = by_case (s == v) refl h
  where
    by_case : (b : Bool) → s == v ≡ b → cond b (Frees u v) Neither ≡ Frees t r → Frees u v ≡ Frees t s
    by_case true e k = let same : u ≡ t = cc in let same_sem : s ≡ v = eqb-true s v e in rw (same, same_sem)
    by_case false e k = cc
at_sem-frees s t r Neither h = cc

-- an act of a cluster that asks is one of a task of the cluster at a PCP semaphore
pub at_cluster-asks : (g : Group) (c t s : ℕ) (x : SemAct) → at_cluster g c x ≡ Asks t s → (x ≡ Asks t s) × (home g t ≡ c) × (is_pcp (protocol g s) ≡ true)
unfolding at_cluster
at_cluster-asks g c t s (Asks u r) h = by_case (home g u == c && is_pcp (protocol g r)) refl h
  where
    by_case : (b : Bool) → home g u == c && is_pcp (protocol g r) ≡ b → cond b (Asks u r) Neither ≡ Asks t s → (Asks u r ≡ Asks t s) × (home g t ≡ c) × (is_pcp (protocol g s) ≡ true)
    by_case true e k = let q = both (home g u == c) (is_pcp (protocol g r)) e in let same : u ≡ t = cc in let same_sem : r ≡ s = cc in (k, eqb-true (home g t) c (rw same at q.0), rw same_sem at q.1)
    by_case false e k = cc
at_cluster-asks g c t s (Frees u r) h = by_case (home g u == c && is_pcp (protocol g r)) h
  where
    by_case : (b : Bool) → cond b (Frees u r) Neither ≡ Asks t s → (Frees u r ≡ Asks t s) × (home g t ≡ c) × (is_pcp (protocol g s) ≡ true)
    by_case true k = cc
    by_case false k = cc
at_cluster-asks g c t s Neither h = cc

-- an act of a cluster that frees is one that frees
pub at_cluster-frees : (g : Group) (c t s : ℕ) (x : SemAct) → at_cluster g c x ≡ Frees t s → x ≡ Frees t s
unfolding at_cluster
at_cluster-frees g c t s (Asks u r) h = by_case (home g u == c && is_pcp (protocol g r)) h
  where
    by_case : (b : Bool) → cond b (Asks u r) Neither ≡ Frees t s → Asks u r ≡ Frees t s
    by_case true k = cc
    by_case false k = cc
at_cluster-frees g c t s (Frees u r) h = by_case (home g u == c && is_pcp (protocol g r)) h
  where
    by_case : (b : Bool) → cond b (Frees u r) Neither ≡ Frees t s → Frees u r ≡ Frees t s
    by_case true k = k
    by_case false k = cc
at_cluster-frees g c t s Neither h = cc

-- an act of a cluster that asks is one of a task of the cluster at an SRP semaphore
pub srp_at-asks : (g : Group) (c t s : ℕ) (x : SemAct) → srp_at g c x ≡ Asks t s → (x ≡ Asks t s) × (home g t ≡ c) × (is_srp (protocol g s) ≡ true)
unfolding srp_at
srp_at-asks g c t s (Asks u r) h = by_case (home g u == c && is_srp (protocol g r)) refl h
  where
    by_case : (b : Bool) → home g u == c && is_srp (protocol g r) ≡ b → cond b (Asks u r) Neither ≡ Asks t s → (Asks u r ≡ Asks t s) × (home g t ≡ c) × (is_srp (protocol g s) ≡ true)
    by_case true e k = let q = both (home g u == c) (is_srp (protocol g r)) e in let same : u ≡ t = cc in let same_sem : r ≡ s = cc in (k, eqb-true (home g t) c (rw same at q.0), rw same_sem at q.1)
    by_case false e k = cc
srp_at-asks g c t s (Frees u r) h = by_case (home g u == c && is_srp (protocol g r)) h
  where
    by_case : (b : Bool) → cond b (Frees u r) Neither ≡ Asks t s → (Frees u r ≡ Asks t s) × (home g t ≡ c) × (is_srp (protocol g s) ≡ true)
    by_case true k = cc
    by_case false k = cc
srp_at-asks g c t s Neither h = cc

-- and so of SRP
pub srp_at-frees : (g : Group) (c t s : ℕ) (x : SemAct) → srp_at g c x ≡ Frees t s → x ≡ Frees t s
unfolding srp_at
srp_at-frees g c t s (Asks u r) h = by_case (home g u == c && is_srp (protocol g r)) h
  where
    by_case : (b : Bool) → cond b (Asks u r) Neither ≡ Frees t s → Asks u r ≡ Frees t s
    by_case true k = cc
    by_case false k = cc
srp_at-frees g c t s (Frees u r) h = by_case (home g u == c && is_srp (protocol g r)) h
  where
    by_case : (b : Bool) → cond b (Frees u r) Neither ≡ Frees t s → Frees u r ≡ Frees t s
    by_case true k = k
    by_case false k = cc
srp_at-frees g c t s Neither h = cc
