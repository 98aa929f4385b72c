-- The blocker of a task is the owner of the newest grant among those of other tasks; a waiting task has one, and it does not wait.
use Rattle.std.proofs.Common.{◌≡◌, ℕ, Bool, true, false, List, [], ◌∷◌, refl, ap, ◌∙◌, subst}
use Rattle.std.specs.Prelude.{Some, ◌==◌}
use Rattle.rt_rules.specs.declared.Key.{Key}
use Rattle.rt_rules.specs.Numbers.{has, first}
use Rattle.rt_rules.specs.Pcp.{TaskSem, PcpState, of_others, passes}
use Rattle.rt_rules.proofs.PlacingLaws.{unless}
use Rattle.sem_laws.specs.KeptKeys.{key_at}
use Rattle.rt_rules.proofs.MemberLaws.{equal_self}
use Rattle.rt_rules.proofs.BoolLaws.{clash}
use Rattle.pcp_sem.specs.Pairs.{tasks_of}
use Rattle.pcp_sem.specs.Stack.{IsStacked, IsStack}
use Rattle.pcp_sem.specs.PcpKept.{above_ceiling, blocker_of}
use Rattle.pcp_sem.specs.IsPcp.{IsSound}
use Rattle.rt_rules.proofs.PairLaws.{pair-of}
use Rattle.rt_rules.proofs.BlockerLaws.{newest-of_others}
use Rattle.rt_rules.proofs.PcpLaws.{newest-other}

-- the owner of the newest grant among those of others is the blocker
pub blocker-newest : (ceilings keys : List Key) (t : ℕ) (l : PcpState) → IsStacked (above_ceiling keys ceilings) l.held → IsSound ceilings keys l → blocker_of ceilings l.held t ≡ first (tasks_of (of_others t l.held))
blocker-newest ceilings keys t l k ok = newest-of_others (key_at keys) (key_at ceilings) t l.held k (λ u s h. (ok.held_by u s h).low)

-- a waiting task is blocked by a task that does not wait
pub waiting-blocked : (ceilings keys : List Key) (t : ℕ) (l : PcpState) → IsStack (above_ceiling keys ceilings) l → IsSound ceilings keys l → has t (tasks_of l.waiting) ≡ true → (b : ℕ) × (blocker_of ceilings l.held t ≡ Some b) × (has b (tasks_of l.waiting) ≡ false)
waiting-blocked ceilings keys t l k ok h = by_held l.held refl
  where
    over : ℕ → ℕ → Bool
    over = above_ceiling keys ceilings

    stops : (u : ℕ) → has u (tasks_of l.waiting) ≡ true → passes (above_ceiling keys ceilings) l.held u ≡ false
    stops u m = let q = pair-of u l.waiting m in k.blocked u q.0 q.1

    by_held : (ps : List TaskSem) → l.held ≡ ps → (b : ℕ) × (blocker_of ceilings l.held t ≡ Some b) × (has b (tasks_of l.waiting) ≡ false)
    by_held [] e = let m : passes (above_ceiling keys ceilings) [] t ≡ false = subst (λ qs. passes (above_ceiling keys ceilings) qs t ≡ false) e (stops t h) in cc
    by_held (p ∷ ps) e = (p.task, blocker-newest ceilings keys t l k.stacked ok ∙ ap (λ qs. first (tasks_of (of_others t qs))) e ∙ newest, free)
      where
        stacked : IsStacked (above_ceiling keys ceilings) (p ∷ ps)
        stacked = subst (λ qs. IsStacked (above_ceiling keys ceilings) qs) e k.stacked

        stopped : (u : ℕ) → has u (tasks_of l.waiting) ≡ true → passes (above_ceiling keys ceilings) (p ∷ ps) u ≡ false
        stopped u m = subst (λ qs. passes (above_ceiling keys ceilings) qs u ≡ false) e (stops u m)

        newest : first (tasks_of (of_others t (p ∷ ps))) ≡ Some p.task
        newest = let n : p.task == t ≡ false = newest-other (above_ceiling keys ceilings) p ps t stacked (stopped t h) in rw n

        free : has p.task (tasks_of l.waiting) ≡ false
        free = unless _ (λ m. clash _ (equal_self p.task) (newest-other (above_ceiling keys ceilings) p ps p.task stacked (stopped p.task m)))
