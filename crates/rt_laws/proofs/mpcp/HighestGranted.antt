-- MPCP: an Unlock grants the request of the highest base key.
use Rattle.std.proofs.Common.{Bool, [], ap, eqb-true, false, inl, inr, refl, true, ℕ, ◌++◌, ◌∙◌, ◌∷◌, ◌≡◌, ◌⊎◌}
use Rattle.std.specs.Prelude.{None, Option, Some, ◌==◌}
use Rattle.rt_task.specs.declared.Protocol.TheVariants.{Mpcp}
use Rattle.rt_rules.specs.Numbers.{foremost, has, without}
use Rattle.rt_rules.specs.SemState.{Asks, Frees, Neither, SemState}
use Rattle.rt_model.specs.BaseKeys.{above}
use Rattle.rt_model.specs.Group.{Group, protocol}
use Rattle.rt_model.specs.Past.{Event, Past, sem_act}
use Rattle.rt_model.specs.Reachable.{IsReachable}
use Rattle.rt_model.specs.Semaphores.{at_sem, mpcp}
use Rattle.rt_rules.proofs.BoolLaws.{clash, or_else, unless}
use Rattle.rt_rules.proofs.DistinctLaws.{without-gone}
use Rattle.rt_rules.proofs.KeyLaws.{foremost-some}
use Rattle.rt_rules.proofs.MemberLaws.{equal_self, has-append, has-left, has-without}
use Rattle.rt_laws.specs.HighestGranted.{HighestIsGranted}
use Rattle.rt_laws.proofs.mpcp.LowerSections.{mpcp-next}
use Rattle.rt_laws.proofs.Moves.{IsMove, last_move}
use Rattle.rt_laws.proofs.mpcp.MpcpState.{mpcp-is, mpcp_once}
use Rattle.rt_laws.proofs.Next.{next}
use Rattle.rt_laws.proofs.omlp.OmlpCount.{at-cases}
use Rattle.rt_laws.proofs.semaphores.OneWait.{waits_once}
use Rattle.rt_laws.proofs.semaphores.OpenRequests.{open-waits, waits-open}
use Rattle.rt_laws.proofs.Rules.{MeetsRules}
use Rattle.rt_laws.proofs.ValidSets.{rules_of}

-- the first of two tasks leaves those that wait, and the second waits on: the first has the higher base key
leaver-above : (g : Group) → MeetsRules g → (u t s : ℕ) (e : Event) (past : Past) → protocol g s ≡ Mpcp → IsReachable g past → has u (mpcp g s past).waiting ≡ true → has u (mpcp g s (e ∷ past)).waiting ≡ false → has t (mpcp g s (e ∷ past)).waiting ≡ true → above g past u t ≡ true
leaver-above g rules u t s e past p made w gone h = split (at-cases s (sem_act e))
  where
    same : (mpcp g s (e ∷ past)).waiting ≡ (mpcp g s past).waiting → above g past u t ≡ true
    same k = let m : has u (mpcp g s (e ∷ past)).waiting ≡ true = rw k w in absurd (clash _ m gone)

    asked : (v : ℕ) → sem_act e ≡ Asks v s → (o : Option ℕ) → (mpcp g s past).holder ≡ o → above g past u t ≡ true
    asked v x None k = let n : mpcp g s (e ∷ past) ≡ record (mpcp g s past) { holder = Some v } = mpcp-next g s e past ∙ rw (x, equal_self s, k) in same (ap (λ (l : SemState). l.waiting) n)
    asked v x (Some y) k =
        let n : mpcp g s (e ∷ past) ≡ record (mpcp g s past) { waiting = (mpcp g s past).waiting ++ v ∷ [] } = mpcp-next g s e past ∙ rw (x, equal_self s, k) in
        let m : has u (mpcp g s (e ∷ past)).waiting ≡ true = rw (ap (λ (l : SemState). l.waiting) n, has-append, w) refl in
        absurd (clash _ m gone)

    freed : (v : ℕ) → sem_act e ≡ Frees v s → (o : Option ℕ) → foremost (above g past) (mpcp g s past).waiting ≡ o → above g past u t ≡ true
    freed v x None k = let n : mpcp g s (e ∷ past) ≡ record { holder = None; waiting = (mpcp g s past).waiting } = mpcp-next g s e past ∙ rw (x, equal_self s, k) in same (ap (λ (l : SemState). l.waiting) n)
    freed v x (Some y) k = by_case (u == y) refl
      where
        waiting_is : (mpcp g s (e ∷ past)).waiting ≡ without y (mpcp g s past).waiting
        waiting_is = let n : mpcp g s (e ∷ past) ≡ record { holder = Some y; waiting = without y (mpcp g s past).waiting } = mpcp-next g s e past ∙ rw (x, equal_self s, k) in ap (λ (l : SemState). l.waiting) n

        waits_on : has t (without y (mpcp g s past).waiting) ≡ true
        waits_on = rw waiting_is at h

        other : y == t ≡ false
        other = unless _ (λ m. let same_task : y ≡ t = eqb-true y t m in let none : has t (without y (mpcp g s past).waiting) ≡ false = rw (← same_task) (without-gone y (mpcp g s past).waiting (mpcp_once g rules s p made).once) in clash _ waits_on none)

        over : above g past y t ≡ true
        over = or_else (y == t) (above g past y t) ((foremost-some (above g past) (mpcp g s past).waiting y k).1 t (has-without t y (mpcp g s past).waiting waits_on)) other

        by_case : (b : Bool) → u == y ≡ b → above g past u t ≡ true
        by_case true m = rw (eqb-true u y m) over
        by_case false m = let n : has u (mpcp g s (e ∷ past)).waiting ≡ true = rw waiting_is (has-left u y (mpcp g s past).waiting m ∙ w) in absurd (clash _ n gone)

    split : (at_sem s (sem_act e) ≡ Neither) ⊎ (((v : ℕ) × (sem_act e ≡ Asks v s)) ⊎ ((v : ℕ) × (sem_act e ≡ Frees v s))) → above g past u t ≡ true
    split (inl n) = let m : mpcp g s (e ∷ past) ≡ mpcp g s past = mpcp-next g s e past ∙ rw n in same (ap (λ (l : SemState). l.waiting) m)
    split (inr (inl v)) = asked v.0 v.1 (mpcp g s past).holder refl
    split (inr (inr v)) = freed v.0 v.1 (foremost (above g past) (mpcp g s past).waiting) refl

pub highest_is_granted : HighestIsGranted
highest_is_granted g e past valid made a b p same_sem waited shut waits_on = leaver-above g rules b.task a.task b.sem e past p parts.0 before gone after
  where
    rules : MeetsRules g
    rules = rules_of g valid

    parts : IsReachable g past × IsMove g past e
    parts = last_move g made

    before : has b.task (mpcp g b.sem past).waiting ≡ true
    before = rw (mpcp-is g b.sem past p) at (open-waits g b.no b.task b.sem past waited).1

    after : has a.task (mpcp g b.sem (e ∷ past)).waiting ≡ true
    after = rw (mpcp-is g b.sem (e ∷ past) p) at (open-waits g a.no a.task b.sem (e ∷ past) (rw same_sem at waits_on)).1

    gone : has b.task (mpcp g b.sem (e ∷ past)).waiting ≡ false
    gone = unless _ (λ h. clash _ (waits-open g b.no b.task b.sem e past (waits_once g rules made) (next g rules parts.0 parts.1) waited (rw (mpcp-is g b.sem (e ∷ past) p) h)) shut)
