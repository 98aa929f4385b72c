-- FMLP: while a request waits, each other user of its semaphore stands before it at most once.
use Rattle.std.proofs.Common.{Bool, List, [], ap, arith, cond, false, inl, inr, length, length-append, refl, true, ℕ, ◌&&◌, ◌++◌, ◌+◌, ◌-◌, ◌<◌, ◌∙◌, ◌∷◌, ◌≡◌, ◌≤◌, ◌⊎◌}
use Rattle.std.specs.Prelude.{if◌then◌else◌, ◌==◌}
use Rattle.rt_task.specs.declared.Protocol.TheVariants.{Fmlp}
use Rattle.rt_rules.specs.Fmlp.{fmlp_after}
use Rattle.rt_rules.specs.Numbers.{first, has, is, rest}
use Rattle.rt_rules.specs.SemState.{Asks, Frees, Neither, SemAct}
use Rattle.rt_model.specs.Blocking.{ends_all, frees, is_open, newest_request}
use Rattle.rt_model.specs.Group.{Group, protocol, users}
use Rattle.rt_model.specs.Holders.{awaits}
use Rattle.rt_model.specs.Reachable.{IsReachable}
use Rattle.rt_model.specs.Past.{Event, Past, entries_in, sem_act}
use Rattle.rt_model.specs.Semaphores.{at_sem, fmlp}
use Rattle.rt_rules.proofs.BoolLaws.{both, clash, unless}
use Rattle.rt_rules.proofs.DistinctLaws.{length-distinct}
use Rattle.rt_rules.proofs.FmlpLaws.{IsLine, ahead, ahead-append, ahead-last, ahead-rest}
use Rattle.rt_rules.proofs.MemberLaws.{equal_self, has-rest, without-first}
use Rattle.rt_laws.proofs.semaphores.Asked.{IsAsked}
use Rattle.rt_laws.proofs.fmlp.FmlpState.{fmlp-fresh, fmlp-line, fmlp-line-step, fmlp-sem_state, fmlp-step}
use Rattle.rt_laws.proofs.GroupLaws.{distinct-users}
use Rattle.rt_laws.proofs.Moves.{by_moves}
use Rattle.rt_laws.proofs.Next.{IsNext, next}
use Rattle.rt_laws.proofs.semaphores.OneWait.{WaitsOnce, waits_once}
use Rattle.rt_laws.proofs.semaphores.OpenRequests.{entries-grow, frees-is, newest-below, open-before, open-waits}
use Rattle.rt_laws.proofs.Rules.{MeetsRules}

-- nothing ended before the request was asked
pub none-ended : (g : Group) (r t s : ℕ) (past : Past) → entries_in past ≤ r → ends_all g r t s past ≡ 0
unfolding ends_all is_open
none-ended g r t s [] h = refl
none-ended g r t s (e ∷ past) h = rw (shut) (by_case (frees s (sem_act e)) (none-ended g r t s past (omega (arith, h, entries-grow e past))))
  where
    shut : is s (awaits g t past) && is r (newest_request t past) ≡ false
    shut = unless _ (λ k. let n : r < entries_in past = newest-below t r past (both (is s (awaits g t past)) (is r (newest_request t past)) k).1 in absurd (omega (arith, h, entries-grow e past, n)))

    by_case : (b : Bool) → ends_all g r t s past ≡ 0 → (if b && false then ends_all g r t s past + 1 else ends_all g r t s past) ≡ 0
    by_case true k = k
    by_case false k = k

-- while a request waits, what ended and who stands before it are together at most the other users
pub record IsCounted (g : Group) (r t s : ℕ) (past : Past) : Type 0 where
  pub so_far : ends_all g r t s past ≤ length (users g s) - 1
  pub still : is_open g r t s past ≡ true → ends_all g r t s past + ahead t (fmlp g s past) ≤ length (users g s) - 1

-- one more event, by whether it frees the semaphore and whether the request is open
pub ends_all-cases : (g : Group) (r t s : ℕ) (e : Event) (past : Past) → ((frees s (sem_act e) ≡ true) × (is_open g r t s past ≡ true) × (ends_all g r t s (e ∷ past) ≡ ends_all g r t s past + 1)) ⊎ ((frees s (sem_act e) ≡ false) ⊎ (is_open g r t s past ≡ false)) × (ends_all g r t s (e ∷ past) ≡ ends_all g r t s past)
unfolding ends_all
ends_all-cases g r t s e past = by_cases (frees s (sem_act e)) (is_open g r t s past)
  where
    by_cases : (a b : Bool) → ((a ≡ true) × (b ≡ true) × ((if a && b then ends_all g r t s past + 1 else ends_all g r t s past) ≡ ends_all g r t s past + 1)) ⊎ ((a ≡ false) ⊎ (b ≡ false)) × ((if a && b then ends_all g r t s past + 1 else ends_all g r t s past) ≡ ends_all g r t s past)
    by_cases true true = inl (refl, refl, refl)
    by_cases true false = inr (inr refl, refl)
    by_cases false b = inr (inl refl, refl)

ahead-stays : (t s : ℕ) (x : SemAct) (line : List ℕ) → has t line ≡ true → frees s x ≡ false → ahead t (fmlp_after (at_sem s x) line) ≡ ahead t line
ahead-stays t s (Asks u r) line h f = by_case (s == r)
  where
    by_case : (b : Bool) → ahead t (fmlp_after (cond b (Asks u r) Neither) line) ≡ ahead t line
    by_case true = ahead-append t line (u ∷ []) h
    by_case false = refl
ahead-stays t s (Frees u r) line h f = rw f
ahead-stays t s Neither line h f = refl

counted-step : (g : Group) → MeetsRules g → (r t s : ℕ) → protocol g s ≡ Fmlp → (e : Event) (past : Past) → WaitsOnce g past → IsNext g e past → IsLine (users g s) (fmlp g s past) → IsCounted g r t s past → IsCounted g r t s (e ∷ past)
counted-step g rules r t s p e past once next line before = record { so_far = so_far cases; still = λ h. still cases (open-before g rules r t s e past once next h) }
  where
    cases : ((frees s (sem_act e) ≡ true) × (is_open g r t s past ≡ true) × (ends_all g r t s (e ∷ past) ≡ ends_all g r t s past + 1)) ⊎ ((frees s (sem_act e) ≡ false) ⊎ (is_open g r t s past ≡ false)) × (ends_all g r t s (e ∷ past) ≡ ends_all g r t s past)
    cases = ends_all-cases g r t s e past

    stands : is_open g r t s past ≡ true → has t (rest (fmlp g s past)) ≡ true
    stands o = rw (fmlp-sem_state g s past p).0 at (open-waits g r t s past o).1

    behind : is_open g r t s past ≡ true → ahead t (fmlp g s past) ≡ ahead t (rest (fmlp g s past)) + 1
    behind o = ahead-rest t (fmlp g s past) line.once (stands o)

    so_far : ((frees s (sem_act e) ≡ true) × (is_open g r t s past ≡ true) × (ends_all g r t s (e ∷ past) ≡ ends_all g r t s past + 1)) ⊎ ((frees s (sem_act e) ≡ false) ⊎ (is_open g r t s past ≡ false)) × (ends_all g r t s (e ∷ past) ≡ ends_all g r t s past) → ends_all g r t s (e ∷ past) ≤ length (users g s) - 1
    so_far (inl c) = omega (arith, c.2, before.still c.1, behind c.1)
    so_far (inr c) = omega (arith, c.1, before.so_far)

    one_less : is_open g r t s past ≡ true → (u : ℕ) → sem_act e ≡ Frees u s → fmlp g s (e ∷ past) ≡ rest (fmlp g s past)
    one_less o u f =
        let holds_it : is u (first (fmlp g s past)) ≡ true = rw (fmlp-sem_state g s past p).1 at (next.freed u s f) in
        fmlp-step g s e past ∙ rw (f, equal_self s) (without-first u (fmlp g s past) holds_it)

    new : sem_act e ≡ Asks t s → r ≡ entries_in past → ends_all g r t s (e ∷ past) ≡ ends_all g r t s past → ends_all g r t s (e ∷ past) + ahead t (fmlp g s (e ∷ past)) ≤ length (users g s) - 1
    new a same unchanged =
        let asked : IsAsked g t s past = next.asked t s a in
        let fresh : has t (fmlp g s past) ≡ false = fmlp-fresh g s t past p asked in
        let longer : fmlp g s (e ∷ past) ≡ fmlp g s past ++ t ∷ [] = fmlp-step g s e past ∙ rw (a, equal_self s) in
        let last : ahead t (fmlp g s (e ∷ past)) ≡ length (fmlp g s past) = rw longer (ahead-last t (fmlp g s past) fresh) in
        let joined : IsLine (users g s) (fmlp g s (e ∷ past)) = fmlp-line-step g s e past p next.asked line in
        let fits : length (fmlp g s (e ∷ past)) ≤ length (users g s) = length-distinct _ _ joined.once (distinct-users g s) joined.inside in
        let size : length (fmlp g s (e ∷ past)) ≡ length (fmlp g s past) + 1 = rw longer (length-append (fmlp g s past) (t ∷ [])) in
        let zero_so_far : ends_all g r t s past ≡ 0 = none-ended g r t s past (omega (arith, same)) in
        omega (arith, last, fits, size, zero_so_far, unchanged)

    still : ((frees s (sem_act e) ≡ true) × (is_open g r t s past ≡ true) × (ends_all g r t s (e ∷ past) ≡ ends_all g r t s past + 1)) ⊎ ((frees s (sem_act e) ≡ false) ⊎ (is_open g r t s past ≡ false)) × (ends_all g r t s (e ∷ past) ≡ ends_all g r t s past) → (is_open g r t s past ≡ true) ⊎ (sem_act e ≡ Asks t s) × (r ≡ entries_in past) → ends_all g r t s (e ∷ past) + ahead t (fmlp g s (e ∷ past)) ≤ length (users g s) - 1
    still (inl c) (inl o) = let f = frees-is s (sem_act e) c.0 in let shorter : ahead t (fmlp g s (e ∷ past)) ≡ ahead t (rest (fmlp g s past)) = ap (ahead t) (one_less o f.0 f.1) in omega (arith, c.2, before.still o, behind o, shorter)
    still (inl c) (inr a) = let k : frees s (Asks t s) ≡ true = rw a.0 at c.0 in absurd (clash _ k refl)
    still (inr c) (inr a) = new a.0 a.1 c.1
    still (inr c) (inl o) = no_end c.0 c.1 o
      where
        no_end : (frees s (sem_act e) ≡ false) ⊎ (is_open g r t s past ≡ false) → ends_all g r t s (e ∷ past) ≡ ends_all g r t s past → is_open g r t s past ≡ true → ends_all g r t s (e ∷ past) + ahead t (fmlp g s (e ∷ past)) ≤ length (users g s) - 1
        no_end (inr k) u o = absurd (clash _ o k)
        no_end (inl k) u o = let same : ahead t (fmlp g s (e ∷ past)) ≡ ahead t (fmlp g s past) = rw (fmlp-step g s e past) (ahead-stays t s (sem_act e) (fmlp g s past) (has-rest t (fmlp g s past) (stands o)) k) in omega (arith, u, same, before.still o)

nothing-counted : (g : Group) (r t s : ℕ) → IsCounted g r t s []
unfolding ends_all fmlp
nothing-counted g r t s = record { so_far = omega arith; still = λ h. omega arith }

-- so it is after every move
pub counted : (g : Group) → MeetsRules g → (r t s : ℕ) → protocol g s ≡ Fmlp → {past : Past} → IsReachable g past → IsCounted g r t s past
counted g rules r t s p made = by_moves g (IsCounted g r t s) (nothing-counted g r t s) (λ past e made move before. counted-step g rules r t s p e past (waits_once g rules made) (next g rules made move) (fmlp-line g rules s p made) before) made
