-- MPCP: while a request waits, the holder has a lower base key only as long as nothing ended since the request was made.
use Rattle.std.proofs.Common.{Bool, [], ap, arith, eqb-true, false, inl, inr, refl, sym, true, ℕ, ◌&&◌, ◌+◌, ◌∙◌, ◌∷◌, ◌≡◌, ◌≤◌, ◌⊎◌}
use Rattle.std.specs.Prelude.{None, Option, Some, if◌then◌else◌, is_none, ◌==◌}
use Rattle.rt_task.specs.RuleWords.{stands_under}
use Rattle.rt_task.specs.declared.PluginKind.TheVariants as plugins
use Rattle.rt_task.specs.declared.PluginKind.{PluginKind}
use Rattle.rt_task.specs.declared.Protocol.TheVariants.{Mpcp}
use Rattle.rt_rules.specs.Mpcp.{mpcp_after}
use Rattle.rt_rules.specs.Numbers.{foremost, has, is}
use Rattle.rt_rules.specs.SemState.{Asks, Frees, Neither, SemAct}
use Rattle.rt_model.specs.BaseKeys.{above, base_key, key_by}
use Rattle.rt_model.specs.Blocking.{ends_all, frees, is_open}
use Rattle.rt_model.specs.Group.{Group, protocol, sems}
use Rattle.rt_model.specs.Holders.{holder}
use Rattle.rt_model.specs.Past.{Event, Past, entries_in, sem_act}
use Rattle.rt_model.specs.Reachable.{IsReachable}
use Rattle.rt_model.specs.Semaphores.{at_sem, mpcp}
use Rattle.rt_rules.proofs.BoolLaws.{both, clash, either}
use Rattle.rt_rules.proofs.KeyLaws.{foremost-some}
use Rattle.rt_rules.proofs.MemberLaws.{equal_self}
use Rattle.rt_rules.proofs.MpcpLaws.{StandsOnce}
use Rattle.rt_laws.specs.LowerSections.{LowerSectionIsFirst, OneLowerSection, ends_lower, frees_lower}
use Rattle.rt_laws.proofs.jobs.BaseKeyLaws.{above-strict}
use Rattle.rt_laws.proofs.fmlp.FmlpCount.{ends_all-cases, none-ended}
use Rattle.rt_laws.proofs.Moves.{by_moves, last_move, moved}
use Rattle.rt_laws.proofs.mpcp.MpcpState.{mpcp-holder, mpcp-is, mpcp_busy, mpcp_once}
use Rattle.rt_laws.proofs.Next.{IsNext, next}
use Rattle.rt_laws.proofs.omlp.OmlpCount.{at-cases}
use Rattle.rt_laws.proofs.semaphores.OneWait.{WaitsOnce, waits_once}
use Rattle.rt_laws.proofs.semaphores.OpenRequests.{open-before, open-waits}
use Rattle.rt_laws.proofs.Rules.{MeetsRules}
use Rattle.rt_laws.proofs.ValidSets.{rules_of}

-- where MPCP stands no base key depends on the past
key-constant : (g : Group) (t : ℕ) (e : Event) (past : Past) → stands_under Mpcp g.setup.plugin ≡ true → base_key g t (e ∷ past) ≡ base_key g t past
unfolding base_key key_by
key-constant g t e past h = by_plugin g.setup.plugin h
  where
    by_plugin : (p : PluginKind) → stands_under Mpcp p ≡ true → key_by g p t (e ∷ past) ≡ key_by g p t past
    by_plugin plugins.PFp k = refl
    by_plugin plugins.GsnEdf k = cc
    by_plugin plugins.CEdf k = cc
    by_plugin plugins.PsnEdf k = cc
    by_plugin plugins.PRes k = cc

above-constant : (g : Group) (t u : ℕ) (e : Event) (past : Past) → stands_under Mpcp g.setup.plugin ≡ true → above g (e ∷ past) t u ≡ above g past t u
unfolding above
above-constant g t u e past h = rw (key-constant g t e past h, key-constant g u e past h) refl

pub mpcp-next : (g : Group) (s : ℕ) (e : Event) (past : Past) → mpcp g s (e ∷ past) ≡ mpcp_after (above g past) (at_sem s (sem_act e)) (mpcp g s past)
unfolding mpcp
mpcp-next g s e past = refl

-- a lower task that frees the semaphore
frees_lower-is : (is_lower : ℕ → Bool) (s : ℕ) (x : SemAct) → frees_lower is_lower s x ≡ true → (u : ℕ) × (x ≡ Frees u s) × (is_lower u ≡ true)
frees_lower-is is_lower s (Asks u r) h = cc
frees_lower-is is_lower s (Frees u r) h = let q = both (s == r) (is_lower u) h in let e : s ≡ r = eqb-true s r q.0 in (u, ap {B = SemAct} (λ n. Frees u n) (sym e), q.1)
frees_lower-is is_lower s Neither h = cc

-- one more event: a lower section ends, or none does
ends_lower-cases : (g : Group) (r t s : ℕ) (e : Event) (past : Past) → ((frees_lower (above g past t) s (sem_act e) ≡ true) × (is_open g r t s past ≡ true) × (ends_lower g r t s (e ∷ past) ≡ ends_lower g r t s past + 1)) ⊎ (ends_lower g r t s (e ∷ past) ≡ ends_lower g r t s past)
unfolding ends_lower
ends_lower-cases g r t s e past = by_cases (frees_lower (above g past t) s (sem_act e)) (is_open g r t s past)
  where
    by_cases : (a b : Bool) → ((a ≡ true) × (b ≡ true) × ((if a && b then ends_lower g r t s past + 1 else ends_lower g r t s past) ≡ ends_lower g r t s past + 1)) ⊎ ((if a && b then ends_lower g r t s past + 1 else ends_lower g r t s past) ≡ ends_lower g r t s past)
    by_cases true true = inl (refl, refl, refl)
    by_cases true false = inr refl
    by_cases false b = inr refl

-- where a request is open, what frees the semaphore counts
ends_all-counts : (g : Group) (r t s u : ℕ) (e : Event) (past : Past) → sem_act e ≡ Frees u s → is_open g r t s past ≡ true → ends_all g r t s (e ∷ past) ≡ ends_all g r t s past + 1
unfolding ends_all
ends_all-counts g r t s u e past a o = rw (a, equal_self s, o) refl

ends_all-stays : (g : Group) (r t s : ℕ) (e : Event) (past : Past) → frees s (sem_act e) ≡ false → ends_all g r t s (e ∷ past) ≡ ends_all g r t s past
unfolding ends_all
ends_all-stays g r t s e past f = rw f refl

ends_all-grows : (g : Group) (r t s : ℕ) (e : Event) (past : Past) → ends_all g r t s past ≤ ends_all g r t s (e ∷ past)
ends_all-grows g r t s e past = split (ends_all-cases g r t s e past)
  where
    split : ((frees s (sem_act e) ≡ true) × (is_open g r t s past ≡ true) × (ends_all g r t s (e ∷ past) ≡ ends_all g r t s past + 1)) ⊎ ((frees s (sem_act e) ≡ false) ⊎ (is_open g r t s past ≡ false)) × (ends_all g r t s (e ∷ past) ≡ ends_all g r t s past) → ends_all g r t s past ≤ ends_all g r t s (e ∷ past)
    split (inl c) = omega (arith, c.2)
    split (inr c) = omega (arith, c.1)

-- an act elsewhere frees nothing here
pub neither-frees : (s : ℕ) (x : SemAct) → at_sem s x ≡ Neither → frees s x ≡ false
neither-frees s (Asks u r) h = refl
neither-frees s (Frees u r) h = by_case (s == r) refl h
  where
    by_case : (b : Bool) → s == r ≡ b → (if b then Frees u r else Neither) ≡ Neither → s == r ≡ false
    by_case true e k = cc
    by_case false e k = e
neither-frees s Neither h = refl

-- what a request has seen of lower tasks, and while it waits: a lower holder has held since before it
record IsServed (g : Group) (r t s : ℕ) (past : Past) : Type 0 where
  one_lower : ends_lower g r t s past ≤ 1
  among_all : ends_lower g r t s past ≤ ends_all g r t s past
  in_progress : (u : ℕ) → is_open g r t s past ≡ true → is u (holder g s past) ≡ true → above g past t u ≡ true → ends_all g r t s past ≡ 0

module _ (g : Group) (rules : MeetsRules g) (r t s : ℕ) (p : protocol g s ≡ Mpcp) where
  permitted : has s (sems g) ≡ true → stands_under Mpcp g.setup.plugin ≡ true
  permitted there = rw p at (rules.is_allowed s there)

  in_progress-step : (e : Event) (past : Past) → WaitsOnce g past → IsNext g e past → StandsOnce (mpcp g s (e ∷ past)) → IsServed g r t s past → (u : ℕ) → is_open g r t s (e ∷ past) ≡ true → is u (holder g s (e ∷ past)) ≡ true → above g (e ∷ past) t u ≡ true → ends_all g r t s (e ∷ past) ≡ 0
  in_progress-step e past once next stands before u o h lower = split (open-before g rules r t s e past once next o)
    where
      waits_after : (has s (sems g) ≡ true) × (has t (mpcp g s (e ∷ past)).waiting ≡ true)
      waits_after = let w = open-waits g r t s (e ∷ past) o in (w.0, rw (mpcp-is g s (e ∷ past) p) at w.1)

      a : stands_under Mpcp g.setup.plugin ≡ true
      a = permitted waits_after.0

      lower_before : above g past t u ≡ true
      lower_before = rw (above-constant g t u e past a) at lower

      holds_it : is u (mpcp g s (e ∷ past)).holder ≡ true
      holds_it = rw (mpcp-holder g s (e ∷ past) p) at h

      -- the request is made now: nothing has ended since
      new : sem_act e ≡ Asks t s → r ≡ entries_in past → ends_all g r t s (e ∷ past) ≡ 0
      new k same = ends_all-stays g r t s e past (rw k refl) ∙ none-ended g r t s past (omega (arith, same))

      -- it was open: the holder goes on, or was chosen as the highest of those that wait
      old : is_open g r t s past ≡ true → (at_sem s (sem_act e) ≡ Neither) ⊎ (((v : ℕ) × (sem_act e ≡ Asks v s)) ⊎ ((v : ℕ) × (sem_act e ≡ Frees v s))) → ends_all g r t s (e ∷ past) ≡ 0
      old open_now = by_act
        where
          waits : has t (mpcp g s past).waiting ≡ true
          waits = rw (mpcp-is g s past p) at (open-waits g r t s past open_now).1

          goes_on : frees s (sem_act e) ≡ false → is u (mpcp g s past).holder ≡ true → ends_all g r t s (e ∷ past) ≡ 0
          goes_on f k = ends_all-stays g r t s e past f ∙ before.in_progress u open_now (rw (mpcp-holder g s past p) k) lower_before

          chosen : (o : Option ℕ) → foremost (above g past) (mpcp g s past).waiting ≡ o → is u o ≡ true → ⊥
          chosen None e k = cc
          chosen (Some w) e k =
              let same : u ≡ w = eqb-true u w k in
              let first = foremost-some (above g past) (mpcp g s past).waiting w e in
              over w same (either (w == t) (above g past w t) (first.1 t waits))
            where
              over : (w : ℕ) → u ≡ w → (w == t ≡ true) ⊎ (above g past w t ≡ true) → ⊥
              over w same (inl m) = let us : u ≡ t = same ∙ eqb-true w t m in clash _ waits_after.1 (stands.apart t (rw us at holds_it))
              over w same (inr m) = let strict = above-strict g past in clash _ (strict.trans t u t lower_before (rw same m)) (strict.self t)

          by_act : (at_sem s (sem_act e) ≡ Neither) ⊎ (((v : ℕ) × (sem_act e ≡ Asks v s)) ⊎ ((v : ℕ) × (sem_act e ≡ Frees v s))) → ends_all g r t s (e ∷ past) ≡ 0
          by_act (inl n) = goes_on (neither-frees s (sem_act e) n) (rw (mpcp-next g s e past, n) at holds_it)
          by_act (inr (inl v)) = goes_on (rw v.1 refl) (asked (mpcp g s past).holder refl)
            where
              asked : (o : Option ℕ) → (mpcp g s past).holder ≡ o → is u (mpcp g s past).holder ≡ true
              asked None held = let m : is_none {T = ℕ} None ≡ false = rw held at (mpcp_busy g s a past t waits) in cc
              asked (Some w) held = let k : is u (mpcp_after (above g past) (Asks v.0 s) (mpcp g s past)).holder ≡ true = rw (mpcp-next g s e past, v.1, equal_self s) at holds_it in rw held (rw held at k)
          by_act (inr (inr v)) = absurd (freed (foremost (above g past) (mpcp g s past).waiting) refl)
            where
              after : (o : Option ℕ) → foremost (above g past) (mpcp g s past).waiting ≡ o → is u (mpcp_after (above g past) (Frees v.0 s) (mpcp g s past)).holder ≡ true → is u o ≡ true
              after None k m = rw k at m
              after (Some w) k m = rw k at m

              freed : (o : Option ℕ) → foremost (above g past) (mpcp g s past).waiting ≡ o → ⊥
              freed o k = let m : is u (mpcp_after (above g past) (Frees v.0 s) (mpcp g s past)).holder ≡ true = rw (mpcp-next g s e past, v.1, equal_self s) at holds_it in chosen o k (after o k m)

      split : (is_open g r t s past ≡ true) ⊎ (sem_act e ≡ Asks t s) × (r ≡ entries_in past) → ends_all g r t s (e ∷ past) ≡ 0
      split (inl k) = old k (at-cases s (sem_act e))
      split (inr k) = new k.0 k.1

  served-step : (e : Event) (past : Past) → WaitsOnce g past → IsNext g e past → StandsOnce (mpcp g s (e ∷ past)) → IsServed g r t s past → IsServed g r t s (e ∷ past)
  served-step e past once next stands before = record {
    one_lower = (counts (ends_lower-cases g r t s e past)).0;
    among_all = (counts (ends_lower-cases g r t s e past)).1;
    in_progress = in_progress-step e past once next stands before;
  }
    where
      counts : ((frees_lower (above g past t) s (sem_act e) ≡ true) × (is_open g r t s past ≡ true) × (ends_lower g r t s (e ∷ past) ≡ ends_lower g r t s past + 1)) ⊎ (ends_lower g r t s (e ∷ past) ≡ ends_lower g r t s past) → (ends_lower g r t s (e ∷ past) ≤ 1) × (ends_lower g r t s (e ∷ past) ≤ ends_all g r t s (e ∷ past))
      counts (inl c) =
          let f = frees_lower-is (above g past t) s (sem_act e) c.0 in
          let none : ends_all g r t s past ≡ 0 = before.in_progress f.0 c.1 (next.freed f.0 s f.1) f.2 in
          let more : ends_all g r t s (e ∷ past) ≡ ends_all g r t s past + 1 = ends_all-counts g r t s f.0 e past f.1 c.1 in
          (omega (arith, c.2, none, before.among_all), omega (arith, c.2, none, more, before.among_all))
      counts (inr c) = (omega (arith, c, before.one_lower), omega (arith, c, before.among_all, ends_all-grows g r t s e past))

  nothing-served : IsServed g r t s []
  unfolding ends_lower ends_all
  nothing-served = record { one_lower = omega arith; among_all = omega arith; in_progress = λ u o h l. refl }

  served : {past : Past} → IsReachable g past → IsServed g r t s past
  served made = by_moves g (IsServed g r t s) nothing-served (λ past e made move before. served-step e past (waits_once g rules made) (next g rules made move) (mpcp_once g rules s p (moved g made move)) before) made

pub one_lower_section : OneLowerSection
one_lower_section g past valid made r t s p = let k : IsServed g r t s past = served g (rules_of g valid) r t s p made in record { one_lower = k.one_lower; among_all = k.among_all }

pub lower_section_is_first : LowerSectionIsFirst
lower_section_is_first g e past valid made r t s u p o a lower =
    let parts = last_move g made in
    let k : IsServed g r t s past = served g (rules_of g valid) r t s p parts.0 in
    k.in_progress u o ((next g (rules_of g valid) parts.0 parts.1).freed u s a) lower
