-- All semaphores of a group.
use Rattle.std.proofs.Common.{◌≡◌, ◌∙◌, ◌<◌, ℕ, Bool, true, false, ◌∷◌, refl, sym, eqb-true, length, subst}
use Rattle.std.specs.Prelude.{◌==◌, slice_set}
use Rattle.rt_task.specs.declared.Protocol.{Protocol}
use Rattle.rt_task.specs.declared.Protocol.TheVariants.{Fmlp, Mpcp, Omlp, Pcp, Srp}
use Rattle.rt_rules.specs.Numbers.{has}
use Rattle.rt_rules.specs.SemState.{SemAct, Asks, Frees, Neither}
use Rattle.rt_model.specs.BaseKeys.{base_key}
use Rattle.rt_model.specs.Ceilings.{at_cluster, is_pcp}
use Rattle.rt_model.specs.Group.{Group, home, in_group, protocol, sems, users}
use Rattle.rt_model.specs.Reachable.{IsReachable}
use Rattle.rt_model.specs.Past.{Event, Past, sem_act}
use Rattle.rt_model.specs.Semaphores.{at_sem, cluster_of}
use Rattle.rt_rules.proofs.MemberLaws.{equal_self, turned}
use Rattle.rt_laws.proofs.semaphores.Asked.{IsAsked}
use Rattle.rt_laws.proofs.jobs.Engaged.{holder-engaged}
use Rattle.rt_laws.proofs.GroupLaws.{user-home, pcp-shares}
use Rattle.rt_laws.proofs.Moves.{IsMove, last_move}
use Rattle.rt_laws.proofs.Next.{next}
use Rattle.rt_laws.proofs.Rules.{MeetsRules}
use Rattle.rt_laws.proofs.ValidSets.{rules_of}
use Rattle.rt_changes.proofs.Acting.{IsParty, all_parties}
use Rattle.sem_table.specs.declared.any_sem.AnySem.{AnySem}
use Rattle.sem_table.specs.declared.any_sem.AnySem.TheVariants as any
use Rattle.sem_table.specs.Asked.{after_ask, asked, set_asked, sets_asked}
use Rattle.sem_table.specs.Released.{after_release, freed, set_freed, sets_freed}
use Rattle.sem_table.specs.SemTable.{SemTable, sem_at, set_at, srp_set_at}
use Rattle.sem_table.specs.Keeping.{AskKeeps, QuietKeeps, ReleaseKeeps}
use Rattle.sem_table.specs.KeptSems.{KeepsSem, KeepsSems, KeepsSet}
use Rattle.sem_table.proofs.Lists.{at-other, at-same, still-below}
use Rattle.sem_table.proofs.SemsLaws.{sem-quiet, sem-asks, sem-frees}
use Rattle.sem_table.proofs.SrpSets.{srp-neither, srp-quiet, srp-sets_asked, srp-sets_freed}
use Rattle.sem_table.proofs.ClusterSets.{set-quiet, set-asks, set-frees, away-ask, away-free, other-ask, other-free}

sem-away-ask : (r t s : ℕ) → s == r ≡ false → at_sem r (Asks t s) ≡ Neither
sem-away-ask r t s h = rw (turned r s ∙ h) refl

sem-away-free : (r t s : ℕ) → s == r ≡ false → at_sem r (Frees t s) ≡ Neither
sem-away-free r t s h = rw (turned r s ∙ h) refl

quiet-set : (g : Group) (c : ℕ) (x : SemAct) → x ≡ Neither → at_cluster g c x ≡ Neither
unfolding at_cluster
quiet-set g c x h = rw h refl

quiet-sem : (s : ℕ) (x : SemAct) → x ≡ Neither → at_sem s x ≡ Neither
quiet-sem s x h = rw h refl

module _ (g : Group) (rules : MeetsRules g) (e : Event) (past : Past) (made : IsReachable g past) (move : IsMove g past e) (w : SemTable) (k : KeepsSems g past w) where
  pub quiet : sem_act e ≡ Neither → KeepsSems g (e ∷ past) w
  quiet h = record {
    sem_room = k.sem_room;
    set_room = k.set_room;
    srp_room = k.srp_room;
    kept = λ s there. sem-quiet g rules e past made move s (protocol g s) (sem_at w.sems s) there (quiet-sem s (sem_act e) h) (k.kept s there);
    sets = λ c low mine. set-quiet g rules e past made move c (set_at w.sets c) (k.sets c low mine) (quiet-set g c (sem_act e) h);
    srp_sets = λ c low mine. srp-quiet g rules e past made move c (srp_set_at w.sets c) (k.srp_sets c low mine) (srp-neither g c (sem_act e) h);
  }

  module _ (t s : ℕ) (user : has t (users g s) ≡ true) (known : has s (sems g) ≡ true) where
    at_home : is_pcp (protocol g s) ≡ true → home g t ≡ cluster_of g s
    at_home q = user-home g rules s t (pcp-shares g.setup.plugin (protocol g s) q) user

    -- a request
    module _ (h : sem_act e ≡ Asks t s) where
      ask-room : (x : AnySem) (c : ℕ) → c < length w.sets.pcp → c < length (sets_asked t (base_key g t past) s x w.sets).pcp
      ask-room (any.Fmlp l) c m = m
      ask-room (any.Omlp l) c m = m
      ask-room (any.Mpcp l) c m = m
      ask-room (any.Pcp d) c m = still-below w.sets.pcp d.0 c _ m
      ask-room (any.Srp d) c m = m

      ask-srp_room : (x : AnySem) (c : ℕ) → c < length w.sets.srp → c < length (sets_asked t (base_key g t past) s x w.sets).srp
      ask-srp_room (any.Fmlp l) c m = m
      ask-srp_room (any.Omlp l) c m = m
      ask-srp_room (any.Mpcp l) c m = m
      ask-srp_room (any.Pcp d) c m = m
      ask-srp_room (any.Srp d) c m = still-below w.sets.srp d.0 c _ m

      ask-kept : (r : ℕ) → has r (sems g) ≡ true → (b : Bool) → s == r ≡ b → KeepsSem g r (e ∷ past) (protocol g r) (sem_at (slice_set w.sems s (asked t (base_key g t past) (sem_at w.sems s))) r)
      ask-kept r there true m =
          let here : KeepsSem g s (e ∷ past) (protocol g s) (asked t (base_key g t past) (sem_at w.sems s)) = sem-asks g rules e past made move t s h (protocol g s) (sem_at w.sems s) refl (k.kept s known) in
          subst (λ (n : ℕ). KeepsSem g n (e ∷ past) (protocol g n) (sem_at (slice_set w.sems s (asked t (base_key g t past) (sem_at w.sems s))) n)) (eqb-true s r m) (subst (λ (x : AnySem). KeepsSem g s (e ∷ past) (protocol g s) x) (sym (at-same w.sems s s (asked t (base_key g t past) (sem_at w.sems s)) _ (equal_self s) (k.sem_room s known))) here)
      ask-kept r there false m =
          let quiet_here : at_sem r (sem_act e) ≡ Neither = rw h (sem-away-ask r t s m) in
          subst (λ (x : AnySem). KeepsSem g r (e ∷ past) (protocol g r) x) (sym (at-other w.sems s r (asked t (base_key g t past) (sem_at w.sems s)) _ m)) (sem-quiet g rules e past made move r (protocol g r) (sem_at w.sems r) there quiet_here (k.kept r there))

      ask-sets : (p : Protocol) (x : AnySem) → protocol g s ≡ p → KeepsSem g s past p x → (c : ℕ) → c < length g.setup.clusters → in_group g c ≡ true → KeepsSet g c (e ∷ past) (set_at (sets_asked t (base_key g t past) s x w.sets) c)
      ask-sets Fmlp (any.Fmlp l) q v c low mine = set-quiet g rules e past made move c (set_at w.sets c) (k.sets c low mine) (rw h (other-ask g c t s (rw q refl)))
      ask-sets Omlp (any.Omlp l) q v c low mine = set-quiet g rules e past made move c (set_at w.sets c) (k.sets c low mine) (rw h (other-ask g c t s (rw q refl)))
      ask-sets Mpcp (any.Mpcp l) q v c low mine = set-quiet g rules e past made move c (set_at w.sets c) (k.sets c low mine) (rw h (other-ask g c t s (rw q refl)))
      ask-sets Pcp (any.Pcp d) q v c low mine = by_case (d.0 == c) refl
        where
          home_is : home g t ≡ d.0
          home_is = at_home (rw q refl) ∙ sym v

          by_case : (b : Bool) → d.0 == c ≡ b → KeepsSet g c (e ∷ past) (set_at (record w.sets { pcp = slice_set w.sets.pcp d.0 (set_asked t (base_key g t past) s (set_at w.sets d.0)) }) c)
          by_case true m =
              let same : d.0 ≡ c = eqb-true d.0 c m in
              let here : KeepsSet g c (e ∷ past) (set_asked t (base_key g t past) s (set_at w.sets c)) = set-asks g rules e past made move c (set_at w.sets c) (k.sets c low mine) t s h (home_is ∙ same) (rw q refl) in
              subst (λ x. KeepsSet g c (e ∷ past) x) (sym (at-same w.sets.pcp d.0 c (set_asked t (base_key g t past) s (set_at w.sets d.0)) _ m (k.set_room d.0 (subst (λ (n : ℕ). n < length g.setup.clusters) (sym same) low)))) (subst (λ (n : ℕ). KeepsSet g c (e ∷ past) (set_asked t (base_key g t past) s (set_at w.sets n))) (sym same) here)
          by_case false m =
              let quiet_here : at_cluster g c (sem_act e) ≡ Neither = rw h (away-ask g c t s (rw home_is m)) in
              subst (λ x. KeepsSet g c (e ∷ past) x) (sym (at-other w.sets.pcp d.0 c (set_asked t (base_key g t past) s (set_at w.sets d.0)) _ m)) (set-quiet g rules e past made move c (set_at w.sets c) (k.sets c low mine) quiet_here)
      ask-sets Srp (any.Srp d) q v c low mine = set-quiet g rules e past made move c (set_at w.sets c) (k.sets c low mine) (rw h (other-ask g c t s (rw q refl)))
      ask-sets p x q v c low mine = absurd v

      pub ask : KeepsSems g (e ∷ past) (after_ask t (base_key g t past) s w)
      ask = record {
        sem_room = λ r there. still-below w.sems s r _ (k.sem_room r there);
        set_room = λ c low. ask-room (sem_at w.sems s) c (k.set_room c low);
        srp_room = λ c low. ask-srp_room (sem_at w.sems s) c (k.srp_room c low);
        kept = λ r there. ask-kept r there (s == r) refl;
        sets = λ c low mine. ask-sets (protocol g s) (sem_at w.sems s) refl (k.kept s known) c low mine;
        srp_sets = λ c low mine. srp-sets_asked g rules e past made move w.sets k.srp_room k.srp_sets t s user c low mine h (protocol g s) (sem_at w.sems s) refl (k.kept s known);
      }

    -- a release
    module _ (h : sem_act e ≡ Frees t s) where
      free-room : (x : AnySem) (c : ℕ) → c < length w.sets.pcp → c < length (sets_freed t s x w.sets).pcp
      free-room (any.Fmlp l) c m = m
      free-room (any.Omlp l) c m = m
      free-room (any.Mpcp l) c m = m
      free-room (any.Pcp d) c m = still-below w.sets.pcp d.0 c _ m
      free-room (any.Srp d) c m = m

      free-srp_room : (x : AnySem) (c : ℕ) → c < length w.sets.srp → c < length (sets_freed t s x w.sets).srp
      free-srp_room (any.Fmlp l) c m = m
      free-srp_room (any.Omlp l) c m = m
      free-srp_room (any.Mpcp l) c m = m
      free-srp_room (any.Pcp d) c m = m
      free-srp_room (any.Srp d) c m = still-below w.sets.srp d.0 c _ m

      free-kept : (r : ℕ) → has r (sems g) ≡ true → (b : Bool) → s == r ≡ b → KeepsSem g r (e ∷ past) (protocol g r) (sem_at (slice_set w.sems s (freed t (sem_at w.sems s))) r)
      free-kept r there true m =
          let here : KeepsSem g s (e ∷ past) (protocol g s) (freed t (sem_at w.sems s)) = sem-frees g rules e past made move t s known h (protocol g s) (sem_at w.sems s) refl (k.kept s known) in
          subst (λ (n : ℕ). KeepsSem g n (e ∷ past) (protocol g n) (sem_at (slice_set w.sems s (freed t (sem_at w.sems s))) n)) (eqb-true s r m) (subst (λ (x : AnySem). KeepsSem g s (e ∷ past) (protocol g s) x) (sym (at-same w.sems s s (freed t (sem_at w.sems s)) _ (equal_self s) (k.sem_room s known))) here)
      free-kept r there false m =
          let quiet_here : at_sem r (sem_act e) ≡ Neither = rw h (sem-away-free r t s m) in
          subst (λ (x : AnySem). KeepsSem g r (e ∷ past) (protocol g r) x) (sym (at-other w.sems s r (freed t (sem_at w.sems s)) _ m)) (sem-quiet g rules e past made move r (protocol g r) (sem_at w.sems r) there quiet_here (k.kept r there))

      free-sets : (p : Protocol) (x : AnySem) → protocol g s ≡ p → KeepsSem g s past p x → (c : ℕ) → c < length g.setup.clusters → in_group g c ≡ true → KeepsSet g c (e ∷ past) (set_at (sets_freed t s x w.sets) c)
      free-sets Fmlp (any.Fmlp l) q v c low mine = set-quiet g rules e past made move c (set_at w.sets c) (k.sets c low mine) (rw h (other-free g c t s (rw q refl)))
      free-sets Omlp (any.Omlp l) q v c low mine = set-quiet g rules e past made move c (set_at w.sets c) (k.sets c low mine) (rw h (other-free g c t s (rw q refl)))
      free-sets Mpcp (any.Mpcp l) q v c low mine = set-quiet g rules e past made move c (set_at w.sets c) (k.sets c low mine) (rw h (other-free g c t s (rw q refl)))
      free-sets Pcp (any.Pcp d) q v c low mine = by_case (d.0 == c) refl
        where
          home_is : home g t ≡ d.0
          home_is = at_home (rw q refl) ∙ sym v

          by_case : (b : Bool) → d.0 == c ≡ b → KeepsSet g c (e ∷ past) (set_at (record w.sets { pcp = slice_set w.sets.pcp d.0 (set_freed t s (set_at w.sets d.0)) }) c)
          by_case true m =
              let same : d.0 ≡ c = eqb-true d.0 c m in
              let here : KeepsSet g c (e ∷ past) (set_freed t s (set_at w.sets c)) = set-frees g rules e past made move c (set_at w.sets c) (k.sets c low mine) t s h (home_is ∙ same) (rw q refl) in
              subst (λ x. KeepsSet g c (e ∷ past) x) (sym (at-same w.sets.pcp d.0 c (set_freed t s (set_at w.sets d.0)) _ m (k.set_room d.0 (subst (λ (n : ℕ). n < length g.setup.clusters) (sym same) low)))) (subst (λ (n : ℕ). KeepsSet g c (e ∷ past) (set_freed t s (set_at w.sets n))) (sym same) here)
          by_case false m =
              let quiet_here : at_cluster g c (sem_act e) ≡ Neither = rw h (away-free g c t s (rw home_is m)) in
              subst (λ x. KeepsSet g c (e ∷ past) x) (sym (at-other w.sets.pcp d.0 c (set_freed t s (set_at w.sets d.0)) _ m)) (set-quiet g rules e past made move c (set_at w.sets c) (k.sets c low mine) quiet_here)
      free-sets Srp (any.Srp d) q v c low mine = set-quiet g rules e past made move c (set_at w.sets c) (k.sets c low mine) (rw h (other-free g c t s (rw q refl)))
      free-sets p x q v c low mine = absurd v

      pub release : KeepsSems g (e ∷ past) (after_release t s w)
      release = record {
        sem_room = λ r there. still-below w.sems s r _ (k.sem_room r there);
        set_room = λ c low. free-room (sem_at w.sems s) c (k.set_room c low);
        srp_room = λ c low. free-srp_room (sem_at w.sems s) c (k.srp_room c low);
        kept = λ r there. free-kept r there (s == r) refl;
        sets = λ c low mine. free-sets (protocol g s) (sem_at w.sems s) refl (k.kept s known) c low mine;
        srp_sets = λ c low mine. srp-sets_freed g rules e past made move w.sets k.srp_room k.srp_sets t s user c low mine h (protocol g s) (sem_at w.sems s) refl (k.kept s known);
      }

pub quiet_keeps : QuietKeeps
quiet_keeps g e past valid made w h k = let last = last_move g made in quiet g (rules_of g valid) e past last.0 last.1 w k h

pub ask_keeps : AskKeeps
ask_keeps g e past valid made w t s h k =
    let last = last_move g made in
    let a : IsAsked g t s past = (next g (rules_of g valid) last.0 last.1).asked t s h in
    ask g (rules_of g valid) e past last.0 last.1 w k t s a.user a.known h

pub release_keeps : ReleaseKeeps
release_keeps g e past valid made w t s h k =
    let last = last_move g made in
    let owns : IsParty g t s = all_parties g (rules_of g valid) last.0 t s (holder-engaged g t s past ((next g (rules_of g valid) last.0 last.1).freed t s h)) in
    release g (rules_of g valid) e past last.0 last.1 w k t s owns.user owns.known h
