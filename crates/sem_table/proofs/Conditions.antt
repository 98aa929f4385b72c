-- What is told of a semaphore, and when a request or a release is allowed.
use Rattle.std.proofs.Common.{◌≡◌, ◌∙◌, ◌<◌, ◌≤◌, ◌&&◌, ◌||◌, ◌++◌, ℕ, Bool, true, false, List, [], ◌∷◌, refl, sym, ap, eqb-true, arith, length, subst, inl, inr, ◌⊎◌}
use Rattle.std.specs.Prelude.{◌==◌, Some, nat_le, if◌then◌else◌, filter, not}
use Rattle.std.specs.List.{list_any}
use Rattle.std.proofs.lemmas.Bool.{leb-false}
use Rattle.std.proofs.lemmas.List.{length-map}
use Rattle.rt_base.specs.declared.TheConstants.{MOST_HELD}
use Rattle.rt_task.specs.RuleWords.{is_stacked, stands_under}
use Rattle.rt_task.specs.declared.Protocol.{Protocol}
use Rattle.rt_task.specs.declared.Protocol.TheVariants.{Fmlp, Mpcp, Omlp, Pcp, Srp}
use Rattle.rt_rules.specs.declared.Key.{Key}
use Rattle.rt_rules.specs.KeyOrder.{equal_keys}
use Rattle.rt_rules.specs.Distinct.{IsDistinct}
use Rattle.rt_rules.specs.Numbers.{first, has, is}
use Rattle.rt_rules.specs.Omlp.{omlp_sem_state}
use Rattle.rt_rules.specs.Pcp.{TaskSem, PcpState, of_sem, pcp_sem_state}
use Rattle.rt_rules.specs.SemState.{SemState, in_line, Asks, Frees}
use Rattle.rt_model.specs.Answers.{nests}
use Rattle.rt_model.specs.BaseKeys.{base_key}
use Rattle.rt_model.specs.Ceilings.{is_pcp, pcp}
use Rattle.rt_model.specs.Group.{Group, home, in_group, protocol, sems, tasks, users}
use Rattle.rt_rules.specs.Srp.{newest_held, srp_sem_state}
use Rattle.rt_model.specs.Holders.{holder, holds, last_granted, sem_state, sem_state_by, stack_by}
use Rattle.rt_model.specs.Reachable.{IsReachable}
use Rattle.rt_model.specs.Past.{Event, Past, sem_act}
use Rattle.rt_model.specs.Semaphores.{cluster_of}
use Rattle.rt_model.specs.StackPolicy.{srp}
use Rattle.rt_rules.proofs.BoolLaws.{both, clash, either, neither, or_true, unless}
use Rattle.rt_rules.proofs.DistinctLaws.{length-distinct}
use Rattle.rt_rules.proofs.MemberLaws.{equal_self, has-appended, has-filter, is-some, some-is}
use Rattle.rt_rules.proofs.PairLaws.{pair-of}
use Rattle.rt_rules.proofs.NumberLaws.{distinct-numbers_from}
use Rattle.rt_rules.proofs.PlacingLaws.{distinct-filter}
use Rattle.rt_laws.proofs.semaphores.Asked.{IsAsked}
use Rattle.rt_laws.proofs.jobs.BaseKeyLaws.{minor-is}
use Rattle.rt_laws.proofs.jobs.Engaged.{holder-engaged}
use Rattle.rt_laws.proofs.fmlp.FmlpState.{fmlp-fresh}
use Rattle.rt_laws.proofs.GroupLaws.{user-home, user-task, pcp-shares}
use Rattle.rt_laws.proofs.semaphores.Holding.{holds-one}
use Rattle.rt_laws.proofs.Moves.{IsMove, clock_moves, cpu_acts, last_move}
use Rattle.rt_laws.proofs.Next.{next}
use Rattle.rt_laws.proofs.pcp.PcpState.{IsPcpKept, IsUser, pcp_kept, pcp-first, pcp-holder, sem-home}
use Rattle.rt_laws.proofs.srp.SrpState.{IsSrpUser, free_when_asked, srp_users}
use Rattle.rt_laws.proofs.semaphores.Requests.{frees}
use Rattle.rt_laws.proofs.Rules.{MeetsRules}
use Rattle.rt_laws.proofs.ValidSets.{rules_of}
use Rattle.rt_changes.proofs.Acting.{IsParty, all_parties}
use Rattle.rt_changes.proofs.Apart.{asks-holds_not}
use Rattle.sem_laws.specs.KeptKeys as kept
use Rattle.pcp_sem.specs.Pairs.{has_pair, tasks_of, sems_of}
use Rattle.pcp_sem.proofs.Sound.{sem-pair}
use Rattle.pcp_sem.specs.PcpKept as words
use Rattle.sem_table.specs.declared.any_sem.AnySem.{AnySem}
use Rattle.sem_table.specs.declared.any_sem.AnySem.TheVariants as any
use Rattle.sem_table.specs.Conditions.{IsApart, IsPcpRequest, IsSrpRequest, MayAskBy, MayReleaseBy}
use Rattle.srp_sem.specs.SrpKept.{SrpKept}
use Rattle.sem_table.specs.SemTable.{SemTable, sem_at, set_at, srp_set_at}
use Rattle.sem_table.specs.Told.{state_by}
use Rattle.sem_table.specs.Fitting.{AskFits, ReleaseFits}
use Rattle.sem_table.specs.KeptSems.{HasRoom, IsPcpOf, IsSrpOf, KeepsKeys, KeepsSem, KeepsSems, KeepsSet, KeepsSrp}
use Rattle.sem_table.specs.Telling.{TellsState}
use Rattle.sem_table.proofs.ClusterSets.{fixed-key, idle, fresh, low}
use Rattle.sem_table.proofs.Stacks.{holds-pair, stack-pcp, stack-srp}

-- ---- what is told

pub group-of : (g : Group) (t : ℕ) → has t (tasks g) ≡ true → in_group g (home g t) ≡ true
unfolding tasks
group-of g t h = (both _ _ (rw has-filter at h)).1

module _ (g : Group) (rules : MeetsRules g) (past : Past) (w : SemTable) (k : KeepsSems g past w) (s u : ℕ) (known : has s (sems g) ≡ true) (user : has u (users g s) ≡ true) where
  in-group : in_group g (home g u) ≡ true
  in-group = group-of g u (user-task g s u user).0

  pub set-here : is_pcp (protocol g s) ≡ true → (c : ℕ) → c ≡ cluster_of g s → KeepsSet g (cluster_of g s) past (set_at w.sets c)
  set-here q c e =
      let h : home g u ≡ cluster_of g s = user-home g rules s u (pcp-shares g.setup.plugin (protocol g s) q) user in
      rw e (subst (λ (n : ℕ). KeepsSet g n past (set_at w.sets n)) h (k.sets (home g u) (rules.has_home u (user-task g s u user).0) in-group))

  pub srp-here : protocol g s ≡ Srp → (c : ℕ) → c ≡ cluster_of g s → KeepsSrp g (cluster_of g s) past (srp_set_at w.sets c)
  srp-here q c e =
      let h : home g u ≡ cluster_of g s = user-home g rules s u (rw q) user in
      rw e (subst (λ (n : ℕ). KeepsSrp g n past (srp_set_at w.sets n)) h (k.srp_sets (home g u) (rules.has_home u (user-task g s u user).0) in-group))

  state-is : (p : Protocol) (x : AnySem) → protocol g s ≡ p → KeepsSem g s past p x → state_by w.sets s x ≡ sem_state_by g p s past
  unfolding sem_state_by
  state-is Fmlp (any.Fmlp l) q v = ap in_line v.line
  state-is Omlp (any.Omlp l) q v = ap omlp_sem_state v.state
  state-is Mpcp (any.Mpcp l) q v = v.state
  state-is Pcp (any.Pcp c) q v = ap (pcp_sem_state s) (set-here (rw q refl) c.0 v).state
  state-is Srp (any.Srp c) q v = ap (srp_sem_state s) (srp-here q c.0 v).held
  state-is p x q v = absurd v

  pub tells : (p : Protocol) (x : AnySem) → protocol g s ≡ p → KeepsSem g s past p x → state_by w.sets s x ≡ sem_state g s past
  unfolding sem_state
  tells p x q v = state-is p x q v ∙ ap (λ (y : Protocol). sem_state_by g y s past) (sym q)

pub tells_state : TellsState
tells_state g past valid made w s u known user k = tells g (rules_of g valid) past w k s u known user (protocol g s) (sem_at w.sems s) refl (k.kept s known)

-- ---- lists

has-sems : (r : ℕ) (f : TaskSem → Bool) (ps : List TaskSem) → has r (sems_of (filter f ps)) ≡ true → has r (sems_of ps) ≡ true
has-sems r f [] h = h
has-sems r f (p ∷ ps) h = by_case (f p) h (has-sems r f ps)
  where
    by_case : (b : Bool) → has r (sems_of (if b then p ∷ filter f ps else filter f ps)) ≡ true → (has r (sems_of (filter f ps)) ≡ true → has r (sems_of ps) ≡ true) → r == p.sem || has r (sems_of ps) ≡ true
    by_case true m rec = split (either (r == p.sem) _ m)
      where
        split : (r == p.sem ≡ true) ⊎ (has r (sems_of (filter f ps)) ≡ true) → r == p.sem || has r (sems_of ps) ≡ true
        split (inl n) = rw n refl
        split (inr n) = rw (rec n) (or_true (r == p.sem))
    by_case false m rec = rw (rec m) (or_true (r == p.sem))

pub distinct-sems : (f : TaskSem → Bool) (ps : List TaskSem) → IsDistinct (sems_of ps) → IsDistinct (sems_of (filter f ps))
distinct-sems f [] d = tt
distinct-sems f (p ∷ ps) d = by_case (f p) (distinct-sems f ps d.1)
  where
    by_case : (b : Bool) → IsDistinct (sems_of (filter f ps)) → IsDistinct (sems_of (if b then p ∷ filter f ps else filter f ps))
    by_case true rec = (unless _ (λ m. clash _ (has-sems p.sem f ps m) d.0), rec)
    by_case false rec = rec

own-sems : (t r : ℕ) (ps : List TaskSem) → has r (sems_of (filter (λ (p : TaskSem). p.task == t) ps)) ≡ true → has_pair t r ps ≡ true
own-sems t r [] h = h
own-sems t r (p ∷ ps) h = by_case (p.task == t) refl h (own-sems t r ps)
  where
    by_case : (b : Bool) → p.task == t ≡ b → has r (sems_of (if b then p ∷ filter (λ (x : TaskSem). x.task == t) ps else filter (λ (x : TaskSem). x.task == t) ps)) ≡ true → (has r (sems_of (filter (λ (x : TaskSem). x.task == t) ps)) ≡ true → has_pair t r ps ≡ true) → (t == p.task && r == p.sem) || has_pair t r ps ≡ true
    by_case true e m rec = split (either (r == p.sem) _ m)
      where
        split : (r == p.sem ≡ true) ⊎ (has r (sems_of (filter (λ (x : TaskSem). x.task == t) ps)) ≡ true) → (t == p.task && r == p.sem) || has_pair t r ps ≡ true
        split (inl n) = let same : p.task ≡ t = eqb-true p.task t e in rw (same, equal_self t, n) refl
        split (inr n) = rw (rec n) (or_true (t == p.task && r == p.sem))
    by_case false e m rec = rw (rec m) (or_true (t == p.task && r == p.sem))

pub distinct-holds : (g : Group) (t : ℕ) (past : Past) → IsDistinct (holds g t past)
unfolding holds sems
distinct-holds g t past = distinct-filter (λ r. is t (holder g r past)) _ (distinct-numbers_from 1 (length g.setup.sems))

few-of : (g : Group) (s t : ℕ) (past : Past) → nests g Pcp s t past ≡ false → length (holds g t past) < 8
unfolding nests
few-of g s t past h = let q = neither (list_any (λ r. not (is_pcp (protocol g r))) (holds g t past)) _ h in let n = neither (has s (holds g t past)) (nat_le MOST_HELD (length (holds g t past))) q.1 in leb-false MOST_HELD (length (holds g t past)) n.1

few-of_srp : (g : Group) (s t : ℕ) (past : Past) → nests g Srp s t past ≡ false → length (holds g t past) < 8
unfolding nests
few-of_srp g s t past h = leb-false MOST_HELD (length (holds g t past)) (neither (has s (holds g t past)) _ h).1

-- ---- keys of different tasks

differ : (g : Group) (past : Past) (x : Protocol) → stands_under x g.setup.plugin ≡ true → (t u : ℕ) → t == u ≡ false → (k l : Key) → k ≡ base_key g u past → l ≡ base_key g t past → equal_keys k l ≡ false
differ g past x h t u ne k l a b = unless _ (λ m. same (both (k.band == l.band) _ m).1)
  where
    same : k.major == l.major && k.minor == l.minor ≡ true → ⊥
    same m =
        let e : k.minor ≡ l.minor = eqb-true k.minor l.minor (both (k.major == l.major) (k.minor == l.minor) m).1 in
        let i : k.minor ≡ u = ap (λ (y : Key). y.minor) a ∙ minor-is g u past x h in
        let j : l.minor ≡ t = ap (λ (y : Key). y.minor) b ∙ minor-is g t past x h in
        let same : t ≡ u = sym j ∙ sym e ∙ i in
        clash _ (equal_self u) (rw same at ne)

-- ---- a request

module _ (g : Group) (rules : MeetsRules g) (e : Event) (past : Past) (made : IsReachable g past) (move : IsMove g past e) (w : SemTable) (k : KeepsSems g past w) (t s : ℕ) (h : sem_act e ≡ Asks t s) where
  a : IsAsked g t s past
  a = (next g rules made move).asked t s h

  allowed : stands_under (protocol g s) g.setup.plugin ≡ true
  allowed = rules.is_allowed s a.known

  waiting-other : (u : ℕ) → has u (sem_state g s past).waiting ≡ true → t == u ≡ false
  waiting-other u m = unless _ (λ n. let v : has t (sem_state g s past).waiting ≡ true = rw (eqb-true t u n) m in clash _ v (a.waits_none s a.known))

  apart : (keys : List Key) (l : SemState) → l ≡ sem_state g s past → KeepsKeys g s past keys → HasRoom g s (length keys) → IsApart keys l t (base_key g t past)
  unfolding holder
  apart keys l same v room = record {
    below = room t a.user;
    free_hands = λ m. clash _ (some-is t (holder g s past) (holder-is ∙ m)) (asks-holds_not g t s past a);
    outside = rw same (a.waits_none s a.known);
    apart = λ u m. let n : has u (sem_state g s past).waiting ≡ true = subst (λ (y : SemState). has u y.waiting ≡ true) same m in differ g past (protocol g s) allowed t u (waiting-other u n) (kept.key_at keys u) (base_key g t past) (v u n) refl;
  }
    where
      holder-is : holder g s past ≡ l.holder
      holder-is = ap (λ (y : SemState). y.holder) (sym same)

  pcp-request : protocol g s ≡ Pcp → (p : words.PcpKept) → KeepsSet g (cluster_of g s) past p → IsPcpRequest p t (base_key g t past) s
  pcp-request q p v = record {
    below = v.room s t own a.member;
    known = v.known s own;
    idle = idle g rules e past made move (cluster_of g s) p v t s h at-home (rw q refl);
    fresh = fresh g rules e past made move (cluster_of g s) p v t s h at-home (rw q refl);
    few = omega (arith, few-of g s t past (rw q at a.unnested), fewer, length-map (filter (λ (x : TaskSem). x.task == t) p.state.held) (λ (q : TaskSem). q.sem));
    low = low g rules e past made move (cluster_of g s) p v t s h at-home (rw q refl);
    equal = λ m. own-key (pair-of t p.state.held m);
    apart = λ u ne m. other u (unless _ (λ n. ne (sym (eqb-true t u n)))) m;
  }
    where
      own : IsPcpOf g (cluster_of g s) s
      own = record { known = a.known; of_pcp = rw q refl; home_is = refl }

      at-home : home g t ≡ cluster_of g s
      at-home = user-home g rules s t (pcp-shares g.setup.plugin (protocol g s) (rw q refl)) a.user

      all : IsPcpKept g (cluster_of g s) (pcp g (cluster_of g s) past)
      all = pcp_kept g rules (cluster_of g s) made

      fixed : (u : ℕ) → base_key g u past ≡ base_key g u []
      fixed u = fixed-key g u past (rw q at allowed)

      own-key : (r : ℕ) × (has_pair t r p.state.held ≡ true) → kept.key_at p.keys t ≡ base_key g t past
      own-key m = v.keys t m.0 (rw (subst (λ (l : PcpState). has_pair t m.0 l.held ≡ true) v.state m.1) refl) ∙ sym (fixed t)

      owned : (r : ℕ) → has r (sems_of (filter (λ (x : TaskSem). x.task == t) p.state.held)) ≡ true → has r (holds g t past) ≡ true
      owned r m =
          let there : has_pair t r (pcp g (cluster_of g s) past).held ≡ true = subst (λ (l : PcpState). has_pair t r l.held ≡ true) v.state (own-sems t r p.state.held m) in
          let u : IsUser g (cluster_of g s) t r = all.held t r there in
          let d = user-task g r t u.user in
          holds-one g t r past (rules.is_known t r d.0 d.1) (ap (is t) (pcp-holder g r past u.of_pcp ∙ ap (λ (n : ℕ). first (of_sem r (pcp g n past).held)) (sem-home g rules (cluster_of g s) t r u)) ∙ pcp-first g (cluster_of g s) t r (pcp g (cluster_of g s) past) all there)

      fewer : length (sems_of (filter (λ (x : TaskSem). x.task == t) p.state.held)) ≤ length (holds g t past)
      fewer = length-distinct _ _ (distinct-sems (λ (x : TaskSem). x.task == t) p.state.held v.sound.one_holder) (distinct-holds g t past) owned

      other : (u : ℕ) → t == u ≡ false → has u (tasks_of p.state.held ++ tasks_of p.state.waiting) ≡ true → equal_keys (kept.key_at p.keys u) (base_key g t past) ≡ false
      other u ne m = differ g past (protocol g s) allowed t u ne (kept.key_at p.keys u) (base_key g t past) (key-of (has-appended u (tasks_of p.state.held) (tasks_of p.state.waiting) m) ∙ sym (fixed u)) refl
        where
          key-of : (has u (tasks_of p.state.held) ≡ true) ⊎ (has u (tasks_of p.state.waiting) ≡ true) → kept.key_at p.keys u ≡ base_key g u []
          key-of (inl n) = let r = pair-of u p.state.held n in v.keys u r.0 (rw (subst (λ (l : PcpState). has_pair u r.0 l.held ≡ true) v.state r.1) refl)
          key-of (inr n) = let r = pair-of u p.state.waiting n in v.keys u r.0 (rw (subst (λ (l : PcpState). has_pair u r.0 l.waiting ≡ true) v.state r.1) (or_true (has_pair u r.0 (pcp g (cluster_of g s) past).held)))

  srp-request : protocol g s ≡ Srp → (p : SrpKept) → KeepsSrp g (cluster_of g s) past p → IsSrpRequest p t s
  srp-request q p v = record {
    below = v.room s t own a.member;
    known = v.known s own;
    free = unless _ (λ m. let n = sem-pair s p.held m in free_when_asked g rules made move t s q h (cluster_of g s) n.0 (subst (λ ps. has_pair n.0 s ps ≡ true) v.held n.1));
    few = omega (arith, few-of_srp g s t past (rw q at a.unnested), fewer, length-map (filter (λ (x : TaskSem). x.task == t) p.held) (λ (q : TaskSem). q.sem));
  }
    where
      own : IsSrpOf g (cluster_of g s) s
      own = record { known = a.known; of_srp = rw q; home_is = refl }

      owned : (r : ℕ) → has r (sems_of (filter (λ (x : TaskSem). x.task == t) p.held)) ≡ true → has r (holds g t past) ≡ true
      owned r m =
          let there : has_pair t r (srp g (cluster_of g s) past) ≡ true = subst (λ ps. has_pair t r ps ≡ true) v.held (own-sems t r p.held m) in
          let u : IsSrpUser g (cluster_of g s) t r = srp_users g rules (cluster_of g s) made t r there in
          let d = user-task g r t u.user in
          holds-one g t r past (rules.is_known t r d.0 d.1) (holds-pair g rules (cluster_of g s) past made t r there)

      fewer : length (sems_of (filter (λ (x : TaskSem). x.task == t) p.held)) ≤ length (holds g t past)
      fewer = length-distinct _ _ (distinct-sems (λ (x : TaskSem). x.task == t) p.held v.once) (distinct-holds g t past) owned

  pub ask-fits : (p : Protocol) (x : AnySem) → protocol g s ≡ p → KeepsSem g s past p x → MayAskBy t (base_key g t past) s w.sets x
  ask-fits Fmlp (any.Fmlp l) q v = record { below = v.room t a.user; outside = rw v.line (fmlp-fresh g s t past q a) }
  ask-fits Omlp (any.Omlp l) q v = apart l.keys (omlp_sem_state l.state) (tells g rules past w k s t a.known a.user Omlp (any.Omlp l) q v) v.keys v.room
  ask-fits Mpcp (any.Mpcp l) q v = apart l.keys l.state (tells g rules past w k s t a.known a.user Mpcp (any.Mpcp l) q v) v.keys v.room
  ask-fits Pcp (any.Pcp c) q v = pcp-request q (set_at w.sets c.0) (set-here g rules past w k s t a.known a.user (rw q refl) c.0 v)
  ask-fits Srp (any.Srp c) q v = srp-request q (srp_set_at w.sets c.0) (srp-here g rules past w k s t a.known a.user q c.0 v)
  ask-fits p x q v = absurd v

pub ask_fits : AskFits
ask_fits g e past valid made w t s h k =
    let last = last_move g made in
    let a : IsAsked g t s past = (next g (rules_of g valid) last.0 last.1).asked t s h in
    ask-fits g (rules_of g valid) e past last.0 last.1 w k t s h (protocol g s) (sem_at w.sems s) refl (k.kept s a.known)

-- ---- a release

module _ (g : Group) (rules : MeetsRules g) (past : Past) (w : SemTable) (k : KeepsSems g past w) (t s : ℕ) (owns : IsParty g t s) (held : is t (holder g s past) ≡ true) where
  holder-is : (l : SemState) → l ≡ sem_state g s past → l.holder ≡ Some t
  unfolding holder
  holder-is l same = ap (λ (y : SemState). y.holder) same ∙ is-some t (holder g s past) held

  newest-is : (held : List TaskSem) → held ≡ stack_by g g.setup.plugin (home g t) past → is s (last_granted g t past) ≡ true → newest_held held t ≡ Some s
  unfolding last_granted
  newest-is held same m = rw same (is-some s (last_granted g t past) m)

  pub release-fits : (is_stacked (protocol g s) ≡ true → is s (last_granted g t past) ≡ true) → (p : Protocol) (x : AnySem) → protocol g s ≡ p → KeepsSem g s past p x → MayReleaseBy t s w.sets x
  release-fits m Fmlp (any.Fmlp l) q v = holder-is (in_line l.line) (tells g rules past w k s t owns.known owns.user Fmlp (any.Fmlp l) q v)
  release-fits m Omlp (any.Omlp l) q v = holder-is (omlp_sem_state l.state) (tells g rules past w k s t owns.known owns.user Omlp (any.Omlp l) q v)
  release-fits m Mpcp (any.Mpcp l) q v = holder-is l.state (tells g rules past w k s t owns.known owns.user Mpcp (any.Mpcp l) q v)
  release-fits m Pcp (any.Pcp c) q v =
      let set : KeepsSet g (cluster_of g s) past (set_at w.sets c.0) = set-here g rules past w k s t owns.known owns.user (rw q refl) c.0 v in
      let at-home : home g t ≡ cluster_of g s = user-home g rules s t (pcp-shares g.setup.plugin (protocol g s) (rw q refl)) owns.user in
      record { known = set.known s (record { known = owns.known; of_pcp = rw q refl; home_is = refl }); last = newest-is (set_at w.sets c.0).state.held (ap (λ (l : PcpState). l.held) (set.state ∙ ap (λ (n : ℕ). pcp g n past) (sym at-home)) ∙ sym (stack-pcp g (home g t) past (rw q at (rules.is_allowed s owns.known)))) (m (rw q refl)) }
  release-fits m Srp (any.Srp c) q v =
      let set : KeepsSrp g (cluster_of g s) past (srp_set_at w.sets c.0) = srp-here g rules past w k s t owns.known owns.user q c.0 v in
      let at-home : home g t ≡ cluster_of g s = user-home g rules s t (rw q) owns.user in
      record { known = set.known s (record { known = owns.known; of_srp = rw q; home_is = refl }); last = newest-is (srp_set_at w.sets c.0).held (set.held ∙ ap (λ (n : ℕ). srp g n past) (sym at-home) ∙ sym (stack-srp g (home g t) past (rw q at (rules.is_allowed s owns.known)))) (m (rw q)) }
  release-fits m p x q v = absurd v

newest-of : (g : Group) (past : Past) (e : Event) → IsMove g past e → (t s : ℕ) → sem_act e ≡ Frees t s → is_stacked (protocol g s) ≡ true → is s (last_granted g t past) ≡ true
newest-of g past e (clock_moves tick) t s h q = cc
newest-of g past e (cpu_acts cpu act) t s h q = (frees g cpu act past t s h).newest q

pub release_fits : ReleaseFits
release_fits g e past valid made w t s h k =
    let last = last_move g made in
    let held : is t (holder g s past) ≡ true = (next g (rules_of g valid) last.0 last.1).freed t s h in
    let owns : IsParty g t s = all_parties g (rules_of g valid) last.0 t s (holder-engaged g t s past held) in
    release-fits g (rules_of g valid) past w k t s owns held (newest-of g past e last.1 t s h) (protocol g s) (sem_at w.sems s) refl (k.kept s owns.known)
