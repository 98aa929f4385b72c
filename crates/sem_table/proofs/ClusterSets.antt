-- The PCP semaphores of a cluster.
use Rattle.std.proofs.Common.{◌≡◌, ◌∙◌, ◌||◌, ℕ, Bool, true, false, List, [], ◌∷◌, refl, sym, ap, eqb-true, subst, inl, inr, ◌⊎◌}
use Rattle.std.specs.Prelude.{◌==◌, slice_set}
use Rattle.rt_task.specs.RuleWords.{stands_under}
use Rattle.rt_task.specs.declared.PluginKind.{PluginKind}
use Rattle.rt_task.specs.declared.PluginKind.TheVariants as plugins
use Rattle.rt_task.specs.declared.Protocol.{Protocol}
use Rattle.rt_task.specs.declared.Protocol.TheVariants.{Pcp}
use Rattle.rt_rules.specs.declared.Key.{Key}
use Rattle.rt_rules.specs.Numbers.{has}
use Rattle.rt_rules.specs.Pcp.{PcpState, passes, pcp_after}
use Rattle.rt_rules.specs.SemState.{SemAct, Asks, Frees, Neither}
use Rattle.rt_model.specs.BaseKeys.{above, base_key, key_by}
use Rattle.rt_model.specs.Ceilings.{above_ceiling, at_cluster, ceiling, is_pcp, pcp}
use Rattle.rt_model.specs.Group.{Group, home, protocol, users}
use Rattle.rt_model.specs.Reachable.{IsReachable}
use Rattle.rt_model.specs.Past.{Event, Past, sem_act}
use Rattle.rt_rules.proofs.BoolLaws.{and_false, clash, or_true, unless}
use Rattle.rt_rules.proofs.MemberLaws.{equal_self}
use Rattle.rt_rules.proofs.PcpLaws.{pcp-stands, stands_for}
use Rattle.rt_laws.proofs.semaphores.Asked.{IsAsked}
use Rattle.rt_laws.proofs.GroupLaws.{user-task}
use Rattle.rt_laws.proofs.Moves.{IsMove}
use Rattle.rt_laws.proofs.Next.{next}
use Rattle.rt_laws.proofs.pcp.PcpState.{IsPcpKept, IsUser, pcp_kept, pcp-first, pcp-holder, pcp-waiting, sem-home, user-not_over}
use Rattle.rt_rules.specs.Numbers.{first, is}
use Rattle.rt_rules.specs.Pcp.{of_sem}
use Rattle.rt_rules.specs.KeyOrder.{higher}
use Rattle.rt_model.specs.Holders.{sem_state}
use Rattle.rt_model.specs.Semaphores.{cluster_of}
use Rattle.rt_rules.proofs.PairLaws.{pair-of}
use Rattle.rt_changes.proofs.Apart.{asks-holds_not}
use Rattle.std.proofs.lemmas.List.{length-set}
use Rattle.pcp_sem.specs.IsPcp.{IsSound}
use Rattle.pcp_sem.proofs.Sound.{sound-asks, sound-frees, sound-rekeyed}
use Rattle.rt_laws.proofs.Rules.{MeetsRules}
use Rattle.sem_laws.specs.KeptKeys as kept
use Rattle.pcp_sem.specs.Pairs.{has_pair, tasks_of}
use Rattle.pcp_sem.specs.PcpKept as words
use Rattle.sem_table.specs.Asked.{set_asked}
use Rattle.sem_table.specs.Released.{set_freed}
use Rattle.sem_table.specs.KeptSems.{IsPcpOf, KeepsSet}
use Rattle.sem_table.proofs.Agree.{Each, asks-same, frees-same, passes-same}
use Rattle.sem_table.proofs.Lists.{at-other, at-same, still-below, each-there}

-- under a plugin with PCP semaphores a base key does not depend on the past
pub fixed-key : (g : Group) (t : ℕ) (past : Past) → stands_under Pcp g.setup.plugin ≡ true → base_key g t past ≡ base_key g t []
unfolding base_key key_by
fixed-key g t past h = by_plugin g.setup.plugin h
  where
    by_plugin : (p : PluginKind) → stands_under Pcp p ≡ true → key_by g p t past ≡ key_by g p t []
    by_plugin plugins.PFp k = refl
    by_plugin plugins.GsnEdf k = cc
    by_plugin plugins.CEdf k = cc
    by_plugin plugins.PsnEdf k = cc
    by_plugin plugins.PRes k = cc

pub is-pcp : (p : Protocol) → is_pcp p ≡ true → p ≡ Pcp
is-pcp Pcp h = refl
is-pcp p h = cc

-- ---- at the cluster of the act, and at any other

pub cluster-ask : (g : Group) (c t s : ℕ) → home g t ≡ c → is_pcp (protocol g s) ≡ true → at_cluster g c (Asks t s) ≡ Asks t s
unfolding at_cluster
cluster-ask g c t s h k = rw (h, equal_self c, k) refl

pub cluster-free : (g : Group) (c t s : ℕ) → home g t ≡ c → is_pcp (protocol g s) ≡ true → at_cluster g c (Frees t s) ≡ Frees t s
unfolding at_cluster
cluster-free g c t s h k = rw (h, equal_self c, k) refl

pub away-ask : (g : Group) (c t s : ℕ) → home g t == c ≡ false → at_cluster g c (Asks t s) ≡ Neither
unfolding at_cluster
away-ask g c t s h = rw h refl

pub away-free : (g : Group) (c t s : ℕ) → home g t == c ≡ false → at_cluster g c (Frees t s) ≡ Neither
unfolding at_cluster
away-free g c t s h = rw h refl

pub other-ask : (g : Group) (c t s : ℕ) → is_pcp (protocol g s) ≡ false → at_cluster g c (Asks t s) ≡ Neither
unfolding at_cluster
other-ask g c t s h = rw (h, and_false (home g t == c)) refl

pub other-free : (g : Group) (c t s : ℕ) → is_pcp (protocol g s) ≡ false → at_cluster g c (Frees t s) ≡ Neither
unfolding at_cluster
other-free g c t s h = rw (h, and_false (home g t == c)) refl

-- a task's key and a semaphore's ceiling are those of the rules
abbrev pub IsGood : Group → List Key → List Key → ℕ → ℕ → Type 0
IsGood g keys ceilings t s = (kept.key_at keys t ≡ base_key g t []) × (kept.key_at ceilings s ≡ ceiling g s)

good-before : (g : Group) (keys ceilings : List Key) (t s u r : ℕ) → IsGood g keys ceilings t s → IsGood g keys ceilings u r → kept.above keys t u ≡ above g [] t u
unfolding above
good-before g keys ceilings t s u r a b = rw (a.0, b.0) refl

good-over : (g : Group) (keys ceilings : List Key) (t s u r : ℕ) → IsGood g keys ceilings t s → IsGood g keys ceilings u r → words.above_ceiling keys ceilings t r ≡ above_ceiling g t r
unfolding above_ceiling
good-over g keys ceilings t s u r a b = rw (a.0, b.1) refl

under : (g : Group) (t s : ℕ) → has t (users g s) ≡ true → higher (base_key g t []) (ceiling g s) ≡ false
unfolding above_ceiling
under g t s h = user-not_over g t s h

module _ (g : Group) (rules : MeetsRules g) (e : Event) (past : Past) (made : IsReachable g past) (move : IsMove g past e) (c : ℕ) (p : words.PcpKept) (w : KeepsSet g c past p) where
  pcp-is : (x : SemAct) → at_cluster g c (sem_act e) ≡ x → pcp g c (e ∷ past) ≡ pcp_after (above g []) (above_ceiling g) x (pcp g c past)
  unfolding pcp
  pcp-is x h = ap (λ y. pcp_after (above g []) (above_ceiling g) y (pcp g c past)) h

  pub set-quiet : at_cluster g c (sem_act e) ≡ Neither → KeepsSet g c (e ∷ past) p
  set-quiet h =
      let same : pcp g c (e ∷ past) ≡ pcp g c past = pcp-is Neither h in
      record {
        state = w.state ∙ sym same;
        known = w.known;
        ceilings = w.ceilings;
        room = w.room;
        keys = λ t s m. w.keys t s (rw same at m);
        sound = w.sound;
      }

  -- the pairs are those of users
  pcp-of : (t s : ℕ) → IsUser g c t s → IsPcpOf g c s
  pcp-of t s u = let d = user-task g s t u.user in record { known = rules.is_known t s d.0 d.1; of_pcp = u.of_pcp; home_is = sem-home g rules c t s u }

  user-ceiling : (t s : ℕ) → IsUser g c t s → kept.key_at p.ceilings s ≡ ceiling g s
  user-ceiling t s u = w.ceilings s (pcp-of t s u)

  k : IsPcpKept g c (pcp g c past)
  k = pcp_kept g rules c made

  module _ (t s : ℕ) (h : sem_act e ≡ Asks t s) (at_home : home g t ≡ c) (q : is_pcp (protocol g s) ≡ true) where
    a : IsAsked g t s past
    a = (next g rules made move).asked t s h

    here : at_cluster g c (sem_act e) ≡ Asks t s
    here = rw h (cluster-ask g c t s at_home q)

    sem-is-here : cluster_of g s ≡ c
    sem-is-here = sem-home g rules c t s (record { user = a.user; at_home = at_home; of_pcp = q })

    own : IsPcpOf g c s
    own = record { known = a.known; of_pcp = q; home_is = sem-is-here }

    key : Key
    key = base_key g t past

    keys' : List Key
    keys' = slice_set p.keys t (base_key g t past)

    fixed : base_key g t past ≡ base_key g t []
    fixed = fixed-key g t past (subst (λ (x : Protocol). stands_under x g.setup.plugin ≡ true) (is-pcp (protocol g s) q) (rules.is_allowed s a.known))

    new-key : (u : ℕ) → (t == u ≡ false → kept.key_at p.keys u ≡ base_key g u []) → kept.key_at (slice_set p.keys t (base_key g t past)) u ≡ base_key g u []
    new-key u old = by_case (t == u) refl
      where
        by_case : (b : Bool) → t == u ≡ b → kept.key_at (slice_set p.keys t (base_key g t past)) u ≡ base_key g u []
        by_case true m = at-same p.keys t u (base_key g t past) _ m (w.room s t own a.member) ∙ fixed ∙ ap (λ (v : ℕ). base_key g v []) (eqb-true t u m)
        by_case false m = at-other p.keys t u (base_key g t past) _ m ∙ old m

    pub asker : IsGood g (slice_set p.keys t (base_key g t past)) p.ceilings t s
    asker = (new-key t (λ m. absurd (clash _ (equal_self t) m)), w.ceilings s own)

    pub held : Each (IsGood g (slice_set p.keys t (base_key g t past)) p.ceilings) (pcp g c past).held
    held = each-there (IsGood g (slice_set p.keys t (base_key g t past)) p.ceilings) (pcp g c past).held (λ u r m. (new-key u (λ n. w.keys u r (rw m refl)), user-ceiling u r (k.held u r m)))

    pub idle : has t (tasks_of p.state.waiting) ≡ false
    idle = rw w.state (unless _ (λ m. waits (pair-of t (pcp g c past).waiting m)))
      where
        waits : (r : ℕ) × (has_pair t r (pcp g c past).waiting ≡ true) → ⊥
        waits m =
            let u : IsUser g c t m.0 = k.waiting t m.0 m.1 in
            let d = user-task g m.0 t u.user in
            let there : has t (sem_state g m.0 past).waiting ≡ true = pcp-waiting g t m.0 past u.of_pcp ∙ ap (λ (n : ℕ). has_pair t m.0 (pcp g n past).waiting) (sem-home g rules c t m.0 u) ∙ m.1 in
            clash _ there (a.waits_none m.0 (rules.is_known t m.0 d.0 d.1))

    pub fresh : has_pair t s p.state.held ≡ false
    fresh = rw w.state (unless _ (λ m. clash _ (ap (is t) (pcp-holder g s past q ∙ ap (λ (n : ℕ). first (of_sem s (pcp g n past).held)) sem-is-here) ∙ pcp-first g c t s (pcp g c past) k m) (asks-holds_not g t s past a)))

    pub low : higher (base_key g t past) (kept.key_at p.ceilings s) ≡ false
    low = rw (fixed, w.ceilings s own) (under g t s a.user)

    sound_asked : IsSound p.ceilings (slice_set p.keys t (base_key g t past)) (pcp_after (kept.above (slice_set p.keys t (base_key g t past))) (words.above_ceiling (slice_set p.keys t (base_key g t past)) p.ceilings) (Asks t s) p.state)
    sound_asked =
        sound-asks p.ceilings (slice_set p.keys t (base_key g t past)) t s p.state
        (sound-rekeyed p.ceilings p.keys (slice_set p.keys t (base_key g t past)) p.state (length-set p.keys t (base_key g t past)) (λ u r m. agrees u r (rw m refl)) (λ u r m. agrees u r (rw m (or_true (has_pair u r p.state.held)))) w.sound)
        (record { task = still-below p.keys t t (base_key g t past) (w.room s t own a.member); sem = w.known s own; low = ap (λ (x : Key). higher x (kept.key_at p.ceilings s)) (new-key t (λ m. absurd (clash _ (equal_self t) m)) ∙ sym fixed) ∙ low })
        idle fresh
      where
        agrees : (u r : ℕ) → has_pair u r p.state.held || has_pair u r p.state.waiting ≡ true → kept.key_at (slice_set p.keys t (base_key g t past)) u ≡ kept.key_at p.keys u
        agrees u r m = let old : kept.key_at p.keys u ≡ base_key g u [] = w.keys u r (subst (λ (l : PcpState). has_pair u r l.held || has_pair u r l.waiting ≡ true) w.state m) in new-key u (λ n. old) ∙ sym old

    pub passes-as-rules : passes (words.above_ceiling (slice_set p.keys t (base_key g t past)) p.ceilings) p.state.held t ≡ passes (above_ceiling g) (pcp g c past).held t
    passes-as-rules = ap (λ (l : PcpState). passes (words.above_ceiling (slice_set p.keys t (base_key g t past)) p.ceilings) l.held t) w.state ∙ passes-same (IsGood g (slice_set p.keys t (base_key g t past)) p.ceilings) (kept.above (slice_set p.keys t (base_key g t past))) (above g []) (words.above_ceiling (slice_set p.keys t (base_key g t past)) p.ceilings) (above_ceiling g) (good-before g _ _) (good-over g _ _) t s (pcp g c past).held asker held

    pub set-asks : KeepsSet g c (e ∷ past) (set_asked t (base_key g t past) s p)
    set-asks = record {
      state = ap (λ (l : PcpState). pcp_after (kept.above (slice_set p.keys t (base_key g t past))) (words.above_ceiling (slice_set p.keys t (base_key g t past)) p.ceilings) (Asks t s) l) w.state ∙ asks-same (IsGood g (slice_set p.keys t (base_key g t past)) p.ceilings) (kept.above (slice_set p.keys t (base_key g t past))) (above g []) (words.above_ceiling (slice_set p.keys t (base_key g t past)) p.ceilings) (above_ceiling g) (good-before g _ _) (good-over g _ _) t s (pcp g c past) asker held ∙ sym (pcp-is (Asks t s) here);
      known = w.known;
      ceilings = w.ceilings;
      room = λ r u m n. still-below p.keys t u (base_key g t past) (w.room r u m n);
      sound = sound_asked;
      keys = λ u r m. new-key u (λ n. split u r n (pcp-stands (above g []) (above_ceiling g) u r (Asks t s) (pcp g c past) (subst (λ (l : PcpState). stands_for u r l ≡ true) (pcp-is (Asks t s) here) m)));
    }
      where
        split : (u r : ℕ) → t == u ≡ false → (stands_for u r (pcp g c past) ≡ true) ⊎ (Asks t s ≡ Asks u r) → kept.key_at p.keys u ≡ base_key g u []
        split u r n (inl m) = w.keys u r m
        split u r n (inr m) = let same : t ≡ u = cc in absurd (clash _ (equal_self u) (rw same at n))

  module _ (t s : ℕ) (h : sem_act e ≡ Frees t s) (at_home : home g t ≡ c) (q : is_pcp (protocol g s) ≡ true) where
    here_free : at_cluster g c (sem_act e) ≡ Frees t s
    here_free = rw h (cluster-free g c t s at_home q)

    pub set-frees : KeepsSet g c (e ∷ past) (set_freed t s p)
    set-frees = record {
      state = ap (λ (l : PcpState). pcp_after (kept.above p.keys) (words.above_ceiling p.keys p.ceilings) (Frees t s) l) w.state ∙ frees-same (IsGood g p.keys p.ceilings) (kept.above p.keys) (above g []) (words.above_ceiling p.keys p.ceilings) (above_ceiling g) (good-before g _ _) (good-over g _ _) t s (pcp g c past) (each-there (IsGood g p.keys p.ceilings) (pcp g c past).held (λ u r m. (w.keys u r (rw m refl), user-ceiling u r (k.held u r m)))) (each-there (IsGood g p.keys p.ceilings) (pcp g c past).waiting (λ u r m. (w.keys u r (rw m (or_true (has_pair u r (pcp g c past).held))), user-ceiling u r (k.waiting u r m)))) ∙ sym (pcp-is (Frees t s) here_free);
      known = w.known;
      ceilings = w.ceilings;
      room = w.room;
      sound = sound-frees p.ceilings p.keys t s p.state w.sound;
      keys = λ u r m. split u r (pcp-stands (above g []) (above_ceiling g) u r (Frees t s) (pcp g c past) (subst (λ (l : PcpState). stands_for u r l ≡ true) (pcp-is (Frees t s) here_free) m));
    }
      where
        split : (u r : ℕ) → (stands_for u r (pcp g c past) ≡ true) ⊎ (Frees t s ≡ Asks u r) → kept.key_at p.keys u ≡ base_key g u []
        split u r (inl m) = w.keys u r m
        split u r (inr m) = cc
