-- FMLP, OMLP and MPCP semaphores.
use Rattle.std.proofs.Common.{◌≡◌, ◌∙◌, ℕ, true, false, List, ◌∷◌, refl, sym, ap, eqb-true, length, subst, inl, inr, ◌⊎◌}
use Rattle.std.specs.Prelude.{◌==◌, slice_set}
use Rattle.rt_task.specs.declared.Protocol.{Protocol}
use Rattle.rt_task.specs.declared.Protocol.TheVariants.{Fmlp, Mpcp, Omlp, Pcp, Srp}
use Rattle.rt_rules.specs.declared.Key.{Key}
use Rattle.rt_rules.specs.KeyOrder.{higher}
use Rattle.rt_rules.specs.Numbers.{has, foremost, rest}
use Rattle.rt_rules.specs.Omlp.{OmlpState, omlp_after, handed_over}
use Rattle.rt_rules.specs.Mpcp.{mpcp_after, passed_on}
use Rattle.rt_rules.specs.SemState.{SemAct, SemState, Asks, Frees, Neither}
use Rattle.rt_model.specs.BaseKeys.{above, base_key}
use Rattle.rt_model.specs.Answers.{is_granted}
use Rattle.rt_model.specs.Group.{Group, cpus, protocol, sems}
use Rattle.rt_model.specs.Holders.{sem_state}
use Rattle.rt_model.specs.Reachable.{IsReachable}
use Rattle.rt_model.specs.Past.{Event, Past, sem_act}
use Rattle.rt_model.specs.Semaphores.{at_sem, cluster_of, omlp, mpcp}
use Rattle.rt_rules.proofs.BoolLaws.{clash, or_true, unless}
use Rattle.rt_rules.proofs.MemberLaws.{equal_self, has-append}
use Rattle.rt_laws.proofs.semaphores.Asked.{IsAsked}
use Rattle.rt_laws.proofs.jobs.Engaged.{waiting-engaged}
use Rattle.rt_laws.proofs.jobs.EngagedJobs.{all_active, engaged-key}
use Rattle.rt_laws.proofs.fmlp.FmlpState.{fmlp-step}
use Rattle.rt_laws.proofs.mpcp.MpcpState.{mpcp-is}
use Rattle.rt_laws.proofs.Moves.{IsMove}
use Rattle.rt_laws.proofs.Next.{next}
use Rattle.rt_laws.proofs.omlp.OmlpState.{omlp-sem_state}
use Rattle.rt_laws.proofs.Rules.{MeetsRules}
use Rattle.rt_laws.proofs.semaphores.Waiting.{waiting-step}
use Rattle.sem_laws.specs.KeptKeys as kept
use Rattle.sem_table.specs.declared.any_sem.AnySem.{AnySem}
use Rattle.sem_table.specs.declared.any_sem.AnySem.TheVariants as any
use Rattle.sem_table.specs.Asked.{asked}
use Rattle.sem_table.specs.Released.{freed}
use Rattle.sem_table.specs.KeptSems.{HasRoom, KeepsKeys, KeepsSem}
use Rattle.sem_table.proofs.Agree.{foremost-same}
use Rattle.sem_table.proofs.Lists.{at-other, at-same, still-below}

-- kept keys give the order of base keys
pub order-same : (g : Group) (past : Past) (keys : List Key) (xs : List ℕ) → ((u : ℕ) → has u xs ≡ true → kept.key_at keys u ≡ base_key g u past) → foremost (kept.above keys) xs ≡ foremost (above g past) xs
unfolding above
order-same g past keys xs h = foremost-same (kept.above keys) (λ t u. higher (base_key g t past) (base_key g u past)) xs (λ x y a b. rw (h x a, h y b) refl)

pub at_sem-ask : (s t : ℕ) → at_sem s (Asks t s) ≡ Asks t s
at_sem-ask s t = rw (equal_self s) refl

pub at_sem-free : (s t : ℕ) → at_sem s (Frees t s) ≡ Frees t s
at_sem-free s t = rw (equal_self s) refl

module _ (g : Group) (rules : MeetsRules g) (e : Event) (past : Past) (made : IsReachable g past) (move : IsMove g past e) where
  -- the key of who waits after the move is the one before it
  key-stays : (u s : ℕ) → has s (sems g) ≡ true → has u (sem_state g s (e ∷ past)).waiting ≡ true → base_key g u (e ∷ past) ≡ base_key g u past
  key-stays u s there h = engaged-key g rules u s e past (next g rules made move) (all_active g rules made) there (waiting-engaged g u s (e ∷ past) h)

  -- keys that are those of the waiting before, and of who asks
  pub keys-step : (s : ℕ) (keys keys' : List Key) → has s (sems g) ≡ true → KeepsKeys g s past keys → ((u : ℕ) → has u (sem_state g s past).waiting ≡ true → kept.key_at keys' u ≡ kept.key_at keys u) → ((u : ℕ) → sem_act e ≡ Asks u s → kept.key_at keys' u ≡ base_key g u past) → KeepsKeys g s (e ∷ past) keys'
  keys-step s keys keys' there before same asker u h = split (waiting-step g rules u s e past h) ∙ sym (key-stays u s there h)
    where
      split : (has u (sem_state g s past).waiting ≡ true) ⊎ (sem_act e ≡ Asks u s) × (is_granted g (protocol g s) s u past ≡ false) → kept.key_at keys' u ≡ base_key g u past
      split (inl m) = same u m ∙ before u m
      split (inr m) = asker u m.0

  omlp-is : (s : ℕ) (x : SemAct) → at_sem s (sem_act e) ≡ x → omlp g s (e ∷ past) ≡ omlp_after (cpus g (cluster_of g s)) (above g past) x (omlp g s past)
  unfolding omlp
  omlp-is s x h = ap (λ y. omlp_after (cpus g (cluster_of g s)) (above g past) y (omlp g s past)) h

  mpcp-after : (s : ℕ) (x : SemAct) → at_sem s (sem_act e) ≡ x → mpcp g s (e ∷ past) ≡ mpcp_after (above g past) x (mpcp g s past)
  unfolding mpcp
  mpcp-after s x h = ap (λ y. mpcp_after (above g past) y (mpcp g s past)) h

  no_ask : (s u : ℕ) → at_sem s (sem_act e) ≡ Neither → sem_act e ≡ Asks u s → ⊥
  no_ask s u h k = let m : at_sem s (Asks u s) ≡ Neither = rw k at h in let n : Asks u s ≡ Neither = sym (at_sem-ask s u) ∙ m in cc

  -- a move that does nothing at a semaphore
  pub sem-quiet : (s : ℕ) (p : Protocol) (k : AnySem) → has s (sems g) ≡ true → at_sem s (sem_act e) ≡ Neither → KeepsSem g s past p k → KeepsSem g s (e ∷ past) p k
  sem-quiet s Fmlp (any.Fmlp l) there h w = record { line = w.line ∙ sym (fmlp-step g s e past ∙ rw h refl); room = w.room }
  sem-quiet s Omlp (any.Omlp k) there h w = record { state = w.state ∙ sym (omlp-is s Neither h); cap = w.cap; room = w.room; keys = keys-step s k.keys k.keys there w.keys (λ u m. refl) (λ u m. absurd (no_ask s u h m)) }
  sem-quiet s Mpcp (any.Mpcp k) there h w = record { state = w.state ∙ sym (mpcp-after s Neither h); room = w.room; keys = keys-step s k.keys k.keys there w.keys (λ u m. refl) (λ u m. absurd (no_ask s u h m)) }
  sem-quiet s Pcp (any.Pcp c) there h w = w
  sem-quiet s Srp (any.Srp c) there h w = w
  sem-quiet s p k there h w = absurd w

  -- a request
  module _ (t s : ℕ) (h : sem_act e ≡ Asks t s) where
    a : IsAsked g t s past
    a = (next g rules made move).asked t s h

    here : at_sem s (sem_act e) ≡ Asks t s
    here = rw h (at_sem-ask s t)

    not_t : (u : ℕ) → has u (sem_state g s past).waiting ≡ true → t == u ≡ false
    not_t u m = unless (t == u) (λ k. let w : has t (sem_state g s past).waiting ≡ true = rw (eqb-true t u k) m in clash _ w (a.waits_none s a.known))

    asked-keys : (keys : List Key) → KeepsKeys g s past keys → HasRoom g s (length keys) → KeepsKeys g s (e ∷ past) (slice_set keys t (base_key g t past))
    asked-keys keys w room = keys-step s keys (slice_set keys t (base_key g t past)) a.known w (λ u m. at-other keys t u (base_key g t past) _ (not_t u m)) (λ u m. let same : t ≡ u = cc in subst (λ (v : ℕ). kept.key_at (slice_set keys t (base_key g t past)) v ≡ base_key g v past) same (at-same keys t t (base_key g t past) _ (equal_self t) (room t a.user)))

    asked-room : (keys : List Key) (key : Key) → HasRoom g s (length keys) → HasRoom g s (length (slice_set keys t key))
    asked-room keys key room u m = still-below keys t u key (room u m)

    pub sem-asks : (p : Protocol) (k : AnySem) → protocol g s ≡ p → KeepsSem g s past p k → KeepsSem g s (e ∷ past) p (asked t (base_key g t past) k)
    sem-asks Fmlp (any.Fmlp l) q w = record { line = rw w.line (sym (fmlp-step g s e past ∙ rw here refl)); room = w.room }
    sem-asks Omlp (any.Omlp k) q w = record {
      state = ap (λ (l : OmlpState). omlp_after k.cap (kept.above k.keys) (Asks t 0) l) w.state ∙ ap (λ (m : ℕ). omlp_after m (kept.above k.keys) (Asks t 0) (omlp g s past)) w.cap ∙ sym (omlp-is s (Asks t s) here);
      cap = w.cap;
      room = asked-room k.keys (base_key g t past) w.room;
      keys = asked-keys k.keys w.keys w.room;
    }
    sem-asks Mpcp (any.Mpcp k) q w = record {
      state = ap (λ (l : SemState). mpcp_after (kept.above k.keys) (Asks t 0) l) w.state ∙ sym (mpcp-after s (Asks t s) here);
      room = asked-room k.keys (base_key g t past) w.room;
      keys = asked-keys k.keys w.keys w.room;
    }
    sem-asks Pcp (any.Pcp c) q w = w
    sem-asks Srp (any.Srp c) q w = w
    sem-asks p k q w = absurd w

  -- a release
  module _ (t s : ℕ) (there : has s (sems g) ≡ true) (h : sem_act e ≡ Frees t s) where
    here_free : at_sem s (sem_act e) ≡ Frees t s
    here_free = rw h (at_sem-free s t)

    freed-keys : (keys : List Key) → KeepsKeys g s past keys → KeepsKeys g s (e ∷ past) keys
    freed-keys keys w = keys-step s keys keys there w (λ u m. refl) (λ u m. absurd cc)

    omlp-order : (p : protocol g s ≡ Omlp) (keys : List Key) → KeepsKeys g s past keys → foremost (kept.above keys) (omlp g s past).queue ≡ foremost (above g past) (omlp g s past).queue
    omlp-order p keys w = order-same g past keys (omlp g s past).queue (λ u m. w u (rw ((omlp-sem_state g s past p).0, has-append, m) (or_true (has u (rest (omlp g s past).fifo)))))

    mpcp-order : (p : protocol g s ≡ Mpcp) (keys : List Key) → KeepsKeys g s past keys → foremost (kept.above keys) (mpcp g s past).waiting ≡ foremost (above g past) (mpcp g s past).waiting
    mpcp-order p keys w = order-same g past keys (mpcp g s past).waiting (λ u m. w u (rw (mpcp-is g s past p) m))

    pub sem-frees : (p : Protocol) (k : AnySem) → protocol g s ≡ p → KeepsSem g s past p k → KeepsSem g s (e ∷ past) p (freed t k)
    sem-frees Fmlp (any.Fmlp l) q w = record { line = rw w.line (sym (fmlp-step g s e past ∙ rw here_free refl)); room = w.room }
    sem-frees Omlp (any.Omlp k) q w = record {
      state = ap (λ (l : OmlpState). omlp_after k.cap (kept.above k.keys) (Frees t 0) l) w.state ∙ ap (λ o. handed_over o (record (omlp g s past) { fifo = rest (omlp g s past).fifo })) (omlp-order q k.keys w.keys) ∙ sym (omlp-is s (Frees t s) here_free);
      cap = w.cap;
      room = w.room;
      keys = freed-keys k.keys w.keys;
    }
    sem-frees Mpcp (any.Mpcp k) q w = record {
      state = ap (λ (l : SemState). mpcp_after (kept.above k.keys) (Frees t 0) l) w.state ∙ ap (λ o. passed_on o (mpcp g s past).waiting) (mpcp-order q k.keys w.keys) ∙ sym (mpcp-after s (Frees t s) here_free);
      room = w.room;
      keys = freed-keys k.keys w.keys;
    }
    sem-frees Pcp (any.Pcp c) q w = w
    sem-frees Srp (any.Srp c) q w = w
    sem-frees p k q w = absurd w
