-- What the type keeps, over each of its calls.
use Rattle.std.proofs.Common.{◌≡◌, ℕ, ◌+◌, ◌^◌, ◌<◌, ◌≤◌, Bool, true, false, not, ◌≢◌, List, [], ◌∷◌, ◌++◌, length, set, refl, sym, ap, ◌∙◌, subst, arith, length-set, get_or-set_same, get_or-set_other, eqb-true}
use Rattle.std.specs.Prelude.{◌==◌, if◌then◌else◌, None, Some, find}
use Rattle.rt_rules.specs.declared.Key.{Key}
use Rattle.rt_rules.specs.KeyOrder.{higher, equal_keys}
use Rattle.rt_rules.specs.Numbers.{has}
use Rattle.rt_rules.specs.SemState.{Asks, Frees}
use Rattle.rt_rules.specs.Pcp.{TaskSem, PcpState, by_key, in_order, without_pair, passes, pcp_after}
use Rattle.rt_rules.proofs.PlacingLaws.{unless, or_true}
use Rattle.sem_laws.specs.KeptKeys.{key_at, above}
use Rattle.rt_rules.proofs.MemberLaws.{equal_self, has-append}
use Rattle.rt_rules.proofs.BoolLaws.{clash}
use Rattle.rt_rules.proofs.KeyLaws.{higher-falls}
use Rattle.pcp_sem.specs.Pairs.{has_pair, tasks_of}
use Rattle.pcp_sem.specs.Stack.{IsStack}
use Rattle.pcp_sem.specs.PcpKept.{PcpKept, above_ceiling}
use Rattle.pcp_sem.specs.IsPcp.{IsUser, IsSound, IsPcp}
use Rattle.pcp_sem.specs.AfterActs.{HoldsAfterActs}
use Rattle.rt_rules.proofs.PcpLaws.{stack-step}
use Rattle.rt_rules.proofs.PairLaws.{distinct-in_order, has_pair-in_order, pair-of}
use Rattle.pcp_sem.proofs.KeptOrder.{higher-differs, ranking-keys, length-in_order, in_order-rekeyed, in_order-push, tested-nobody, tested-first}
use Rattle.pcp_sem.proofs.Sound.{pair-task, sound-asks, sound-frees, stack-rekeyed, sound-rekeyed, few-held, few-waiting, one-more-waiting}
use Rattle.pcp_sem.proofs.Blockers.{waiting-blocked}

-- a task may ask
pub record MayAsk (ceilings keys : List Key) (l : PcpState) (t s : ℕ) (key : Key) : Type 0 where
  pub below : t < length keys
  pub known : s < length ceilings
  pub idle : has t (tasks_of l.waiting) ≡ false
  pub fresh : has_pair t s l.held ≡ false
  pub low : higher key (key_at ceilings s) ≡ false
  pub same : has t (tasks_of l.held) ≡ true → key_at keys t ≡ key

-- what is required of the set as contracts see it holds of its fields
pub may_ask : {v a : PcpKept} (t s : ℕ) (key : Key) → v ≡ a → MayAsk a.ceilings a.keys a.state t s key → MayAsk v.ceilings v.keys v.state t s key
may_ask t s key e may = subst (λ (v : PcpKept). MayAsk v.ceilings v.keys v.state t s key) (sym e) may

module _ (ceilings keys : List Key) (l : PcpState) (hc wc oc gc : ℕ) (ok : IsPcp ceilings keys l hc wc oc gc) where
  pub after_acts : (grants : List ℕ) → HoldsAfterActs (record { ceilings = ceilings; state = l; keys = keys; grants = grants })
  after_acts grants = record {
    one_holder = ok.sound.one_holder;
    stack = ok.stack;
    walks_end = λ t h. waiting-blocked ceilings keys t l ok.stack ok.sound h;
  }

  pub pcp-freed : (t s hc' oc' gc' : ℕ) → hc ≤ hc' → oc ≤ oc' → gc ≤ gc' → IsPcp ceilings keys (pcp_after (above keys) (above_ceiling keys ceilings) (Frees t s) l) hc' wc oc' gc'
  pcp-freed t s hc' oc' gc' h o g = record {
    stack = stack-step (above keys) (above_ceiling keys ceilings) (Frees t s) l ok.stack;
    sound = sound-frees ceilings keys t s l ok.sound;
    limit = ok.limit;
    held_room = omega (arith, ok.held_room);
    waiting_room = ok.waiting_room;
    order_room = omega (arith, ok.order_room);
    grants_room = omega (arith, ok.grants_room);
  }

  pub after_acts-freed : (t s : ℕ) (grants : List ℕ) → HoldsAfterActs (record { ceilings = ceilings; state = pcp_after (above keys) (above_ceiling keys ceilings) (Frees t s) l; keys = keys; grants = grants })
  after_acts-freed t s grants = record {
    one_holder = (sound-frees ceilings keys t s l ok.sound).one_holder;
    stack = stack-step (above keys) (above_ceiling keys ceilings) (Frees t s) l ok.stack;
    walks_end = λ u h. waiting-blocked ceilings keys u (pcp_after (above keys) (above_ceiling keys ceilings) (Frees t s) l) (stack-step (above keys) (above_ceiling keys ceilings) (Frees t s) l ok.stack) (sound-frees ceilings keys t s l ok.sound) h;
  }

  pub held-fits : length l.held ≤ length ceilings
  held-fits = few-held ceilings keys l ok.sound

  pub waiting-fits : length l.waiting ≤ length keys
  waiting-fits = few-waiting ceilings keys l ok.sound

  -- ---- the order

  -- who waits is not over the ceiling of what a task ahead of it asks for
  low-order : (p : TaskSem) (t : ℕ) → has_pair p.task p.sem (in_order (above keys) l.waiting) ≡ true → above keys t p.task ≡ false → above_ceiling keys ceilings t p.sem ≡ false
  low-order p t h under =
      let waits : has_pair p.task p.sem l.waiting ≡ true = rw has_pair-in_order at h in
      higher-falls (key_at ceilings p.sem) (key_at keys p.task) (key_at keys t) (ok.sound.awaited_by p.task p.sem waits).low under

  module _ (p : TaskSem) where
    pub freed-nobody : find (λ (q : TaskSem). passes (above_ceiling keys ceilings) (without_pair p l.held) q.task) (in_order (above keys) l.waiting) ≡ None → record { held = without_pair p l.held; waiting = l.waiting } ≡ pcp_after (above keys) (above_ceiling keys ceilings) (Frees p.task p.sem) l
    freed-nobody h = sym (tested-nobody (above keys) (ranking-keys keys) (above_ceiling keys ceilings) (in_order (above keys) l.waiting) (record { held = without_pair p l.held; waiting = l.waiting }) h)

    pub freed-first : (next : TaskSem) → find (λ (q : TaskSem). passes (above_ceiling keys ceilings) (without_pair p l.held) q.task) (in_order (above keys) l.waiting) ≡ Some next → record { held = next ∷ without_pair p l.held; waiting = without_pair next l.waiting } ≡ pcp_after (above keys) (above_ceiling keys ceilings) (Frees p.task p.sem) l
    freed-first next h = sym (tested-first (above keys) (ranking-keys keys) (above_ceiling keys ceilings) l.waiting (record { held = without_pair p l.held; waiting = l.waiting }) next (distinct-in_order (above keys) l.waiting ok.sound.waits_once) low-order h)

  -- where one passes there is one that waits
  pub one-waits : (f : TaskSem → Bool) (next : TaskSem) → find f (in_order (above keys) l.waiting) ≡ Some next → 0 < length keys
  one-waits f next h = omega (arith, waiting-fits, length-in_order (above keys) l.waiting, some (in_order (above keys) l.waiting) h)
    where
      some : (ps : List TaskSem) → find f ps ≡ Some next → 0 < length ps
      some [] e = cc
      some (q ∷ ps) e = omega arith

  module _ (t s : ℕ) (key : Key) (may : MayAsk ceilings keys l t s key) where
    abbrev new : List Key
    new = set keys t key

    own : key_at (set keys t key) t ≡ key
    own = get_or-set_same keys t key _ may.below

    others : (u : ℕ) → u == t ≡ false → key_at (set keys t key) u ≡ key_at keys u
    others u e = get_or-set_other keys t u key _ (λ m. let k : u == t ≡ true = rw (m, equal_self t) in clash _ k e)

    held-same : (u r : ℕ) → has_pair u r l.held ≡ true → key_at (set keys t key) u ≡ key_at keys u
    held-same u r h = by_case (u == t) refl
      where
        by_case : (b : Bool) → u == t ≡ b → key_at (set keys t key) u ≡ key_at keys u
        by_case true e = let a : u ≡ t = eqb-true u t e in let m : has t (tasks_of l.held) ≡ true = subst (λ n. has n (tasks_of l.held) ≡ true) a (pair-task u r l.held h) in ap (key_at (set keys t key)) a ∙ own ∙ sym (may.same m) ∙ ap (key_at keys) (sym a)
        by_case false e = others u e

    waiting-same : (u r : ℕ) → has_pair u r l.waiting ≡ true → key_at (set keys t key) u ≡ key_at keys u
    waiting-same u r h = others u (unless _ (λ e. let a : u ≡ t = eqb-true u t e in let m : has t (tasks_of l.waiting) ≡ true = subst (λ n. has n (tasks_of l.waiting) ≡ true) a (pair-task u r l.waiting h) in clash _ m may.idle))

    waiting-key : (u : ℕ) → has u (tasks_of l.waiting) ≡ true → key_at (set keys t key) u ≡ key_at keys u
    waiting-key u h = let q = pair-of u l.waiting h in waiting-same u q.0 q.1

    -- the key that the task gives changes no order of those that wait
    pub order-same : in_order (above keys) l.waiting ≡ in_order (above (set keys t key)) l.waiting
    order-same = in_order-rekeyed (above keys) (above (set keys t key)) l.waiting (λ u v h k. rw (waiting-key u h, waiting-key v k))

    -- and its request is put in by its key
    pub order-pushed : ((u : ℕ) → u ≢ t → has u (tasks_of l.held ++ tasks_of l.waiting) ≡ true → equal_keys (key_at keys u) key ≡ false) → by_key (above (set keys t key)) (record { task = t; sem = s }) (in_order (above keys) l.waiting) ≡ in_order (above (set keys t key)) (l.waiting ++ record { task = t; sem = s } ∷ [])
    order-pushed apart = ap (by_key (above (set keys t key)) (record { task = t; sem = s })) order-same ∙ sym (in_order-push (above (set keys t key)) (ranking-keys (set keys t key)) (record { task = t; sem = s }) l.waiting differ)
      where
        member : (u : ℕ) → has u (tasks_of l.waiting) ≡ true → has u (tasks_of l.held ++ tasks_of l.waiting) ≡ true
        member u h = has-append u (tasks_of l.held) (tasks_of l.waiting) ∙ rw h (or_true (has u (tasks_of l.held)))

        differ : (u : ℕ) → has u (tasks_of l.waiting) ≡ true → above (set keys t key) u t ≡ not (above (set keys t key) t u)
        differ u h =
            let others_key : equal_keys (key_at keys u) key ≡ false = apart u (λ e. let m : has t (tasks_of l.waiting) ≡ true = subst (λ n. has n (tasks_of l.waiting) ≡ true) e h in clash _ m may.idle) (member u h) in
            rw (waiting-key u h, own) (higher-differs (key_at keys u) key others_key)

    user : IsUser ceilings (set keys t key) t s
    user = record {
      task = omega (arith, length-set keys t key, may.below);
      sem = may.known;
      low = ap (λ k. higher k (key_at ceilings s)) own ∙ may.low;
    }

    stack-new : IsStack (above_ceiling (set keys t key) ceilings) l
    stack-new = stack-rekeyed ceilings keys (set keys t key) l held-same waiting-same ok.stack

    sound-new : IsSound ceilings (set keys t key) l
    sound-new = sound-rekeyed ceilings keys (set keys t key) l (length-set keys t key) held-same waiting-same ok.sound

    asked : (m : PcpState) (hc' wc' oc' : ℕ) → pcp_after (above (set keys t key)) (above_ceiling (set keys t key) ceilings) (Asks t s) l ≡ m → hc ≤ hc' → wc ≤ wc' → oc ≤ oc' → IsPcp ceilings (set keys t key) m hc' wc' oc' gc
    asked m hc' wc' oc' e h w o = record {
      stack = subst (λ n. IsStack (above_ceiling (set keys t key) ceilings) n) e (stack-step (above (set keys t key)) (above_ceiling (set keys t key) ceilings) (Asks t s) l stack-new);
      sound = subst (λ n. IsSound ceilings (set keys t key) n) e (sound-asks ceilings (set keys t key) t s l sound-new user may.idle may.fresh);
      limit = omega (arith, length-set keys t key, ok.limit);
      held_room = omega (arith, length-set keys t key, ok.held_room);
      waiting_room = omega (arith, length-set keys t key, ok.waiting_room);
      order_room = omega (arith, length-set keys t key, ok.order_room);
      grants_room = omega (arith, length-set keys t key, ok.grants_room);
    }

    pub pcp-granted : (hc' : ℕ) → passes (above_ceiling (set keys t key) ceilings) l.held t ≡ true → hc ≤ hc' → IsPcp ceilings (set keys t key) (record { held = record { task = t; sem = s } ∷ l.held; waiting = l.waiting }) hc' wc oc gc
    pcp-granted hc' pass h = asked _ hc' wc oc (ap (λ b. if b then record l { held = record { task = t; sem = s } ∷ l.held } else record l { waiting = l.waiting ++ record { task = t; sem = s } ∷ [] }) pass) h (omega arith) (omega arith)

    pub pcp-queued : (wc' oc' : ℕ) → passes (above_ceiling (set keys t key) ceilings) l.held t ≡ false → wc ≤ wc' → oc ≤ oc' → IsPcp ceilings (set keys t key) (record { held = l.held; waiting = l.waiting ++ record { task = t; sem = s } ∷ [] }) hc wc' oc' gc
    pcp-queued wc' oc' pass w o = asked _ hc wc' oc' (ap (λ b. if b then record l { held = record { task = t; sem = s } ∷ l.held } else record l { waiting = l.waiting ++ record { task = t; sem = s } ∷ [] }) pass) (omega arith) w o

    pub held-position : length l.held < hc
    held-position = omega (arith, held-fits, ok.held_room)

    pub waiting-position : length l.waiting < wc
    waiting-position = omega (arith, one-more-waiting ceilings keys t l ok.sound may.below may.idle, ok.waiting_room)

    pub order-position : length (in_order (above keys) l.waiting) < oc
    order-position = omega (arith, one-more-waiting ceilings keys t l ok.sound may.below may.idle, length-in_order (above keys) l.waiting, ok.order_room)

-- a set whose semaphores nobody holds
pub pcp-empty : (ceilings keys : List Key) (hc wc oc gc : ℕ) → length keys < 2 ^ 32 → length ceilings + length keys ≤ hc → length keys ≤ wc → length keys ≤ oc → length keys ≤ gc → IsPcp ceilings keys (record { held = []; waiting = [] }) hc wc oc gc
pcp-empty ceilings keys hc wc oc gc limit h w o g = record {
  stack = record { stacked = tt; blocked = λ t s m. cc };
  sound = record { held_by = λ t s m. cc; awaited_by = λ t s m. cc; one_holder = tt; waits_once = tt; unheld = λ t s m. refl };
  limit = limit;
  held_room = h;
  waiting_room = w;
  order_room = o;
  grants_room = g;
}
