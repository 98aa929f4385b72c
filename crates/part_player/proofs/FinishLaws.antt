-- What is kept once a step is ended, and once a grant is taken.
use Rattle.std.proofs.Common.{◌≡◌, ℕ, ◌+◌, ◌<◌, ◌≤◌, Bool, true, false, List, [], ◌∷◌, ◌++◌, length, Option, None, Some, refl, sym, ap, ◌∙◌, subst, arith, ltb-true, append-nil, append_assoc, length-append}
use Rattle.std.proofs.Math.Seq.{get_or-append_seam}
use Rattle.std.proofs.lemmas.Option.{slice_get-get_or}
use Rattle.std.specs.Prelude.{if◌then◌else◌, is_some, nat_lt, not, slice_get, slice_index_or}
use Rattle.rt_base.specs.declared.Ask.{Ask}
use Rattle.rt_base.specs.declared.Ask.TheVariants as asks
use Rattle.rt_base.specs.declared.SemNo.{SemNo}
use Rattle.rt_base.specs.declared.TaskNo.{TaskNo}
use Rattle.rt_base.specs.declared.TheConstants.{MOST_CPUS}
use Rattle.rt_task.specs.declared.Act.{Act}
use Rattle.rt_task.specs.declared.Act.TheVariants as acts
use Rattle.rt_task.specs.declared.Op.{Op}
use Rattle.rt_task.specs.declared.Op.TheVariants as ops
use Rattle.rt_task.specs.declared.Parts.{Parts}
use Rattle.rt_task.specs.declared.Step.{Step}
use Rattle.rt_rules.specs.declared.history.Reply.{Reply}
use Rattle.rt_rules.specs.declared.history.Reply.TheVariants as replies
use Rattle.rt_model.specs.Answers.{link_reply, work_answer}
use Rattle.rt_model.specs.Group.{Group, tasks}
use Rattle.rt_model.specs.Runs.{runs}
use Rattle.rt_plays.specs.Plays.{group_with}
use Rattle.rt_plays.proofs.GroupLimits.{processor-low}
use Rattle.mpcp_ceilings.specs.Ceilings.{AreCeilings, CeilingTable}
use Rattle.split_facts.specs.Kept.{IsPlainPart}
use Rattle.rt_rules.specs.Numbers.{has, same}
use Rattle.split_rules.specs.PartAnswers.{answer, asked, do_answer, end_answer, irq_answer, lock_answer, op_answer, unlock_answer}
use Rattle.split_rules.specs.PartHistories.{IsEntryAt, after, past_from, past_of, steps_of}
use Rattle.split_rules.specs.PartPast.{PartPast, moves}
use Rattle.split_rules.specs.PartSems.{awaiting, holding}
use Rattle.split_rules.specs.Partitions.{group_no, part_group}
use Rattle.split_rules.specs.declared.SplitEntry.{SplitEntry}
use Rattle.split_laws.proofs.RunLaws.{entry_joins}
use Rattle.split_laws.proofs.UserLaws.{legal_past_has_users}
use Rattle.split_counts.specs.Room.{ComesNext}
use Rattle.part_state.specs.States.{IsAt, PartState, after_act, after_take, opened, with_clock}
use Rattle.part_state.proofs.KeptLaws.{kept_after_act, kept_after_clock, kept_after_take, kept_at_opening}
use Rattle.part_player.specs.Kept.{IsKept, stands_at}
use Rattle.part_player.specs.Players.{IsAnswered, IsOfSplit, entry_of, moved, own_script, take_entry}
use Rattle.part_player.specs.inside.Openings.{tasks_at}
use Rattle.part_player.specs.inside.Replies.{can_come, comes_to_irq, comes_to_op}
use Rattle.part_player.proofs.OwnParts.{not-enforced, own-inside, own-tasks}
use Rattle.part_player.proofs.OwnSteps.{IsOwnStep, next-step, steps-pushed}

-- ---- which replies come to an act

module _ (g : Group) (q : ℕ) (a : Ask) (past : PartPast) where
  work-comes : (b c : Bool) → comes_to_op (if b then replies.Spent else (if c then replies.NoBudget else replies.Done)) ≡ true
  work-comes true c = refl
  work-comes false true = refl
  work-comes false false = refl

  lock-comes : (b c : Bool) (x : Ask) → comes_to_op (if not b then replies.NotDeclared else (if c then replies.Nested else asked x)) ≡ true
  lock-comes false c x = refl
  lock-comes true true x = refl
  lock-comes true false asks.Granted = refl
  lock-comes true false asks.Queued = refl

  either-comes : (b : Bool) (r s : Reply) → comes_to_op r ≡ true → comes_to_op s ≡ true → comes_to_op (if b then r else s) ≡ true
  either-comes true r s h k = h
  either-comes false r s h k = k

  op-comes : (op : Op) (t : ℕ) → comes_to_op (op_answer g q op t a past) ≡ true
  unfolding op_answer lock_answer unlock_answer end_answer work_answer
  op-comes ops.Work t = work-comes _ _
  op-comes (ops.Lock s) t = lock-comes _ _ a
  op-comes (ops.Unlock s) t = either-comes (same (holding t past) (Some s.0)) replies.Done replies.NotHeld refl refl
  op-comes ops.End t = either-comes (is_some (holding t past)) replies.Holding replies.Done refl refl
  op-comes (ops.Sleep n) t = refl
  op-comes ops.NpOn t = refl
  op-comes ops.NpOff t = refl

  link-comes : (o : Option ℕ) → comes_to_irq (link_reply g o) ≡ true
  unfolding link_reply
  link-comes None = refl
  link-comes (Some t) = refl

  irq-comes : (b : Bool) (o : Option ℕ) → comes_to_irq (if b then link_reply g o else replies.Quiet) ≡ true
  irq-comes true o = link-comes o
  irq-comes false o = refl

  do-comes : (op : Op) (o : Option ℕ) → comes_to_op (do_answer g q op o a past) ≡ true
  unfolding do_answer
  do-comes op None = refl
  do-comes op (Some t) = op-comes op t

  pub answer-comes : (act : Act) → can_come act (answer g q act a past) ≡ true
  unfolding answer irq_answer
  answer-comes acts.Tick = refl
  answer-comes acts.Irq = irq-comes _ _
  answer-comes (acts.Arrive t) = refl
  answer-comes (acts.Do op) = do-comes op (runs q (moves past))

-- ---- where the state stands

next-there : (steps : List Step) (xs : List Step) (x : Step) (rest : List Step) → steps ≡ xs ++ x ∷ rest → slice_get steps (length xs) ≡ Some x
next-there steps xs x rest e = ap (λ ys. slice_get ys (length xs)) e ∙ slice_get-get_or (xs ++ x ∷ rest) (length xs) x (omega (arith, length-append xs (x ∷ rest))) ∙ ap Some (get_or-append_seam xs x rest x)

module _ (p : Parts) (q : ℕ) (es : List SplitEntry) (begun : Bool) (steps : List Step) (played : ℕ) (own : List ℕ) (c : CeilingTable) (state : PartState)
    (kept : IsKept p q es begun steps played own c state) where
  abbrev g : Group
  g = part_group p q

  abbrev past : PartPast
  past = past_of g q es

  pub stands-still : begun ≡ false → IsAt g past state
  stands-still e = subst (λ (b : Bool). IsAt g (stands_at b (slice_get steps played) past) state) e kept.at

  pub next-is : (x : Step) → ComesNext (own_script p q) q es x → slice_get steps played ≡ Some x
  next-is x next = ap (λ n. slice_get steps n) kept.played_is ∙ next-there steps (steps_of q es) x next.rest (kept.steps_are ∙ next.parts)

  pub stands-begun : (x : Step) → ComesNext (own_script p q) q es x → begun ≡ true → IsAt g (moved x past) state
  stands-begun x next e =
      subst (λ (o : Option Step). IsAt g (stands_at true o past) state) (next-is x next)
      (subst (λ (b : Bool). IsAt g (stands_at b (slice_get steps played) past) state) e kept.at)

  -- ---- a step is begun
  more-none : (more : List Step) → own_script p q ≡ steps_of q es ++ more → length steps ≤ played → own_script p q ≡ steps_of q es
  more-none [] e h = e ∙ append-nil (steps_of q es)
  more-none (y ∷ rest) e h =
      let a = ap length (kept.steps_are ∙ e) in
      let b = length-append (steps_of q es) (y ∷ rest) in
      let d = kept.played_is in
      absurd (omega (arith, a, b, d, h))

  pub all-played : length steps ≤ played → own_script p q ≡ steps_of q es
  all-played = more-none kept.history.begins.0 kept.history.begins.1

  more-some : (more : List Step) → own_script p q ≡ steps_of q es ++ more → (x : Step) → played < length steps → x ≡ slice_index_or steps played x
      → ComesNext (own_script p q) q es x
  more-some [] e x low is =
      let a = ap length (kept.steps_are ∙ e) in
      let b = length-append (steps_of q es) [] in
      let d = kept.played_is in
      absurd (omega (arith, a, b, d, low))
  more-some (y ∷ rest) e x low is =
      let same : x ≡ y = is ∙ ap (λ n. slice_index_or steps n x) kept.played_is ∙ ap (λ l. slice_index_or l (length (steps_of q es)) x) (kept.steps_are ∙ e) ∙ get_or-append_seam (steps_of q es) y rest x in
      record { rest = rest; parts = e ∙ ap (λ (z : Step). steps_of q es ++ z ∷ rest) (sym same) }

  pub comes-next : (x : Step) → played < length steps → x ≡ slice_index_or steps played x → ComesNext (own_script p q) q es x
  comes-next = more-some kept.history.begins.0 kept.history.begins.1

  pub at-moved : (x : Step) → begun ≡ false → IsAt g (moved x past) (with_clock x.tick.0 state)
  at-moved x still = kept_after_clock g x.tick.0 past state (stands-still still)

  -- the next step, found in the script, with the clock moved to its tick
  pub record HasMoved (x : Step) (state' : PartState) : Type 0 where
    pub next : ComesNext (own_script p q) q es x
    pub step : IsOwnStep g q x
    pub at : IsAt g (moved x past) state'

  pub has-moved : (x : Step) (steps' : List Step) (state' : PartState) → begun ≡ false → steps' ≡ steps
      → (true ≡ nat_lt played (length steps')) × (x ≡ slice_index_or steps' played x) → state' ≡ with_clock x.tick.0 state → HasMoved x state'
  has-moved x steps' state' still same lookup clock =
      let low : played < length steps = subst (λ l. played < length l) same (ltb-true _ _ (sym lookup.0)) in
      let next = comes-next x low (lookup.1 ∙ ap (λ l. slice_index_or l played x) same) in
      record {
        next = next;
        step = next-step p q kept.history.of_split es x next;
        at = subst (λ (s : PartState). IsAt g (moved x past) s) (sym clock) (at-moved x still);
      }

  pub begun-kept : (x : Step) → ComesNext (own_script p q) q es x → (state' : PartState) → IsAt g (moved x past) state' → IsKept p q es true steps played own c state'
  begun-kept x next state' at' = record {
    history = kept.history;
    steps_are = kept.steps_are;
    played_is = kept.played_is;
    own_are = kept.own_are;
    ceilings_are = kept.ceilings_are;
    at = subst (λ (o : Option Step). IsAt g (stands_at true o past) state') (sym (next-is x next)) at';
  }

  -- ---- a step is ended
  module _ (x : Step) (reply : Reply) (next : ComesNext (own_script p q) q es x) (answered : IsAnswered g q past x reply) where
    of : IsOfSplit p q
    of = kept.history.of_split

    pub step : IsOwnStep g q x
    step = next-step p q of es x next

    pub reply-comes : can_come x.act reply ≡ true
    reply-comes = ap (can_come x.act) answered.1 ∙ answer-comes g q answered.0 (moved x past) x.act

    at-entry : IsEntryAt g q past (entry_of x reply)
    at-entry = answered

    plain : IsPlainPart g q (moved x past)
    unfolding runs
    plain =
        let users = legal_past_has_users g q es kept.history.legal in
        record {
          inside = own-inside p q of;
          runs_in = users.runs_in;
          plain = λ t h. not-enforced p of.valid of.split (group_no p q) t (users.runs_in t h);
        }

    at-after : begun ≡ true → IsAt g (past_of g q (es ++ entry_of x reply ∷ [])) (after_act p.tasks q x.act reply state)
    unfolding after
    at-after e =
        subst (λ (past' : PartPast). IsAt g past' (after_act p.tasks q x.act reply state)) (sym (entry_joins g q es (entry_of x reply) kept.history.legal at-entry).past_is)
        (kept_after_act g q x.act answered.0 reply (moved x past) state plain answered.1 (stands-begun x next e))

    step-is : steps_of q (entry_of x reply ∷ []) ≡ x ∷ []
    step-is = ap (λ n. record { cpu = record { 0 = n }; tick = x.tick; act = x.act } ∷ []) (sym step.cpu)

    begins : own_script p q ≡ steps_of q (es ++ entry_of x reply ∷ []) ++ next.rest
    begins =
        next.parts ∙ sym (append_assoc (steps_of q es) (x ∷ []) next.rest)
        ∙ ap (λ (l : List Step). l ++ next.rest) (ap (λ (l : List Step). steps_of q es ++ l) (sym step-is) ∙ sym (steps-pushed g q es (entry_of x reply)))

    one-more : played + 1 ≡ length (steps_of q (es ++ entry_of x reply ∷ []))
    one-more =
        let a = ap length (steps-pushed g q es (entry_of x reply) ∙ ap (λ (l : List Step). steps_of q es ++ l) step-is) in
        let b = length-append (steps_of q es) (x ∷ []) in
        let d = kept.played_is in
        omega (arith, a, b, d)

    pub finished : begun ≡ true → IsKept p q (es ++ entry_of x reply ∷ []) false steps (played + 1) own c (after_act p.tasks q x.act reply state)
    finished e = record {
      history = record {
        of_split = of;
        legal = (entry_joins g q es (entry_of x reply) kept.history.legal at-entry).legal;
        begins = (next.rest, begins);
      };
      steps_are = kept.steps_are;
      played_is = one-more;
      own_are = kept.own_are;
      ceilings_are = kept.ceilings_are;
      at = at-after e;
    }

  -- ---- a grant is taken
  module _ (s : SemNo) (n : ℕ) (t : TaskNo) (waits : awaiting t.0 past ≡ Some s.0) (still : begun ≡ false) where
    abbrev e : SplitEntry
    e = take_entry past s n t

    at-take : IsEntryAt g q past e
    at-take = (waits, refl, refl)

    pub waiter-there : has t.0 (tasks g) ≡ true
    waiter-there = ((legal_past_has_users g q es kept.history.legal).waiters t.0 s.0 waits).there

    take-after : IsAt g (past_of g q (es ++ e ∷ [])) (after_take (record { sem = s.0; no = n; task = t.0 }) state)
    unfolding after
    take-after =
        subst (λ (past' : PartPast). IsAt g past' (after_take (record { sem = s.0; no = n; task = t.0 }) state)) (sym (entry_joins g q es e kept.history.legal at-take).past_is)
        (kept_after_take g (record { sem = s.0; no = n; task = t.0 }) past state waiter-there (stands-still still))

    steps-same : steps_of q (es ++ e ∷ []) ≡ steps_of q es
    steps-same = steps-pushed g q es e ∙ append-nil (steps_of q es)

    pub taken : IsKept p q (es ++ e ∷ []) false steps played own c (after_take (record { sem = s.0; no = n; task = t.0 }) state)
    taken = record {
      history = record {
        of_split = kept.history.of_split;
        legal = (entry_joins g q es e kept.history.legal at-take).legal;
        begins = (kept.history.begins.0, kept.history.begins.1 ∙ ap (λ (l : List Step). l ++ kept.history.begins.0) (sym steps-same));
      };
      steps_are = kept.steps_are;
      played_is = kept.played_is ∙ ap length (sym steps-same);
      own_are = kept.own_are;
      ceilings_are = kept.ceilings_are;
      at = take-after;
    }

-- at the opening
pub at-opening : (p : Parts) (q : ℕ) → IsOfSplit p q → (cpus : ℕ) → MOST_CPUS ≤ cpus → IsAt (part_group p q) (past_of (part_group p q) q []) (opened (length p.tasks) cpus)
unfolding past_of past_from
at-opening p q of cpus most = kept_at_opening (part_group p q) cpus (λ r h. let l = processor-low (part_group p q) r of.valid h in omega (arith, l, most))

pub opened-kept : (p : Parts) (q : ℕ) → IsOfSplit p q → (es : List SplitEntry) (steps : List Step) (own : List ℕ) (m : ℕ) (c : CeilingTable) (state : PartState) → es ≡ []
    → steps ≡ own_script p q → own ≡ tasks_at p.tasks q → m ≡ group_no p q → AreCeilings (group_with p m) c → state ≡ opened (length p.tasks) MOST_CPUS
    → IsKept p q es false steps 0 own c state
opened-kept p q of es steps own m c state none script tasks number ceilings is =
    subst (λ (l : List SplitEntry). IsKept p q l false steps 0 own c state) (sym none) (record {
      history = record { of_split = of; legal = tt; begins = (own_script p q, refl) };
      steps_are = script;
      played_is = refl;
      own_are = tasks ∙ own-tasks p q of;
      ceilings_are = subst (λ n. AreCeilings (group_with p n) c) number ceilings;
      at = subst (λ (s : PartState). IsAt (part_group p q) (past_of (part_group p q) q []) s) (sym is) (at-opening p q of MOST_CPUS (omega arith));
    })
