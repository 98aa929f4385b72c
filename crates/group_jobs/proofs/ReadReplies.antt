-- Each reply is read off what is kept.
use Rattle.std.proofs.Common.{◌≡◌, ℕ, ◌≤◌, Bool, true, false, not, ◌||◌, List, [], ◌∷◌, length, refl, sym, ap, ◌∙◌, arith}
use Rattle.std.specs.Prelude.{Option, None, Some, ◌==◌}
use Rattle.std.specs.List.{list_any}
use Rattle.rt_base.specs.declared.TaskNo.{TaskNo}
use Rattle.rt_task.specs.Validity.{IsValid}
use Rattle.rt_task.specs.RuleWords.{is_p_res}
use Rattle.rt_task.specs.declared.Act.{Act}
use Rattle.rt_task.specs.declared.Act.TheVariants as acts
use Rattle.rt_task.specs.declared.Kind.{Kind}
use Rattle.rt_task.specs.declared.Kind.TheVariants.{Periodic, Sporadic}
use Rattle.rt_task.specs.declared.Op.{Op}
use Rattle.rt_task.specs.declared.Op.TheVariants as ops
use Rattle.rt_task.specs.declared.PluginKind.{PluginKind}
use Rattle.rt_task.specs.declared.PluginKind.TheVariants as plugins
use Rattle.rt_task.specs.declared.Protocol.{Protocol}
use Rattle.rt_task.specs.declared.Protocol.TheVariants.{Fmlp, Omlp, Mpcp, Pcp, Srp}
use Rattle.rt_rules.specs.declared.history.Reply.TheVariants as replies
use Rattle.rt_rules.specs.Distinct.{IsDistinct}
use Rattle.rt_rules.specs.Numbers.{has, is, is_empty, numbers_from}
use Rattle.rt_rules.proofs.BoolLaws.{clash, or_true}
use Rattle.rt_rules.proofs.MemberLaws.{any-none, equal_self}
use Rattle.rt_rules.proofs.NumberLaws.{distinct-numbers_from}
use Rattle.rt_rules.proofs.PlacingLaws.{distinct-filter, length-beside}
use Rattle.rt_model.specs.Answers.{answer, irq_answer, np_on, link_reply, may_arrive, arrival_answer, no_budget, work_answer, nests}
use Rattle.rt_model.specs.Answers.{lock_answer, unlock_answer, unless_holding, op_answer, do_answer, last_work}
use Rattle.rt_model.specs.Ceilings.{is_pcp}
use Rattle.rt_model.specs.Group.{Group, task, tasks, sems, protocol, served_by, group_processors}
use Rattle.rt_model.specs.Holders.{holder, holds}
use Rattle.rt_model.specs.Links.{linked, pending}
use Rattle.rt_model.specs.Reachable.{IsReachable}
use Rattle.rt_model.specs.NonPreemptive.{non_preemptive}
use Rattle.rt_model.specs.Past.{Past, now}
use Rattle.rt_model.specs.Reservations.{left}
use Rattle.rt_model.specs.Runs.{runs}
use Rattle.rt_laws.proofs.jobs.Running.{running}
use Rattle.rt_laws.proofs.ValidSets.{rules_of}
use Rattle.group_jobs.specs.Facts.{JobFacts, CpuFacts, job_facts}
use Rattle.group_jobs.specs.Kept.{Kept, IsKept, job_of, cpu_of, IsOfGroup}
use Rattle.group_jobs.specs.Replies.{SemFacts, run_reply, irq_reply, np_of, may_come, arrival_reply_by, arrival_reply, lacks}
use Rattle.group_jobs.specs.Replies.{is_nested, op_reply, do_reply, reply_of, AreHeld, IsSeen, ReplyIsRead}
use Rattle.group_jobs.specs.Replies.{HeldIsRead}

-- ---- lists with the same members

shorter : (us ts : List ℕ) → IsDistinct us → IsDistinct ts → ((x : ℕ) → has x us ≡ has x ts) → length us ≤ length ts
shorter us ts du dt same_members = let n = length-beside us ts du dt (λ x h. sym (same_members x) ∙ h) in omega (arith, n)

pub same-length : (us ts : List ℕ) → IsDistinct us → IsDistinct ts → ((x : ℕ) → has x us ≡ has x ts) → length us ≡ length ts
same-length us ts du dt same_members = let a = shorter us ts du dt same_members in let b =
    shorter ts us dt du (λ x. sym (same_members x)) in omega (arith, a, b)

pub same-empty : (us ts : List ℕ) → ((x : ℕ) → has x us ≡ has x ts) → is_empty us ≡ is_empty ts
same-empty [] [] same_members = refl
same-empty [] (t ∷ ts) same_members = let h : false ≡ has t (t ∷ ts) = same_members t in let k : has t (t ∷ ts) ≡ true =
    rw (equal_self t) in cc
same-empty (u ∷ us) [] same_members = let h : has u (u ∷ us) ≡ false = same_members u in let k : has u (u ∷ us) ≡ true =
    rw (equal_self u) in cc
same-empty (u ∷ us) (t ∷ ts) same_members = refl

any-found : (p : ℕ → Bool) (xs : List ℕ) → list_any p xs ≡ true → (x : ℕ) × (has x xs ≡ true) × (p x ≡ true)
any-found p [] h = cc
any-found p (y ∷ ys) h = by_case (p y) refl h (any-found p ys)
  where
    by_case : (b : Bool) → p y ≡ b → b || list_any p ys ≡ true → (list_any p ys ≡ true → (x : ℕ) × (has x ys ≡ true) × (p x ≡ true))
        → (x : ℕ) × (has x (y ∷ ys) ≡ true) × (p x ≡ true)
    by_case true e k deeper = (y, rw (equal_self y), e)
    by_case false e k deeper = let r = deeper k in (r.0, rw r.1 (or_true (r.0 == y)), r.2)

pub same-any : (p : ℕ → Bool) (us ts : List ℕ) → ((x : ℕ) → has x us ≡ has x ts) → list_any p us ≡ list_any p ts
same-any p us ts same_members = by_cases (list_any p us) (list_any p ts) refl refl
  where
    one_way : (xs ys : List ℕ) → ((x : ℕ) → has x xs ≡ has x ys) → list_any p xs ≡ true → list_any p ys ≡ false → ⊥
    one_way xs ys s h k = let r = any-found p xs h in clash _ r.2 (any-none p ys r.0 k (sym (s r.0) ∙ r.1))

    by_cases : (a b : Bool) → list_any p us ≡ a → list_any p ts ≡ b → a ≡ b
    by_cases true true h k = refl
    by_cases true false h k = absurd (one_way us ts same_members h k)
    by_cases false true h k = absurd (one_way ts us (λ x. sym (same_members x)) k h)
    by_cases false false h k = refl

distinct-holds : (g : Group) (t : ℕ) (past : Past) → IsDistinct (holds g t past)
unfolding holds sems
distinct-holds g t past =
    distinct-filter (λ s. is t (holder g s past)) (numbers_from 1 (length g.setup.sems)) (distinct-numbers_from 1 (length g.setup.sems))

pub held_is_read : HeldIsRead
held_is_read g t past held h =
    (same-empty held (holds g t past) h.members, same-length held (holds g t past) h.once (distinct-holds g t past) h.members)

-- ---- an interrupt

run_reply-same : (g : Group) (o : Option ℕ) → run_reply o ≡ link_reply g o
unfolding link_reply
run_reply-same g None = refl
run_reply-same g (Some t) = refl

irq-read : (g : Group) (q : ℕ) (past : Past)
    → irq_reply (linked g q past) (runs q past) (np_on g (runs q past) past) ≡ answer g q acts.Irq past
unfolding answer irq_answer pending
irq-read g q past = rw (run_reply-same g (linked g q past))

-- ---- an arrival

may_come-same : (g : Group) (t : ℕ) (past : Past) (o : Option ℕ) → may_come (now past) (task g t) o ≡ may_arrive g t o past
unfolding may_arrive
may_come-same g t past None = refl
may_come-same g t past (Some n) = refl

arrival-read : (g : Group) (q : ℕ) (t : TaskNo) (past : Past)
    → arrival_reply (now past) (task g t.0) (job_facts t.0 past) ≡ answer g q (acts.Arrive t) past
unfolding answer arrival_answer
arrival-read g q t past = by_kind (task g t.0).kind
  where
    by_kind : (x : Kind) → arrival_reply_by x (now past) (task g t.0) (job_facts t.0 past) ≡ arrival_answer g x t.0 past
    by_kind Periodic = refl
    by_kind Sporadic = rw may_come-same

-- ---- operations

pub lacks-same : (g : Group) (t budget : ℕ) (past : Past) → (is_p_res g.setup.plugin ≡ true → budget ≡ left g (served_by g t) past)
    → lacks g.setup.plugin budget ≡ no_budget g g.setup.plugin t past
unfolding no_budget
lacks-same g t budget past h = by_plugin g.setup.plugin h
  where
    by_plugin : (p : PluginKind) → (is_p_res p ≡ true → budget ≡ left g (served_by g t) past) → lacks p budget ≡ no_budget g p t past
    by_plugin plugins.PRes k = rw k refl
    by_plugin plugins.GsnEdf k = refl
    by_plugin plugins.CEdf k = refl
    by_plugin plugins.PsnEdf k = refl
    by_plugin plugins.PFp k = refl

nested-same : (g : Group) (p : Protocol) (s t : ℕ) (past : Past) (held : List ℕ) → AreHeld g t past held
    → is_nested g p s held ≡ nests g p s t past
unfolding nests
nested-same g Pcp s t past held h =
    rw (same-any (λ r. not (is_pcp (protocol g r))) held (holds g t past) h.members, h.members s, (held_is_read g t past held h).1)
nested-same g Srp s t past held h = rw (h.members s, (held_is_read g t past held h).1)
nested-same g Fmlp s t past held h = rw (held_is_read g t past held h).0
nested-same g Omlp s t past held h = rw (held_is_read g t past held h).0
nested-same g Mpcp s t past held h = rw (held_is_read g t past held h).0

op-read : (g : Group) (q t budget : ℕ) (op : Op) (past : Past) (link : Option ℕ) (said : SemFacts) → runs q past ≡ Some t
    → IsSeen g q (acts.Do op) past link budget said
    → op_reply g op t (now past) (last_work q past) (non_preemptive t past) budget said ≡ op_answer g op q t (non_preemptive t past) past
unfolding op_answer work_answer lock_answer unlock_answer unless_holding
op-read g q t budget ops.Work past link said r s = rw (lacks-same g t budget past (s.budget_is t r))
op-read g q t budget (ops.Lock n) past link said r s =
    rw (nested-same g (protocol g n.0) n.0 t past said.held (s.held_are t r), s.granted_is t n.0 r refl)
op-read g q t budget (ops.Unlock n) past link said r s = rw (s.holder_is n.0 refl, s.last_is t n.0 r refl)
op-read g q t budget (ops.Sleep n) past link said r s = rw (held_is_read g t past said.held (s.held_are t r)).0
op-read g q t budget ops.NpOn past link said r s = refl
op-read g q t budget ops.NpOff past link said r s = refl
op-read g q t budget ops.End past link said r s = rw (held_is_read g t past said.held (s.held_are t r)).0

-- ---- every act

tick-read : (g : Group) (q : ℕ) (past : Past) → replies.Done ≡ answer g q acts.Tick past
unfolding answer
tick-read g q past = refl

do-answer : (g : Group) (q : ℕ) (op : Op) (past : Past) → answer g q (acts.Do op) past ≡ do_answer g op q (runs q past) past
unfolding answer
do-answer g q op past = refl

module _ (g : Group) (past : Past) (valid : IsValid g.setup) (made : IsReachable g past) (q : ℕ) (k : Kept) (kept : IsKept g past k) where
  pub member : (t : ℕ) → runs q past ≡ Some t → has t (tasks g) ≡ true
  member t r = (running g (rules_of g valid) made q t r).member

  pub np-read : (o : Option ℕ) → runs q past ≡ o → np_of k o ≡ np_on g o past
  unfolding np_on
  np-read None r = refl
  np-read (Some t) r = ap (λ (j : JobFacts). j.np) (kept.jobs_are t (member t r))

  do-read : (op : Op) (o link : Option ℕ) (budget : ℕ) (said : SemFacts) → runs q past ≡ o → has q (group_processors g) ≡ true
      → IsSeen g q (acts.Do op) past link budget said → do_reply g op q o budget said k ≡ do_answer g op q o past
  unfolding do_answer
  do-read op None link budget said r inside s = refl
  do-read op (Some t) link budget said r inside s =
      let worked : (cpu_of k q).worked ≡ last_work q past = ap (λ (c : CpuFacts). c.worked) (kept.cpus_are q inside) in
      let np : (job_of k t).np ≡ non_preemptive t past = ap (λ (j : JobFacts). j.np) (kept.jobs_are t (member t r)) in
      ap (λ n. op_reply g op t n (cpu_of k q).worked (job_of k t).np budget said) kept.clock_is
      ∙ ap (λ n. op_reply g op t (now past) n (job_of k t).np budget said) worked
      ∙ ap (λ n. op_reply g op t (now past) (last_work q past) n budget said) np
      ∙ op-read g q t budget op past link said r s

  pub runs-kept : has q (group_processors g) ≡ true → (cpu_of k q).runs ≡ runs q past
  runs-kept inside = ap (λ (c : CpuFacts). c.runs) (kept.cpus_are q inside)

  act-read : (act : Act) (link : Option ℕ) (budget : ℕ) (said : SemFacts) → IsOfGroup g q act → IsSeen g q act past link budget said
      → reply_of g q act link budget said k ≡ answer g q act past
  act-read acts.Tick link budget said of_group s = tick-read g q past
  act-read acts.Irq link budget said of_group s =
      ap (λ o. irq_reply o (cpu_of k q).runs (np_of k (cpu_of k q).runs)) s.link_is
      ∙ ap (λ o. irq_reply (linked g q past) o (np_of k o)) (runs-kept of_group.inside)
      ∙ ap (λ b. irq_reply (linked g q past) (runs q past) b) (np-read (runs q past) refl)
      ∙ irq-read g q past
  act-read (acts.Arrive t) link budget said of_group s =
      ap (λ n. arrival_reply n (task g t.0) (job_of k t.0)) kept.clock_is
      ∙ ap (λ j. arrival_reply (now past) (task g t.0) j) (kept.jobs_are t.0 (of_group.arrives_in t.0 refl))
      ∙ arrival-read g q t past
  act-read (acts.Do op) link budget said of_group s =
      ap (λ o. do_reply g op q o budget said k) (runs-kept of_group.inside)
      ∙ do-read op (runs q past) link budget said refl of_group.inside s
      ∙ sym (do-answer g q op past)

pub reply_is_read : ReplyIsRead
reply_is_read g past valid made q act link budget said k of_group kept s =
    act-read g past valid made q k kept act link budget said of_group s
