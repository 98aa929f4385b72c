-- What is shown of a reservation is what the definitions say of the past.
use Rattle.std.proofs.Common.{◌≡◌, ℕ, ◌≤◌, Bool, true, false, ◌&&◌, ◌||◌, List, [], ◌∷◌, eqb-true, refl, sym, ap, ◌∙◌, subst, arith}
use Rattle.std.specs.Prelude.{Option, None, Some, option_map, ◌==◌, nat_lt, filter, unwrap_or, if◌then◌else◌}
use Rattle.std.specs.List.{list_all, list_any}
use Rattle.std.proofs.lemmas.Bool.Decides.{nat_tests}
use Rattle.std.proofs.lemmas.Option.{same_Some}
use Rattle.rt_task.specs.declared.Act.{Act}
use Rattle.rt_task.specs.declared.Act.TheVariants as acts
use Rattle.rt_task.specs.declared.Op.{Op}
use Rattle.rt_task.specs.declared.Op.TheVariants as ops
use Rattle.rt_task.specs.declared.PluginKind.{PluginKind}
use Rattle.rt_task.specs.declared.PluginKind.TheVariants as plugins
use Rattle.rt_task.specs.declared.ResvKind.{ResvKind}
use Rattle.rt_task.specs.declared.Slot.{Slot}
use Rattle.rt_task.specs.declared.ResvKind.TheVariants.{Polling, Sporadic, Table}
use Rattle.rt_rules.specs.declared.history.Reply.TheVariants as replies
use Rattle.rt_rules.specs.Numbers.{foremost, has, is, same}
use Rattle.rt_rules.specs.Slots.{began_in, left_in, slot_at}
use Rattle.rt_rules.proofs.BoolLaws.{both, clash}
use Rattle.rt_rules.proofs.MemberLaws.{find-none, has-all, has-filter, is-some}
use Rattle.rt_rules.proofs.KeyLaws.{foremost-some}
use Rattle.rt_model.specs.Answers.{answer, do_answer, last_work, no_budget, op_answer, work_answer}
use Rattle.rt_model.specs.Group.{Group, clients, resv, served_by, tasks}
use Rattle.rt_model.specs.NonPreemptive.{non_preemptive}
use Rattle.rt_model.specs.Outcomes.{past_act}
use Rattle.rt_model.specs.Past.{Acted, Past, accepted, did, is_work, now, operation}
use Rattle.rt_model.specs.Releases.{ready, release}
use Rattle.rt_model.specs.Reservations.{any_ready, earlier, front, last, last_by, last_of, left, left_by, refilled, slot_now, spent}
use Rattle.rt_model.specs.Runs.{runs}
use Rattle.resv_core.specs.Served.{ServerState, IsFront, began_there, has_ready, left_of, left_there, in_slot_at, in_slot_by, in_slot_of, release_at}
use Rattle.resv_core.specs.Served as words
use Rattle.resv_core.specs.Kept.{IsStateOf, counted, StateIsShown, WorkFindsBudget}
use Rattle.resv_core.proofs.KeptLaws.{table-ready}
use Rattle.resv_core.proofs.Told.{any-has}

-- ---- the front client

module _ (g : Group) (r : ℕ) (past : Past) (s : ServerState) (is : IsStateOf g r past s) where
  abbrev candidates : List ℕ
  candidates = filter (λ t. ready g t past) (clients g r)

  clock_of : ℕ → ℕ
  clock_of t = unwrap_or (release g t past) 0

  -- a release in the table is that of a ready client
  listed : (t d : ℕ) → release_at s.releases t ≡ Some d → (has t candidates ≡ true) × (unwrap_or (release g t past) 0 ≡ d)
  listed t d h = let q = by_case (has t (clients g r)) refl (ready g t past) refl (sym (is.clients_of.ready_at t) ∙ h) in (rw has-filter q.0, q.1)
    where
      by_case : (a : Bool) → has t (clients g r) ≡ a → (b : Bool) → ready g t past ≡ b → (if a then (if b then Some (unwrap_or (release g t past) 0) else None) else None) ≡ Some d → (has t (clients g r) && ready g t past ≡ true) × (unwrap_or (release g t past) 0 ≡ d)
      by_case true e true f k = (rw (e, f) refl, same_Some (unwrap_or (release g t past) 0) d k)
      by_case true e false f k = cc
      by_case false e b f k = cc

  -- and a ready client has its release there
  there : (t : ℕ) → has t candidates ≡ true → release_at s.releases t ≡ Some (unwrap_or (release g t past) 0)
  there t h = let members : has t (clients g r) && ready g t past ≡ true = rw has-filter at h in let q = both (has t (clients g r)) (ready g t past) members in let at = is.clients_of.ready_at t in rw (q.0, q.1) at at

  -- the front client goes before each other one
  goes_first : (t : ℕ) → IsFront s.releases t → (u : ℕ) → has u candidates ≡ true → t == u || earlier g past t u ≡ true
  unfolding earlier
  goes_first t f u h =
      let d = listed t f.release f.is_ready in
      let mine : unwrap_or (release g t past) 0 ≡ f.release = d.1 in
      let other = there u h in
      let late : f.release ≤ unwrap_or (release g u past) 0 = f.earliest u (unwrap_or (release g u past) 0) other in
      let low : unwrap_or (release g u past) 0 ≡ f.release → t ≤ u = (λ e. f.lowest u (other ∙ ap {B = Option ℕ} (λ n. Some n) e)) in
      test t u (unwrap_or (release g t past) 0) (unwrap_or (release g u past) 0) (omega (arith, late, mine)) (λ e. low (sym e ∙ mine))
    where
      test : (t u a b : ℕ) → a ≤ b → (a ≡ b → t ≤ u) → t == u || (nat_lt a b || a == b && nat_lt t u) ≡ true
      test t u a b h k = by_case (nat_lt a b) refl (a == b) refl
        where
          by_case : (x : Bool) → nat_lt a b ≡ x → (y : Bool) → a == b ≡ y → t == u || (x || y && nat_lt t u) ≡ true
          by_case true e y f = or_right (t == u)
            where
              or_right : (z : Bool) → z || true ≡ true
              or_right true = refl
              or_right false = refl
          by_case false e true f = let low = k (eqb-true a b f) in grind (arith, nat_tests, low)
          by_case false e false f = absurd (grind (arith, nat_tests, h, e, f))

  -- of two that go before each other there is one
  one_first : (t u : ℕ) → t == u || earlier g past t u ≡ true → u == t || earlier g past u t ≡ true → t ≡ u
  unfolding earlier
  one_first t u h k = test t u (unwrap_or (release g t past) 0) (unwrap_or (release g u past) 0) h k
    where
      test : (t u a b : ℕ) → t == u || (nat_lt a b || a == b && nat_lt t u) ≡ true → u == t || (nat_lt b a || b == a && nat_lt u t) ≡ true → t ≡ u
      test t u a b h k = grind (arith, nat_tests, h, k)

  pub front-is : (t : ℕ) → IsFront s.releases t → front g r past ≡ Some t
  unfolding front
  front-is t f = by_case (foremost (earlier g past) candidates) refl
    where
      by_case : (o : Option ℕ) → foremost (earlier g past) candidates ≡ o → o ≡ Some t
      by_case None e =
          let d = listed t f.release f.is_ready in
          let passes : list_all (λ y. t == y || earlier g past t y) candidates ≡ true = has-all (λ y. t == y || earlier g past t y) candidates (goes_first t f) in
          absurd (clash _ passes (find-none (λ x. list_all (λ y. x == y || earlier g past x y) candidates) candidates t e d.0))
      by_case (Some x) e =
          let d = listed t f.release f.is_ready in
          let q = foremost-some (earlier g past) candidates x e in
          ap {B = Option ℕ} (λ n. Some n) (one_first x t (q.1 t d.0) (goes_first t f x q.0))

  pub front-none : has_ready s.releases ≡ false → front g r past ≡ None
  unfolding front any_ready
  front-none h = by_case candidates refl
    where
      none : list_any (λ t. ready g t past) (clients g r) ≡ false
      none = sym (table-ready g r past s.releases is.clients_of.ready_at) ∙ h

      nobody : (cs : List ℕ) → list_any (λ t. ready g t past) cs ≡ false → filter (λ t. ready g t past) cs ≡ []
      nobody [] k = refl
      nobody (c ∷ cs) k = split (ready g c past) k (nobody cs)
        where
          split : (b : Bool) → b || list_any (λ t. ready g t past) cs ≡ false → (list_any (λ t. ready g t past) cs ≡ false → filter (λ t. ready g t past) cs ≡ []) → (if b then (c ∷ filter (λ t. ready g t past) cs) else filter (λ t. ready g t past) cs) ≡ []
          split true m more = cc
          split false m more = more m

      by_case : (xs : List ℕ) → candidates ≡ xs → foremost (earlier g past) candidates ≡ None
      by_case xs e = ap (foremost (earlier g past)) (nobody (clients g r) none)

  -- ---- the budget and the last refill

  -- of a table what is left is that of the slot that holds the clock
  left-there : (cycle clock : ℕ) (o : Option Slot) → left_there (option_map (in_slot_of cycle clock) o) ≡ left_in cycle clock o
  left-there cycle clock None = refl
  left-there cycle clock (Some x) = refl

  began-there : (cycle clock : ℕ) (o : Option Slot) → began_there (option_map (in_slot_of cycle clock) o) ≡ began_in cycle clock o
  began-there cycle clock None = refl
  began-there cycle clock (Some x) = refl

  spent-is : (k : ResvKind) → (resv g r).kind ≡ k → s.spent ≡ counted k (spent g r past)
  spent-is k e = is.spent ∙ ap (λ j. counted j (spent g r past)) e

  in_slot-is : (k : ResvKind) → (resv g r).kind ≡ k → s.in_slot ≡ in_slot_by k (resv g r).period (resv g r).slots (now past)
  in_slot-is k e = is.in_slot ∙ ap (λ j. in_slot_by j (resv g r).period (resv g r).slots (now past)) e

  pub left-is : left_of s ≡ left g r past
  unfolding left left_by slot_now
  left-is = ap (λ k. words.left_by k s) is.kind ∙ by_kind (resv g r).kind refl
    where
      by_kind : (k : ResvKind) → (resv g r).kind ≡ k → words.left_by k s ≡ left_by g k r past
      by_kind Polling e = rw (is.refilled, is.lost, is.budget, spent-is Polling e) refl
      by_kind Sporadic e = rw (is.refilled, is.lost, is.budget, spent-is Sporadic e) refl
      by_kind Table e = ap left_there (in_slot-is Table e) ∙ left-there (resv g r).period (now past) (slot_at (resv g r).period (resv g r).slots (now past))

  pub last-is : words.last_of s ≡ last g r past
  unfolding last last_of last_by slot_now
  last-is = ap (λ k. words.last_for k s) is.kind ∙ by_kind (resv g r).kind refl
    where
      same_last : (k : ResvKind) (p : ℕ) (o : Option ℕ) → words.last_by k p o ≡ last_by g k p o
      same_last Polling p None = refl
      same_last Polling p (Some c) = refl
      same_last Sporadic p o = refl
      same_last Table p o = refl

      by_kind : (k : ResvKind) → (resv g r).kind ≡ k → words.last_for k s ≡ last_of g k r past
      by_kind Polling e = rw (is.period, is.refilled) (same_last Polling (resv g r).period (refilled g r past))
      by_kind Sporadic e = is.refilled
      by_kind Table e = ap began_there (in_slot-is Table e) ∙ began-there (resv g r).period (now past) (slot_at (resv g r).period (resv g r).slots (now past))

pub state_is_shown : StateIsShown
state_is_shown g r past s is = record { left_is = left-is g r past s is; last_is = last-is g r past s is; some_ready = table-ready g r past s.releases is.clients_of.ready_at; front_is = front-is g r past s is; no_front = front-none g r past s is }

-- ---- an accepted Work

-- a Work is accepted where its reservation has a unit left
left-work : (g : Group) (q t : ℕ) (past : Past) → g.setup.plugin ≡ plugins.PRes → accepted (work_answer g q t past) ≡ true → 1 ≤ left g (served_by g t) past
unfolding work_answer no_budget
left-work g q t past plugin h = by_case (same (last_work q past) (Some (now past))) (left g (served_by g t) past == 0) refl (subst (λ (p : PluginKind). accepted (if same (last_work q past) (Some (now past)) then replies.Spent else (if no_budget g p t past then replies.NoBudget else replies.Done)) ≡ true) plugin h)
  where
    by_case : (a b : Bool) → left g (served_by g t) past == 0 ≡ b → accepted (if a then replies.Spent else (if b then replies.NoBudget else replies.Done)) ≡ true → 1 ≤ left g (served_by g t) past
    by_case true b e k = cc
    by_case false true e k = cc
    by_case false false e k = grind (arith, nat_tests, e)

-- what works is the task that runs, by an accepted Work
work-answer : (g : Group) (q t : ℕ) (act : Act) (past : Past) → is_work (did t (Acted (past_act g q act past))) ≡ true → accepted (work_answer g q t past) ≡ true
unfolding past_act answer do_answer op_answer
work-answer g q t act past h = by_case (is t (runs q past)) refl (accepted (answer g q act past)) refl h
  where
    by_op : (op : Op) → is_work (Some op) ≡ true → accepted (op_answer g op q t (non_preemptive t past) past) ≡ true → accepted (work_answer g q t past) ≡ true
    by_op ops.Work k acc = acc
    by_op (ops.Lock n) k acc = cc
    by_op (ops.Unlock n) k acc = cc
    by_op (ops.Sleep n) k acc = cc
    by_op ops.NpOn k acc = cc
    by_op ops.NpOff k acc = cc
    by_op ops.End k acc = cc

    by_act : (a : Act) → is_work (operation a) ≡ true → runs q past ≡ Some t → accepted (answer g q a past) ≡ true → accepted (work_answer g q t past) ≡ true
    by_act acts.Tick k run acc = cc
    by_act acts.Irq k run acc = cc
    by_act (acts.Arrive u) k run acc = cc
    by_act (acts.Do op) k run acc = by_op op k (subst (λ o. accepted (do_answer g op q o past) ≡ true) run acc)

    by_case : (a : Bool) → is t (runs q past) ≡ a → (b : Bool) → accepted (answer g q act past) ≡ b → is_work (if a && b then operation act else None) ≡ true → accepted (work_answer g q t past) ≡ true
    by_case true e true f k = by_act act k (is-some t (runs q past) e) f
    by_case true e false f k = cc
    by_case false e b f k = cc

client-served : (g : Group) (r t : ℕ) → has t (clients g r) ≡ true → served_by g t ≡ r
unfolding clients
client-served g r t h = let members : has t (tasks g) && (served_by g t == r) ≡ true = rw has-filter at h in eqb-true (served_by g t) r (both _ _ members).1

pub work_finds_budget : WorkFindsBudget
work_finds_budget g r q act past s plugin is h =
    let w = any-has (λ t. is_work (did t (Acted (past_act g q act past)))) (clients g r) h in
    let some : 1 ≤ left g (served_by g w.0) past = left-work g q w.0 past plugin (work-answer g q w.0 act past w.2) in
    subst (λ n. 1 ≤ n) (ap (λ i. left g i past) (client-served g r w.0 w.1) ∙ sym (left-is g r past s is)) some
