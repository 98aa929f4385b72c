-- All reservations of a group together.
use Rattle.std.proofs.Common.{◌≡◌, ◌≢◌, ℕ, zero, suc, ◌-◌, ◌<◌, ◌≤◌, Bool, true, false, ◌&&◌, ◌||◌, List, [], ◌∷◌, length, map, get_or, set, length-set, get_or-set_same, get_or-set_other, eqb-true, refl, sym, ap, ◌∙◌, subst, arith}
use Rattle.std.specs.Prelude.{Option, None, Some, ◌==◌, filter, if◌then◌else◌, nat_lt, slice_get}
use Rattle.std.proofs.lemmas.List.{get_or-map, length-map}
use Rattle.std.proofs.lemmas.Bool.Decides.{nat_tests}
use Rattle.rt_base.specs.declared.ResvNo.{ResvNo}
use Rattle.rt_task.specs.Validity.{IsValid}
use Rattle.rt_task.specs.declared.PluginKind.TheVariants.{PRes}
use Rattle.rt_task.specs.declared.Task.{Task}
use Rattle.rt_rules.specs.Numbers.{has, is, same}
use Rattle.rt_rules.proofs.BoolLaws.{both, unless}
use Rattle.rt_rules.proofs.MemberLaws.{equal_self, has-filter, is-some}
use Rattle.rt_model.specs.Group.{Group, clients, no_resv, no_task, resv, served_by, task, tasks}
use Rattle.rt_model.specs.Reachable.{IsReachable}
use Rattle.rt_model.specs.Outcomes.{past_act}
use Rattle.rt_model.specs.Past.{Event, Clock, Acted, Past, PastAct, accepted, did, is_work, now, operation}
use Rattle.rt_model.specs.Runs.{runs}
use Rattle.rt_model.proofs.Steps.{past_act-task}
use Rattle.rt_laws.proofs.Moves.{IsMove, clock_moves, cpu_acts, last_move}
use Rattle.rt_laws.proofs.jobs.Running.{running}
use Rattle.rt_laws.proofs.ValidSets.{rules_of}
use Rattle.resv_core.specs.Served.{Served, ServerState, IsResv, charged, is_resv_here, no_server, opened, opened_server, server, server_for, server_here, server_of, settled, ticked, with_each, with_server}
use Rattle.resv_core.specs.Kept.{IsStateOf, begun, moved, opening, ready_release, told, told_now, works}
use Rattle.resv_core.specs.Serving.{AllMovedAreServing, AllMovedInAnyOrder, AllOpenedAreServing, IsServing, WorkMayBeCharged, all_begun, all_moved, all_opened, all_settled, all_told, at_server, charged_for, for_task}
use Rattle.resv_core.proofs.KeptLaws.{move_is_kept, move_is_kept_in_any_order, opening_is_kept}
use Rattle.resv_core.proofs.ShownLaws.{work_finds_budget}
use Rattle.resv_core.proofs.Told.{any-has, has-any}
use Rattle.resv_core.proofs.ValidClients.{IsTied, resv-there, tied}

-- ---- one reservation among the others

pub server-set : (v : Served) (k r : ℕ) (x : ServerState) → 1 ≤ k → IsResv v r → server (with_server v k x) r ≡ (if k == r then x else server v r)
server-set v k r x low is = by_case (k == r) refl
  where
    inside : r - 1 < length v.servers
    inside = let l = is.low in let h = is.high in omega (arith, l, h)

    by_case : (b : Bool) → k == r ≡ b → get_or (set v.servers (k - 1) x) (r - 1) no_server ≡ (if b then x else get_or v.servers (r - 1) no_server)
    by_case true e = ap (λ n. get_or (set v.servers (n - 1) x) (r - 1) no_server) (eqb-true k r e) ∙ get_or-set_same v.servers (r - 1) x no_server inside
    by_case false e =
        let l = is.low in
        let apart : k ≢ r = (λ f. let clash : true ≡ false = sym (equal_self r) ∙ ap (λ n. n == r) (sym f) ∙ e in cc) in
        let ne : r - 1 ≢ k - 1 = (λ f. apart (omega (arith, f, l, low))) in
        get_or-set_other v.servers (k - 1) (r - 1) x no_server ne

-- a call for a task changes the reservation that serves it
pub for_task-server : (v : Served) (t k r : ℕ) (change : ServerState → ServerState) → server_of v t ≡ Some (record { 0 = k }) → 1 ≤ k → IsResv v r → server (for_task t change v) r ≡ (if k == r then change (server v r) else server v r)
for_task-server v t k r change serves low is = ap (λ o. server (at_server o change v) r) serves ∙ server-set v k r (change (server v k)) low is ∙ by_case (k == r) refl
  where
    by_case : (b : Bool) → k == r ≡ b → (if b then change (server v k) else server v r) ≡ (if b then change (server v r) else server v r)
    by_case true e = ap (λ n. change (server v n)) (eqb-true k r e)
    by_case false e = refl

-- and nothing else
pub record Keeps (old new : Served) : Type 0 where
  pub clock : new.clock ≡ old.clock
  pub numbers : length new.servers ≡ length old.servers
  pub served_by : new.served_by ≡ old.served_by

pub keeps-self : (v : Served) → Keeps v v
keeps-self v = record { clock = refl; numbers = refl; served_by = refl }

pub keeps-then : (u v w : Served) → Keeps u v → Keeps v w → Keeps u w
keeps-then u v w h k = record { clock = k.clock ∙ h.clock; numbers = k.numbers ∙ h.numbers; served_by = k.served_by ∙ h.served_by }

pub for_task-keeps : (v : Served) (t : ℕ) (change : ServerState → ServerState) → Keeps v (for_task t change v)
for_task-keeps v t change = by_case (server_of v t)
  where
    by_case : (o : Option ResvNo) → Keeps v (at_server o change v)
    by_case None = keeps-self v
    by_case (Some r) = record { clock = refl; numbers = length-set v.servers (r.0 - 1) (change (server v r.0)); served_by = refl }

pub resv-kept : (old new : Served) (r : ℕ) → Keeps old new → IsResv old r → IsResv new r
resv-kept old new r k is = let h = is.high in let e = k.numbers in record { low = is.low; high = omega (arith, h, e) }

-- ---- what is told

module _ (g : Group) (before after : ℕ → Option ℕ) where
  -- each of these tasks is served
  abbrev AreServed : List ℕ → Served → Type 0
  AreServed ts v = (t : ℕ) → has t ts ≡ true → (server_of v t ≡ Some (record { 0 = served_by g t })) × (1 ≤ served_by g t)

  abbrev one_told : ℕ → Served → Served
  one_told t v = if same (before t) (after t) then v else for_task t (told_now (after t) t) v

  one-keeps : (t : ℕ) (v : Served) → Keeps v (one_told t v)
  one-keeps t v = by_case (same (before t) (after t))
    where
      by_case : (b : Bool) → Keeps v (if b then v else for_task t (told_now (after t) t) v)
      by_case true = keeps-self v
      by_case false = for_task-keeps v t (told_now (after t) t)

  one-server : (t r : ℕ) (v : Served) → server_of v t ≡ Some (record { 0 = served_by g t }) → 1 ≤ served_by g t → IsResv v r → server (one_told t v) r ≡ (if served_by g t == r then (if same (before t) (after t) then server v r else told_now (after t) t (server v r)) else server v r)
  one-server t r v serves low is = by_case (same (before t) (after t))
    where
      either : (b : Bool) → server v r ≡ (if b then server v r else server v r)
      either true = refl
      either false = refl

      by_case : (b : Bool) → server (if b then v else for_task t (told_now (after t) t) v) r ≡ (if served_by g t == r then (if b then server v r else told_now (after t) t (server v r)) else server v r)
      by_case true = either (served_by g t == r)
      by_case false = for_task-server v t (served_by g t) r (told_now (after t) t) serves low is

  or_right : (a b : Bool) → b ≡ true → a || b ≡ true
  or_right true b m = refl
  or_right false b m = m

  told-keeps : (ts : List ℕ) (v : Served) → Keeps v (all_told before after ts v)
  told-keeps [] v = keeps-self v
  told-keeps (t ∷ ts) v = keeps-then v (one_told t v) (all_told before after ts (one_told t v)) (one-keeps t v) (told-keeps ts (one_told t v))

  -- each reservation is told of its clients
  told-server : (ts : List ℕ) (r : ℕ) (v : Served) → AreServed ts v → IsResv v r → server (all_told before after ts v) r ≡ told before after (filter (λ t. served_by g t == r) ts) (server v r)
  told-server [] r v serve is = refl
  told-server (t ∷ ts) r v serve is =
      let mine = serve t (ap (λ b. b || has t ts) (equal_self t)) in
      let keeps = one-keeps t v in
      let serve' : AreServed ts (one_told t v) = (λ u h. let q = serve u (or_right (u == t) (has u ts) h) in (ap (λ xs. get_or xs u None) keeps.served_by ∙ q.0, q.1)) in
      told-server ts r (one_told t v) serve' (resv-kept v (one_told t v) r keeps is)
      ∙ ap (told before after (filter (λ u. served_by g u == r) ts)) (one-server t r v mine.0 mine.1 is)
      ∙ join (served_by g t == r)
    where
      join : (b : Bool) → told before after (filter (λ u. served_by g u == r) ts) (if b then (if same (before t) (after t) then server v r else told_now (after t) t (server v r)) else server v r) ≡ told before after (if b then (t ∷ filter (λ u. served_by g u == r) ts) else filter (λ u. served_by g u == r) ts) (server v r)
      join true = refl
      join false = refl

-- ---- what is changed for each

pub each-server : (v : Served) (r : ℕ) (change : ServerState → ServerState) → IsResv v r → server (with_each change v) r ≡ change (server v r)
each-server v r change is = let l = is.low in let h = is.high in get_or-map change v.servers (r - 1) no_server no_server (omega (arith, l, h))

-- ---- a move

module _ (g : Group) (past : Past) (v : Served) (serving : IsServing g past v) where
  -- a client of the reservation works where the task that works is one
  work-server : (d : PastAct) (t r : ℕ) → d.task ≡ Some t → has t (tasks g) ≡ true → 1 ≤ served_by g t → IsResv v r → server (charged_for (Some t) (Acted d) v) r ≡ (if works g r (Acted d) then charged (server v r) else server v r)
  unfolding clients
  work-server d t r task member low there = by_case (is_work (did t (Acted d))) refl (served_by g t == r) refl
    where
      only : (u : ℕ) → is_work (did u (Acted d)) ≡ true → u ≡ t
      only u h = one (is u d.task) refl (accepted d.reply) h
        where
          one : (a : Bool) → is u d.task ≡ a → (b : Bool) → is_work (if a && b then operation d.act else None) ≡ true → u ≡ t
          one true e b k = let same : Some u ≡ Some t = sym (is-some u d.task e) ∙ task in let P = eqb-true u t (ap (is u) (sym same) ∙ equal_self u) in P
          one false e b k = cc

      nobody : ((u : ℕ) → has u (filter (λ x. served_by g x == r) (tasks g)) ≡ true → is_work (did u (Acted d)) ≡ true → true ≡ false) → works g r (Acted d) ≡ false
      nobody none = unless (works g r (Acted d)) (λ h. let q = any-has (λ u. is_work (did u (Acted d))) (filter (λ x. served_by g x == r) (tasks g)) h in let clash = none q.0 q.1 q.2 in cc)

      by_case : (b : Bool) → is_work (did t (Acted d)) ≡ b → (c : Bool) → served_by g t == r ≡ c → server (if b then for_task t charged v else v) r ≡ (if works g r (Acted d) then charged (server v r) else server v r)
      by_case true e true f =
          let listed : has t (filter (λ x. served_by g x == r) (tasks g)) ≡ true = has-filter (λ x. served_by g x == r) t (tasks g) ∙ rw (member, f) refl in
          let busy : works g r (Acted d) ≡ true = has-any (λ u. is_work (did u (Acted d))) (filter (λ x. served_by g x == r) (tasks g)) t listed e in
          for_task-server v t (served_by g t) r charged (serving.serves t member) low there ∙ ap (λ b. if b then charged (server v r) else server v r) (f ∙ sym busy)
      by_case true e false f =
          let idle : works g r (Acted d) ≡ false = nobody (λ u h k. let at : has u (tasks g) && (served_by g u == r) ≡ true = sym (has-filter (λ x. served_by g x == r) u (tasks g)) ∙ h in sym (both _ _ at).1 ∙ ap (λ x. served_by g x == r) (only u k) ∙ f) in
          for_task-server v t (served_by g t) r charged (serving.serves t member) low there ∙ ap (λ b. if b then charged (server v r) else server v r) (f ∙ sym idle)
      by_case false e c f =
          let idle : works g r (Acted d) ≡ false = nobody (λ u h k. sym k ∙ ap (λ x. is_work (did x (Acted d))) (only u k) ∙ e) in
          ap (λ b. if b then charged (server v r) else server v r) (sym idle)

  no-work-server : (d : PastAct) (r : ℕ) → d.task ≡ None → server v r ≡ (if works g r (Acted d) then charged (server v r) else server v r)
  no-work-server d r none = ap (λ b. if b then charged (server v r) else server v r) (sym idle)
    where
      nothing : (u : ℕ) → is_work (did u (Acted d)) ≡ false
      nothing u = ap (λ o. is_work (if is u o && accepted d.reply then operation d.act else None)) none

      idle : works g r (Acted d) ≡ false
      idle = unless (works g r (Acted d)) (λ h. let q = any-has (λ u. is_work (did u (Acted d))) (clients g r) h in let clash : true ≡ false = sym q.2 ∙ nothing q.0 in cc)

-- how a move begins
pub record IsBegun (g : Group) (e : Event) (past : Past) (v : Served) : Type 0 where
  pub clock : (all_begun e past v).clock ≡ now (e ∷ past)
  pub numbers : length (all_begun e past v).servers ≡ length v.servers
  pub served_by : (all_begun e past v).served_by ≡ v.served_by
  pub each : (r : ℕ) → IsResv v r → server (all_begun e past v) r ≡ begun g r e past (server v r)

begun-act : (g : Group) → IsValid g.setup → g.setup.plugin ≡ PRes → (past : Past) (v : Served) → IsReachable g past → IsServing g past v → (q : ℕ) (d : PastAct) → d.task ≡ runs q past → IsBegun g (Acted d) past v
begun-act g valid plugin past v reachable serving q d runs_it = record {
  clock = (keeps d.task).clock ∙ serving.clock;
  numbers = (keeps d.task).numbers;
  served_by = (keeps d.task).served_by;
  each = λ r there. by_task r there d.task refl;
}
  where
    keeps-if : (b : Bool) (t : ℕ) → Keeps v (if b then for_task t charged v else v)
    keeps-if true t = for_task-keeps v t charged
    keeps-if false t = keeps-self v

    keeps : (o : Option ℕ) → Keeps v (charged_for o (Acted d) v)
    keeps None = keeps-self v
    keeps (Some t) = keeps-if (is_work (did t (Acted d))) t

    by_task : (r : ℕ) → IsResv v r → (o : Option ℕ) → d.task ≡ o → server (charged_for o (Acted d) v) r ≡ (if works g r (Acted d) then charged (server v r) else server v r)
    by_task r there None e = no-work-server g past v serving d r e
    by_task r there (Some t) e =
        let member = (running g (rules_of g valid) reachable q t (sym runs_it ∙ e)).member in
        work-server g past v serving d t r e member (tied g valid plugin t member).low there

begun-clock : (g : Group) (past : Past) (v : Served) → IsServing g past v → (tick : ℕ) → IsBegun g (Clock tick) past v
begun-clock g past v serving tick = record {
  clock = refl;
  numbers = length-map v.servers (ticked v.clock (now (Clock tick ∷ past)));
  served_by = refl;
  each = λ r there. each-server v r (ticked v.clock (now (Clock tick ∷ past))) there ∙ ap (λ c. ticked c (now (Clock tick ∷ past)) (server v r)) serving.clock;
}

pub all-begun : (g : Group) → IsValid g.setup → g.setup.plugin ≡ PRes → {past : Past} {e : Event} → (v : Served) → IsReachable g past → IsMove g past e → IsServing g past v → IsBegun g e past v
all-begun g valid plugin {past} v reachable (clock_moves tick) serving = begun-clock g past v serving tick
all-begun g valid plugin {past} v reachable (cpu_acts q a) serving = begun-act g valid plugin past v reachable serving q (past_act g q a past) (past_act-task g q a past)

clients-filter : (g : Group) (r : ℕ) → filter (λ t. served_by g t == r) (tasks g) ≡ clients g r
unfolding clients
clients-filter g r = refl

-- all that is told and settled, by reservation
settled-server : (g : Group) (before after : ℕ → Option ℕ) (v : Served) → AreServed g before after (tasks g) v → (r : ℕ) → IsResv v r → server (all_settled (all_told before after (tasks g) v)) r ≡ settled v.clock (told before after (clients g r) (server v r))
settled-server g before after v serve r there =
    let last : Served = all_told before after (tasks g) v in
    let k = told-keeps g before after (tasks g) v in
    each-server last r (settled last.clock) (resv-kept v last r k there)
    ∙ ap (λ c. settled c (server last r)) k.clock
    ∙ ap (settled v.clock) (told-server g before after (tasks g) r v serve there ∙ ap (λ ts. told before after ts (server v r)) (clients-filter g r))

pub all_moved_are_serving : AllMovedAreServing
all_moved_are_serving g e past v valid plugin reachable serving =
    let m = last_move g reachable in
    let mid : Served = all_begun e past v in
    let b = all-begun g valid plugin v m.0 m.1 serving in
    let before : ℕ → Option ℕ = λ t. ready_release g t past in
    let after : ℕ → Option ℕ = λ t. ready_release g t (e ∷ past) in
    let last : Served = all_told before after (tasks g) mid in
    let k = told-keeps g before after (tasks g) mid in
    let serves : (t : ℕ) → has t (tasks g) ≡ true → server_of mid t ≡ Some (record { 0 = served_by g t }) = (λ t h. ap (λ xs. get_or xs t None) b.served_by ∙ serving.serves t h) in
    let serve : AreServed g before after (tasks g) mid = (λ t h. (serves t h, (tied g valid plugin t h).low)) in
    let wide : length (all_moved g e past v).servers ≡ length v.servers = length-map last.servers (settled last.clock) ∙ k.numbers ∙ b.numbers in
    record {
      clock = k.clock ∙ b.clock;
      numbers = wide ∙ serving.numbers;
      serves = λ t h. ap (λ xs. get_or xs t None) k.served_by ∙ serves t h;
      each = λ r there here.
          let high = there.high in
          let old : IsResv v r = record { low = there.low; high = omega (arith, high, wide) } in
          let now_there : IsResv mid r = record { low = there.low; high = omega (arith, high, wide, b.numbers) } in
          let is_moved : server (all_moved g e past v) r ≡ moved g r e past (server v r) =
          settled-server g before after mid serve r now_there
          ∙ ap (λ c. settled c (told before after (clients g r) (server mid r))) b.clock
          ∙ ap (λ (s : ServerState). settled (now (e ∷ past)) (told before after (clients g r) s)) (b.each r old) in
          subst (IsStateOf g r (e ∷ past)) (sym is_moved) (move_is_kept g r e past (server v r) (serving.each r old here));
    }

pub all_moved_in_any_order : AllMovedInAnyOrder
all_moved_in_any_order g e past v w valid plugin reachable serving told_it =
    let m = last_move g reachable in
    let b = all-begun g valid plugin v m.0 m.1 serving in
    let mid : Served = all_begun e past v in
    let wide : length (all_settled w).servers ≡ length w.servers = length-map w.servers (settled w.clock) in
    record {
      clock = told_it.clock ∙ b.clock;
      numbers = wide ∙ told_it.numbers ∙ b.numbers ∙ serving.numbers;
      serves = λ t h. ap (λ xs. get_or xs t None) (told_it.served_by ∙ b.served_by) ∙ serving.serves t h;
      each = λ r there here.
          let high = there.high in
          let last : IsResv w r = record { low = there.low; high = omega (arith, high, wide) } in
          let old : IsResv v r = record { low = there.low; high = omega (arith, high, wide, told_it.numbers, b.numbers) } in
          let rs = (server w r).releases in
          let is_settled : server (all_settled w) r ≡ settled (now (e ∷ past)) (record (begun g r e past (server v r)) { releases = rs }) =
          each-server w r (settled w.clock) last
          ∙ ap (λ c. settled c (server w r)) (told_it.clock ∙ b.clock)
          ∙ ap (settled (now (e ∷ past))) (told_it.each r last here ∙ ap (λ (s : ServerState). record s { releases = rs }) (b.each r old)) in
          subst (IsStateOf g r (e ∷ past)) (sym is_settled) (move_is_kept_in_any_order g r e past (server v r) rs (serving.each r old here) (told_it.clients_of r last here));
    }

-- ---- the opening

read-task : (ts : List Task) (f : Task → Option ResvNo) (t : ℕ) → 1 ≤ t → t - 1 < length ts → get_or (None ∷ map f ts) t None ≡ f (get_or ts (t - 1) no_task)
read-task ts f zero low inside = absurd (omega arith)
read-task ts f (suc n) low inside = let e : suc n - 1 ≡ n = omega arith in let slot : n < length ts = omega (arith, inside) in rw e (get_or-map f ts n no_task None slot)

pub opened-serves : (g : Group) (t : ℕ) → IsTied g t → server_of (opened g.setup g.number) t ≡ Some (record { 0 = served_by g t })
unfolding opened task resv
opened-serves g t tie =
    let k : ℕ = served_by g t in
    let least = tie.low in
    let high = tie.high in
    let slot : k - 1 < length g.setup.resvs = omega (arith, least, high) in
    let here : is_resv_here g.setup g.number (slice_get g.setup.resvs (k - 1)) ≡ true = ap (is_resv_here g.setup g.number) (resv-there g.setup.resvs (k - 1) slot) ∙ tie.here in
    let some : nat_lt 0 k ≡ true = grind (arith, nat_tests, least) in
    read-task g.setup.tasks (server_for g.setup g.number) t tie.numbered.0 tie.numbered.1
    ∙ ap (server_here g.setup g.number) tie.resv_is
    ∙ ap (λ b. if b && is_resv_here g.setup g.number (slice_get g.setup.resvs (k - 1)) then Some (record { 0 = k }) else None) some
    ∙ ap (λ b. if b then Some (record { 0 = k }) else None) here

pub opened-server : (g : Group) (r : ℕ) → IsResv (opened g.setup g.number) r → server (opened g.setup g.number) r ≡ opened_server g.setup g.number (resv g r)
unfolding opened resv
opened-server g r there = let l = there.low in let h = there.high in get_or-map (opened_server g.setup g.number) g.setup.resvs (r - 1) no_resv no_server (omega (arith, l, h, length-map g.setup.resvs (opened_server g.setup g.number)))

pub opened-numbers : (g : Group) → length (opened g.setup g.number).servers ≡ length g.setup.resvs
unfolding opened
opened-numbers g = length-map g.setup.resvs (opened_server g.setup g.number)

pub opened-clock : (g : Group) → (opened g.setup g.number).clock ≡ 0
unfolding opened
opened-clock g = refl

pub all_opened_are_serving : AllOpenedAreServing
all_opened_are_serving g valid plugin =
    let first : Served = opened g.setup g.number in
    let before : ℕ → Option ℕ = λ t. None in
    let after : ℕ → Option ℕ = λ t. ready_release g t [] in
    let last : Served = all_told before after (tasks g) first in
    let k = told-keeps g before after (tasks g) first in
    let serve : AreServed g before after (tasks g) first = (λ t h. let tie = tied g valid plugin t h in (opened-serves g t tie, tie.low)) in
    let wide : length (all_opened g).servers ≡ length g.setup.resvs = length-map last.servers (settled last.clock) ∙ k.numbers ∙ opened-numbers g in
    record {
      clock = k.clock ∙ opened-clock g;
      numbers = wide;
      serves = λ t h. ap (λ xs. get_or xs t None) k.served_by ∙ (serve t h).0;
      each = λ r there here.
          let high = there.high in
          let old : IsResv first r = record { low = there.low; high = omega (arith, high, wide, opened-numbers g) } in
          let is_opened : server (all_opened g) r ≡ opening g r (opened_server g.setup g.number (resv g r)) =
          settled-server g before after first serve r old
          ∙ ap (λ c. settled c (told before after (clients g r) (server first r))) (opened-clock g)
          ∙ ap (λ (s : ServerState). settled 0 (told before after (clients g r) s)) (opened-server g r old) in
          subst (IsStateOf g r []) (sym is_opened) (opening_is_kept g r there.low (omega (arith, high, wide)) here);
    }

-- ---- an accepted Work

pub work_may_be_charged : WorkMayBeCharged
unfolding clients
work_may_be_charged g q t act past v valid plugin reachable serving run h =
    let member = (running g (rules_of g valid) reachable q t run).member in
    let tie = tied g valid plugin t member in
    let r : ℕ = served_by g t in
    let high = tie.high in
    let there : IsResv v r = record { low = tie.low; high = omega (arith, high, serving.numbers) } in
    let listed : has t (filter (λ x. served_by g x == r) (tasks g)) ≡ true = has-filter (λ x. served_by g x == r) t (tasks g) ∙ rw (member, equal_self r) refl in
    let busy : works g r (Acted (past_act g q act past)) ≡ true = has-any (λ u. is_work (did u (Acted (past_act g q act past)))) (filter (λ x. served_by g x == r) (tasks g)) t listed h in
    record { resv = there; left = work_finds_budget g r q act past (server v r) plugin (serving.each r there tie.here) busy }
