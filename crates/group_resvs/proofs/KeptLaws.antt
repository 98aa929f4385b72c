-- What is kept of reservations is what the definitions say of the past.
use Rattle.std.proofs.Common.{◌≡◌, ℕ, zero, suc, ◌+◌, ◌-◌, ◌<◌, ◌≤◌, Bool, true, false, ◌&&◌, ◌||◌, ◌⊎◌, inl, inr, List, [], ◌∷◌, length, map, get_or, eqb-true, refl, sym, ap, ◌∙◌, subst, arith}
use Rattle.std.proofs.lemmas.Bool.Decides.{nat_tests}
use Rattle.std.proofs.lemmas.List.{length-map, length-replicate}
use Rattle.std.specs.Prelude.{Option, None, Some, ◌==◌, filter, is_some, nat_lt, replicate, if◌then◌else◌}
use Rattle.rt_base.specs.declared.ResvNo.{ResvNo}
use Rattle.rt_task.specs.RuleWords.{is_p_res}
use Rattle.rt_task.specs.Validity.{IsValid}
use Rattle.rt_task.specs.declared.PluginKind.{PluginKind}
use Rattle.rt_task.specs.declared.ResvKind.{ResvKind}
use Rattle.rt_task.specs.declared.ResvKind.TheVariants.{Polling, Sporadic, Table}
use Rattle.rt_task.specs.declared.PluginKind.TheVariants as plugins
use Rattle.rt_rules.specs.Numbers.{foremost, has, is, same}
use Rattle.rt_rules.specs.Placing.{tasks_in}
use Rattle.rt_rules.proofs.BoolLaws.{both}
use Rattle.rt_rules.proofs.KeyLaws.{foremost-some}
use Rattle.rt_rules.proofs.MemberLaws.{equal_self, has-append, has-filter, is-some}
use Rattle.rt_model.specs.Answers.{no_budget}
use Rattle.rt_model.specs.Group.{Group, clients, resv, served_by, tasks}
use Rattle.rt_model.specs.Past.{Event, Clock, Acted, Past, did, is_work, now}
use Rattle.rt_model.specs.Reachable.{IsReachable}
use Rattle.rt_model.specs.Releases.{ready}
use Rattle.rt_model.specs.Reservations.{earlier, front, left}
use Rattle.rt_model.specs.Tops as model
use Rattle.rt_laws.proofs.Moves.{last_move}
use Rattle.rt_laws.proofs.jobs.Running.{running}
use Rattle.rt_laws.proofs.ValidSets.{rules_of}
use Rattle.rt_plays.proofs.Unreserved.{no_resvs}
use Rattle.rt_changes.specs.Served.{serves}
use Rattle.rt_changes.proofs.rankings.ServedClients.{p_res-is, same-is}
use Rattle.resv_core.specs.Served.{Served, ServerState, IsFront, IsResv, charged, has_ready, is_here, is_over, left_of, opened, refilled_at, server, server_for, server_here, server_of, settled, settled_by, ticked}
use Rattle.resv_core.specs.Kept.{IsShown, IsStateOf, ready_release, told_now}
use Rattle.resv_core.specs.Serving.{IsServing, all_begun, all_settled, at_server, charged_for, for_task, told_each}
use Rattle.resv_core.proofs.KeptLaws.{begun-releases}
use Rattle.rt_task.specs.declared.Task.{Task}
use Rattle.resv_core.proofs.ServingLaws.{all-begun, all_moved_in_any_order, each-server, for_task-keeps, for_task-server, opened-clock, opened-server, resv-kept, work_may_be_charged}
use Rattle.resv_core.proofs.ShownLaws.{state_is_shown}
use Rattle.resv_core.proofs.TellingLaws.{all_opened_in_any_order, clients_are_listed, each_is_told, nobody_is_listed}
use Rattle.resv_core.proofs.ValidClients.{tied}
use Rattle.group_resvs.specs.GroupResvs.{GroupResvs, IsSettled, Serves, all_changed, changed_of, is_served_by, lacks_budget_of, served_at}
use Rattle.group_resvs.specs.Kept.{AreEmptyElsewhere, AreNone, AreServing, KeepsResvs}
use Rattle.group_resvs.specs.Laws.{AreChanged, AreToldOf, IsRead, MoveIsKept, OpeningIsKept, ResvsAreRead, WorkHasUnit, at_opening, told_of_move}

-- ---- under the other plugins

none-told : (f : ℕ → Option ℕ) (ts : List ℕ) (v : Served) → AreNone v → told_each f ts v ≡ v
none-told f [] v none = refl
none-told f (t ∷ ts) v none = ap (told_each f ts) (ap (λ o. at_server o (told_now (f t) t) v) (none.no_client t)) ∙ none-told f ts v none

none-begun : (e : Event) (past : Past) (v : Served) → AreNone v → AreNone (all_begun e past v)
none-begun (Clock tick) past v none = record { no_server = ap (map (ticked v.clock (now (Clock tick ∷ past)))) none.no_server; no_client = none.no_client }
none-begun (Acted d) past v none = by_task d.task
  where
    by_work : (t : ℕ) (b : Bool) → AreNone (if b then for_task t charged v else v)
    by_work t true = subst AreNone (sym (ap (λ o. at_server o charged v) (none.no_client t))) none
    by_work t false = none

    by_task : (o : Option ℕ) → AreNone (charged_for o (Acted d) v)
    by_task None = none
    by_task (Some t) = by_work t (is_work (did t (Acted d)))

none-settled : (v : Served) → AreNone v → AreNone (all_settled v)
none-settled v none = record { no_server = ap (map (settled v.clock)) none.no_server; no_client = none.no_client }

none-opened : (g : Group) → IsValid g.setup → is_p_res g.setup.plugin ≡ false → AreNone (opened g.setup g.number)
unfolding opened
none-opened g valid plain = record {
  no_server = rw (no_resvs g.setup valid plain) refl;
  no_client = λ t. nobody t g.setup.tasks;
}
  where
    none-here : (o : Option ResvNo) → server_here g.setup g.number o ≡ None
    none-here None = refl
    none-here (Some r) = rw (no_resvs g.setup valid plain) (either (nat_lt 0 r.0))
      where
        nothing : Option ResvNo
        nothing = None

        either : (b : Bool) → (if b && false then Some r else nothing) ≡ nothing
        either true = refl
        either false = refl

    at : (ts : List Task) (i : ℕ) → get_or (map (server_for g.setup g.number) ts) i None ≡ None
    at [] i = refl
    at (x ∷ xs) zero = none-here x.resv
    at (x ∷ xs) (suc i) = at xs i

    nobody : (t : ℕ) (ts : List Task) → get_or (None ∷ map (server_for g.setup g.number) ts) t None ≡ None
    nobody zero ts = refl
    nobody (suc t) ts = at ts t

no-length : {A : Type 0} (xs : List A) → length xs ≡ 0 → xs ≡ []
no-length [] h = refl
no-length (x ∷ xs) h = absurd (omega (arith, h))

-- what a settled end is made of
none-ended : (old new : GroupResvs) → AreNone old.resvs → IsSettled old new → AreNone new.resvs × (new.serves ≡ [])
none-ended old new none end =
    let still : AreNone new.resvs = subst AreNone (sym end.resvs) (none-settled old.resvs none) in
    (still, no-length new.serves (end.all ∙ ap length still.no_server))

none-changed : (g : Group) (old new : GroupResvs) → AreNone old.resvs → old.serves ≡ [] → AreNone new.resvs → new.changed ≡ all_changed old.serves new.serves → AreChanged g old new
none-changed g old new none serves still list =
    let empty : new.changed ≡ [] = list ∙ ap (λ os. all_changed os new.serves) serves in
    record {
      inside = λ t h. let no : has t [] ≡ true = subst (λ xs. has t xs ≡ true) empty h in cc;
      others = λ t h k. ap (λ o. is_served_by o new.serves t) (still.no_client t) ∙ sym (ap (λ o. is_served_by o old.serves t) (none.no_client t));
    }

-- ---- under P-RES: reservations of other groups

empty-opened : (g : Group) → AreEmptyElsewhere g (opened g.setup g.number)
empty-opened g r there here = ap (λ (s : ServerState). s.releases) (opened-server g r there) ∙ rw here refl

module _ (g : Group) (valid : IsValid g.setup) (plugin : g.setup.plugin ≡ plugins.PRes) where
  same-elsewhere : (f : ℕ → Option ℕ) (ts : List ℕ) (v : Served) → ((t : ℕ) → has t ts ≡ true → has t (tasks g) ≡ true)
      → ((t : ℕ) → has t (tasks g) ≡ true → server_of v t ≡ Some (record { 0 = served_by g t }))
      → (r : ℕ) → IsResv v r → is_here g.setup g.number (resv g r) ≡ false → server (told_each f ts v) r ≡ server v r
  same-elsewhere f [] v inside serves r there here = refl
  same-elsewhere f (u ∷ us) v inside serves r there here =
      let h : has u (tasks g) ≡ true = inside u (rw (equal_self u) refl) in
      let next : Served = for_task u (told_now (f u) u) v in
      let keeps = for_task-keeps v u (told_now (f u) u) in
      let apart : served_by g u == r ≡ false = other (served_by g u == r) refl (tied g valid plugin u h).here in
      same-elsewhere f us next (λ t k. inside t (or_right (t == u) (has t us) k)) (λ t k. ap (λ xs. get_or xs t None) keeps.served_by ∙ serves t k) r (resv-kept v next r keeps there) here
      ∙ for_task-server v u (served_by g u) r (told_now (f u) u) (serves u h) (tied g valid plugin u h).low there
      ∙ ap (λ b. if b then told_now (f u) u (server v r) else server v r) apart
    where
      or_right : (a b : Bool) → b ≡ true → a || b ≡ true
      or_right true b m = refl
      or_right false b m = m

      other : (b : Bool) → served_by g u == r ≡ b → is_here g.setup g.number (resv g (served_by g u)) ≡ true → b ≡ false
      other true e k = let clash : true ≡ false = sym k ∙ ap (λ x. is_here g.setup g.number (resv g x)) (eqb-true (served_by g u) r e) ∙ here in cc
      other false e k = refl

  settled-releases : (n : ℕ) (s : ServerState) → (settled n s).releases ≡ s.releases
  settled-releases n s = by_kind s.kind
    where
      by_polling : (b : Bool) → (if b then s else record s { lost = true }).releases ≡ s.releases
      by_polling true = refl
      by_polling false = refl

      by_sporadic : (b : Bool) → (if b then refilled_at n s else s).releases ≡ s.releases
      by_sporadic true = refl
      by_sporadic false = refl

      by_kind : (k : ResvKind) → (settled_by k n s).releases ≡ s.releases
      by_kind Polling = by_polling (has_ready s.releases)
      by_kind Sporadic = by_sporadic (has_ready s.releases && is_over n s.period s.refilled)
      by_kind Table = refl

  -- what the end of a move makes of all servers
  ended-server : (w z : Served) (r : ℕ) → z ≡ all_settled w → IsResv z r → IsResv w r × (server z r ≡ settled w.clock (server w r))
  ended-server w z r e there =
      let high = there.high in
      let wide : length z.servers ≡ length w.servers = ap (λ (v : Served). length v.servers) e ∙ length-map w.servers (settled w.clock) in
      let old : IsResv w r = record { low = there.low; high = omega (arith, high, wide) } in
      (old, ap (λ (v : Served). server v r) e ∙ each-server w r (settled w.clock) old)

  empty-ended : (w z : Served) → z ≡ all_settled w → AreEmptyElsewhere g w → AreEmptyElsewhere g z
  empty-ended w z e empty r there here =
      let k = ended-server w z r e there in
      ap (λ (s : ServerState). s.releases) k.1 ∙ settled-releases w.clock (server w r) ∙ empty r k.0 here

  nobody-front : (t : ℕ) → IsFront [] t → ⊥
  nobody-front t f = let s = f.is_ready in cc

  serves-none : (s : ServerState) (o : Option ℕ) → s.releases ≡ [] → Serves s o → o ≡ None
  serves-none s None e h = refl
  serves-none s (Some t) e h = absurd (nobody-front t (subst (λ rs. IsFront rs t) e h.1))

  serves-read : (r : ℕ) (past : Past) (s : ServerState) (o : Option ℕ) → IsStateOf g r past s → Serves s o → o ≡ serves g r past
  serves-read r past s o is h = let shown = state_is_shown g r past s is in by_case o h shown
    where
      by_none : (n : ℕ) (f : Option ℕ) → (n ≡ 0) ⊎ (f ≡ None) → None ≡ (if nat_lt 0 n then f else None)
      by_none n f (inl e) = rw e refl
      by_none n f (inr e) = rw e (either (nat_lt 0 n))
        where
          nothing : Option ℕ
          nothing = None

          either : (b : Bool) → nothing ≡ (if b then nothing else nothing)
          either true = refl
          either false = refl

      by_case : (x : Option ℕ) → Serves s x → IsShown g r past s → x ≡ serves g r past
      by_case None (inl e) shown = by_none (left g r past) (front g r past) (inl (sym shown.left_is ∙ e))
      by_case None (inr e) shown = by_none (left g r past) (front g r past) (inr (shown.no_front e))
      by_case (Some t) k shown =
          let unit : 1 ≤ left g r past = subst (λ n. 1 ≤ n) shown.left_is k.0 in
          let some : nat_lt 0 (left g r past) ≡ true = grind (arith, nat_tests, unit) in
          sym (ap (λ b. if b then front g r past else None) some ∙ shown.front_is t k.1)

  -- ---- the end

  ended : (past : Past) (w z : GroupResvs) → IsServing g past z.resvs → AreEmptyElsewhere g w.resvs → IsSettled w z → AreServing g past z
  ended past w z serving empty end =
      let none = empty-ended w.resvs z.resvs end.resvs empty in
      record {
        serving = serving;
        empty = none;
        all = end.all;
        serve = λ r there here. serves-read r past (server z.resvs r) (served_at z.serves r) (serving.each r there here) (end.serves r there);
        elsewhere = λ r there here. serves-none (server z.resvs r) (served_at z.serves r) (none r there here) (end.serves r there);
      }

  -- ---- the changed clients

  or_none : (a b : Bool) → a || b ≡ false → (a ≡ false) × (b ≡ false)
  or_none true b k = cc
  or_none false b k = (refl, k)

  outside-two : (t : ℕ) (o n : Option ℕ) → has t (changed_of o n) ≡ false → is t n ≡ is t o
  outside-two t o n h = by_case (same o n) refl h
    where
      by_two : (a b : Option ℕ) → has t (tasks_in (a ∷ b ∷ [])) ≡ false → is t b ≡ is t a
      by_two None None k = refl
      by_two None (Some y) k = (or_none (t == y) false k).0
      by_two (Some x) None k = sym (or_none (t == x) false k).0
      by_two (Some x) (Some y) k = let p = or_none (t == x) (t == y || false) k in let q = or_none (t == y) false p.1 in q.0 ∙ sym p.0

      by_case : (b : Bool) → same o n ≡ b → has t (if b then [] else tasks_in (o ∷ n ∷ [])) ≡ false → is t n ≡ is t o
      by_case true e k = ap (is t) (sym (same-is o n e))
      by_case false e k = by_two o n k

  outside-all : (t i : ℕ) (os ns : List (Option ℕ)) → i < length os → i < length ns → has t (all_changed os ns) ≡ false → is t (get_or ns i None) ≡ is t (get_or os i None)
  outside-all t i [] ns low low' h = absurd (omega arith)
  outside-all t i (o ∷ os) [] low low' h = absurd (omega arith)
  outside-all t zero (o ∷ os) (n ∷ ns) low low' h = outside-two t o n (or_none _ _ (sym (has-append t (changed_of o n) (all_changed os ns)) ∙ h)).0
  outside-all t (suc i) (o ∷ os) (n ∷ ns) low low' h =
      outside-all t i os ns (omega (arith, low)) (omega (arith, low')) (or_none _ _ (sym (has-append t (changed_of o n) (all_changed os ns)) ∙ h)).1

  among-two : (t : ℕ) (o n : Option ℕ) → has t (changed_of o n) ≡ true → (is t o ≡ true) ⊎ (is t n ≡ true)
  among-two t o n h = by_case (same o n) h
    where
      or_one : (a b : Bool) → a || b ≡ true → (a ≡ true) ⊎ (b ≡ true)
      or_one true b k = inl refl
      or_one false b k = inr k

      no_more : (b : Bool) → b || false ≡ true → b ≡ true
      no_more true k = refl
      no_more false k = k

      by_two : (a b : Option ℕ) → has t (tasks_in (a ∷ b ∷ [])) ≡ true → (is t a ≡ true) ⊎ (is t b ≡ true)
      by_two None None k = cc
      by_two None (Some y) k = inr (no_more (t == y) k)
      by_two (Some x) None k = inl (no_more (t == x) k)
      by_two (Some x) (Some y) k = split (or_one (t == x) (t == y || false) k)
        where
          split : (t == x ≡ true) ⊎ (t == y || false ≡ true) → (t == x ≡ true) ⊎ (t == y ≡ true)
          split (inl e) = inl e
          split (inr e) = inr (no_more (t == y) e)

      by_case : (b : Bool) → has t (if b then [] else tasks_in (o ∷ n ∷ [])) ≡ true → (is t o ≡ true) ⊎ (is t n ≡ true)
      by_case true k = cc
      by_case false k = by_two o n k

  -- a changed client stands in one of the two lists
  record StandsIn (t : ℕ) (os : List (Option ℕ)) : Type 0 where
    position : ℕ
    low : position < length os
    at : get_or os position None ≡ Some t

  later : (t : ℕ) (o : Option ℕ) (os : List (Option ℕ)) → StandsIn t os → StandsIn t (o ∷ os)
  later t o os k = let low = k.low in record { position = suc k.position; low = omega (arith, low); at = k.at }

  among-all : (t : ℕ) (os ns : List (Option ℕ)) → has t (all_changed os ns) ≡ true → StandsIn t os ⊎ StandsIn t ns
  among-all t [] ns h = cc
  among-all t (o ∷ os) [] h = cc
  among-all t (o ∷ os) (n ∷ ns) h = by_part (has t (changed_of o n)) (has t (all_changed os ns)) refl refl (sym (has-append t (changed_of o n) (all_changed os ns)) ∙ h) (λ k. among-all t os ns k)
    where
      first-of : (is t o ≡ true) ⊎ (is t n ≡ true) → StandsIn t (o ∷ os) ⊎ StandsIn t (n ∷ ns)
      first-of (inl e) = inl (record { position = 0; low = omega arith; at = is-some t o e })
      first-of (inr e) = inr (record { position = 0; low = omega arith; at = is-some t n e })

      rest-of : StandsIn t os ⊎ StandsIn t ns → StandsIn t (o ∷ os) ⊎ StandsIn t (n ∷ ns)
      rest-of (inl k) = inl (later t o os k)
      rest-of (inr k) = inr (later t n ns k)

      by_part : (a b : Bool) → has t (changed_of o n) ≡ a → has t (all_changed os ns) ≡ b → a || b ≡ true
          → (has t (all_changed os ns) ≡ true → StandsIn t os ⊎ StandsIn t ns) → StandsIn t (o ∷ os) ⊎ StandsIn t (n ∷ ns)
      by_part true b e f k more = first-of (among-two t o n e)
      by_part false b e f k more = rest-of (more (f ∙ k))

  serves-client : (r t : ℕ) (past : Past) → serves g r past ≡ Some t → has t (tasks g) ≡ true
  unfolding front clients
  serves-client r t past h = by_case (nat_lt 0 (left g r past)) h
    where
      by_front : foremost (earlier g past) (filter (λ u. ready g u past) (clients g r)) ≡ Some t → has t (tasks g) ≡ true
      by_front k =
          let f = foremost-some (earlier g past) (filter (λ u. ready g u past) (clients g r)) t k in
          let one = (both _ _ (sym (has-filter (λ u. ready g u past) t (clients g r)) ∙ f.0)).0 in
          (both _ _ (sym (has-filter (λ u. served_by g u == r) t (tasks g)) ∙ one)).0

      by_case : (b : Bool) → (if b then front g r past else None) ≡ Some t → has t (tasks g) ≡ true
      by_case true k = by_front k
      by_case false k = cc

  stands-client : (past : Past) (v : GroupResvs) (t : ℕ) → AreServing g past v → StandsIn t v.serves → has t (tasks g) ≡ true
  stands-client past v t are k =
      let low = k.low in
      let r : ℕ = k.position + 1 in
      let there : IsResv v.resvs r = record { low = omega arith; high = omega (arith, low, are.all) } in
      let e : r - 1 ≡ k.position = omega arith in
      let at : served_at v.serves r ≡ Some t = ap (λ i. get_or v.serves i None) e ∙ k.at in
      by_here r there at (is_here g.setup g.number (resv g r)) refl
    where
      by_here : (r : ℕ) → IsResv v.resvs r → served_at v.serves r ≡ Some t → (b : Bool) → is_here g.setup g.number (resv g r) ≡ b → has t (tasks g) ≡ true
      by_here r there at true here = serves-client r t past (sym (are.serve r there here) ∙ at)
      by_here r there at false here = let no : None ≡ Some t = sym (are.elsewhere r there here) ∙ at in cc

  -- what was served before: the client that the past says, or none at the opening
  changed-are : (v z : GroupResvs) (past : Past) → AreServing g past z → ((t : ℕ) → StandsIn t v.serves → has t (tasks g) ≡ true)
      → ((t : ℕ) → has t (tasks g) ≡ true → server_of v.resvs t ≡ Some (record { 0 = served_by g t })) → length v.serves ≡ length z.serves
      → z.changed ≡ all_changed v.serves z.serves → AreChanged g v z
  changed-are v z past are before served same list = record {
    inside = λ t h. from t (among-all t v.serves z.serves (subst (λ xs. has t xs ≡ true) list h));
    others = λ t h k.
        let tie = tied g valid plugin t h in
        let low = tie.low in
        let high = tie.high in
        let r : ℕ = served_by g t in
        let position : r - 1 < length z.serves = omega (arith, low, high, are.all, are.serving.numbers) in
        ap (λ o. is_served_by o z.serves t) (are.serving.serves t h)
        ∙ outside-all t (r - 1) v.serves z.serves (omega (arith, position, same)) position (subst (λ xs. has t xs ≡ false) list k)
        ∙ sym (ap (λ o. is_served_by o v.serves t) (served t h));
  }
    where
      from : (t : ℕ) → StandsIn t v.serves ⊎ StandsIn t z.serves → has t (tasks g) ≡ true
      from t (inl k) = before t k
      from t (inr k) = stands-client past z t are k

  moved : (e : Event) (past : Past) (ts : List ℕ) (old new : GroupResvs) → IsReachable g (e ∷ past) → AreServing g past old → AreToldOf g (λ t. ready_release g t past) (e ∷ past) ts
      → IsSettled (told_of_move g e past ts old) new → AreServing g (e ∷ past) new × AreChanged g old new
  moved e past ts old new made are told_of end =
      let m = last_move g made in
      let b = all-begun g valid plugin old.resvs m.0 m.1 are.serving in
      let mid : Served = all_begun e past old.resvs in
      let w : GroupResvs = told_of_move g e past ts old in
      let serves_mid : (t : ℕ) → has t (tasks g) ≡ true → server_of mid t ≡ Some (record { 0 = served_by g t }) = (λ t h. ap (λ xs. get_or xs t None) b.served_by ∙ are.serving.serves t h) in
      let listed = clients_are_listed g e past old.resvs valid plugin made are.serving in
      let told_it = each_is_told g (λ t. ready_release g t past) (e ∷ past) ts mid valid plugin told_of.inside told_of.others listed in
      let serving : IsServing g (e ∷ past) new.resvs = subst (IsServing g (e ∷ past)) (sym end.resvs) (all_moved_in_any_order g e past old.resvs w.resvs valid plugin made are.serving told_it) in
      let empty : AreEmptyElsewhere g w.resvs = (λ r there here.
      let high = there.high in
      let at_mid : IsResv mid r = record { low = there.low; high = omega (arith, high, told_it.numbers) } in
      let at_old : IsResv old.resvs r = record { low = there.low; high = omega (arith, high, told_it.numbers, b.numbers) } in
      ap (λ (s : ServerState). s.releases) (same-elsewhere (λ t. ready_release g t (e ∷ past)) ts mid told_of.inside serves_mid r at_mid here ∙ b.each r at_old)
      ∙ begun-releases g r e past (server old.resvs r) ∙ are.empty r at_old here) in
      let now_are = ended (e ∷ past) w new serving empty end in
      let same : length old.serves ≡ length new.serves = are.all ∙ are.serving.numbers ∙ sym (now_are.serving.numbers) ∙ sym now_are.all in
      (now_are, changed-are old new (e ∷ past) now_are (λ t k. stands-client past old t are k) are.serving.serves same end.changed)

  first : (ts : List ℕ) (new : GroupResvs) → AreToldOf g (λ t. None) [] ts → IsSettled (at_opening g ts) new → AreServing g [] new × AreChanged g (at_opening g ts) new
  first ts new told_of end =
      let mid : Served = opened g.setup g.number in
      let w : GroupResvs = at_opening g ts in
      let listed = nobody_is_listed g valid plugin in
      let told_it = each_is_told g (λ t. None) [] ts mid valid plugin told_of.inside told_of.others listed in
      let serving : IsServing g [] new.resvs = subst (IsServing g []) (sym end.resvs) (all_opened_in_any_order g w.resvs valid plugin told_it) in
      let empty : AreEmptyElsewhere g w.resvs = (λ r there here.
      let high = there.high in
      let at_mid : IsResv mid r = record { low = there.low; high = omega (arith, high, told_it.numbers) } in
      ap (λ (s : ServerState). s.releases) (same-elsewhere (λ t. ready_release g t []) ts mid told_of.inside listed.serves r at_mid here) ∙ empty-opened g r at_mid here) in
      let now_are = ended [] w new serving empty end in
      let same : length w.serves ≡ length new.serves = length-replicate (length g.setup.resvs) None ∙ sym now_are.serving.numbers ∙ sym now_are.all in
      (now_are, changed-are w new [] now_are (λ t k. absurd (nobody t (length g.setup.resvs) k)) (λ t h. ap (λ xs. get_or xs t None) told_it.served_by ∙ listed.serves t h) same end.changed)
    where
      nothing-at : (n i : ℕ) → get_or (replicate {A = Option ℕ} n None) i None ≡ None
      nothing-at zero i = refl
      nothing-at (suc n) zero = refl
      nothing-at (suc n) (suc i) = nothing-at n i

      nobody : (t n : ℕ) → StandsIn t (replicate n None) → ⊥
      nobody t n k = let no : None ≡ Some t = sym (nothing-at n k.position) ∙ k.at in cc

-- ---- the clock

told-clock : (f : ℕ → Option ℕ) (ts : List ℕ) (v : Served) → (told_each f ts v).clock ≡ v.clock
told-clock f [] v = refl
told-clock f (t ∷ ts) v = told-clock f ts (for_task t (told_now (f t) t) v) ∙ (for_task-keeps v t (told_now (f t) t)).clock

clock-begun : (e : Event) (past : Past) (v : Served) → v.clock ≡ now past → (all_begun e past v).clock ≡ now (e ∷ past)
clock-begun (Clock tick) past v h = refl
clock-begun (Acted d) past v h = by_task d.task ∙ h
  where
    by_work : (t : ℕ) (b : Bool) → (if b then for_task t charged v else v).clock ≡ v.clock
    by_work t true = (for_task-keeps v t charged).clock
    by_work t false = refl

    by_task : (o : Option ℕ) → (charged_for o (Acted d) v).clock ≡ v.clock
    by_task None = refl
    by_task (Some t) = by_work t (is_work (did t (Acted d)))

-- ---- the laws

yes-no : (b : Bool) → b ≡ true → b ≡ false → ⊥
yes-no true h k = cc
yes-no false h k = cc

pub opening_is_kept : OpeningIsKept
opening_is_kept g ts new valid told_of end = by_plugin (is_p_res g.setup.plugin) refl
  where
    clock : new.resvs.clock ≡ 0
    clock = ap (λ (v : Served). v.clock) end.resvs ∙ told-clock (λ t. ready_release g t []) ts (opened g.setup g.number) ∙ opened-clock g

    by_plugin : (b : Bool) → is_p_res g.setup.plugin ≡ b → KeepsResvs g [] new × AreChanged g (at_opening g ts) new
    by_plugin true res =
        let k = first g valid (p_res-is g.setup.plugin res) ts new told_of end in
        (record { clock = clock; reserved = λ h. k.0; unreserved = λ h. absurd (yes-no _ res h) }, k.1)
    by_plugin false res =
        let none = none-opened g valid res in
        let told : AreNone (at_opening g ts).resvs = subst AreNone (sym (none-told (λ t. ready_release g t []) ts (opened g.setup g.number) none)) none in
        let k = none-ended (at_opening g ts) new told end in
        let no : replicate (length g.setup.resvs) None ≡ [] = ap (λ rs. replicate {A = Option ℕ} (length rs) None) (no_resvs g.setup valid res) in
        (record { clock = clock; reserved = λ h. absurd (yes-no _ h res); unreserved = λ h. k }, none-changed g (at_opening g ts) new told no k.0 end.changed)

pub move_is_kept : MoveIsKept
move_is_kept g e past ts old new valid made kept told_of end = by_plugin (is_p_res g.setup.plugin) refl
  where
    clock : new.resvs.clock ≡ now (e ∷ past)
    clock =
        ap (λ (v : Served). v.clock) end.resvs ∙ told-clock (λ t. ready_release g t (e ∷ past)) ts (all_begun e past old.resvs)
        ∙ clock-begun e past old.resvs kept.clock

    by_plugin : (b : Bool) → is_p_res g.setup.plugin ≡ b → KeepsResvs g (e ∷ past) new × AreChanged g old new
    by_plugin true res =
        let k = moved g valid (p_res-is g.setup.plugin res) e past ts old new made (kept.reserved res) told_of end in
        (record { clock = clock; reserved = λ h. k.0; unreserved = λ h. absurd (yes-no _ res h) }, k.1)
    by_plugin false res =
        let was = kept.unreserved res in
        let begun_none = none-begun e past old.resvs was.0 in
        let told : AreNone (told_of_move g e past ts old).resvs = subst AreNone (sym (none-told (λ t. ready_release g t (e ∷ past)) ts (all_begun e past old.resvs) begun_none)) begun_none in
        let k = none-ended (told_of_move g e past ts old) new told end in
        (record { clock = clock; reserved = λ h. absurd (yes-no _ h res); unreserved = λ h. k }, none-changed g old new was.0 was.1 k.0 end.changed)

pub resvs_are_read : ResvsAreRead
unfolding model.is_served no_budget
resvs_are_read g t past v valid kept h = by_plugin (is_p_res g.setup.plugin) refl
  where
    model-served : (p : PluginKind) → p ≡ plugins.PRes → model.is_served g p t past ≡ is t (serves g (served_by g t) past)
    model-served p e = rw e (by_left (nat_lt 0 (left g (served_by g t) past)))
      where
        by_left : (b : Bool) → b && is t (front g (served_by g t) past) ≡ is t (if b then front g (served_by g t) past else None)
        by_left true = refl
        by_left false = refl

    model-plain : (p : PluginKind) → is_p_res p ≡ false → (model.is_served g p t past ≡ true) × (no_budget g p t past ≡ false)
    model-plain plugins.GsnEdf e = (refl, refl)
    model-plain plugins.CEdf e = (refl, refl)
    model-plain plugins.PsnEdf e = (refl, refl)
    model-plain plugins.PFp e = (refl, refl)
    model-plain plugins.PRes e = cc

    model-lacks : (p : PluginKind) → p ≡ plugins.PRes → no_budget g p t past ≡ left g (served_by g t) past == 0
    model-lacks p e = rw e refl

    by_plugin : (b : Bool) → is_p_res g.setup.plugin ≡ b → IsRead g t past v
    by_plugin true res =
        let p : g.setup.plugin ≡ plugins.PRes = p_res-is g.setup.plugin res in
        let are = kept.reserved res in
        let tie = tied g valid p t h in
        let high = tie.high in
        let there : IsResv v.resvs (served_by g t) = record { low = tie.low; high = omega (arith, high, are.serving.numbers) } in
        let mine = are.serving.serves t h in
        let shown = state_is_shown g (served_by g t) past (server v.resvs (served_by g t)) (are.serving.each (served_by g t) there tie.here) in
        record {
          client = ap is_some mine ∙ sym res;
          served = ap (λ o. is_served_by o v.serves t) mine ∙ ap (is t) (are.serve (served_by g t) there tie.here) ∙ sym (model-served g.setup.plugin p);
          lacks = ap (λ o. lacks_budget_of o v.resvs) mine ∙ ap (λ n. n == 0) shown.left_is ∙ sym (model-lacks g.setup.plugin p);
        }
    by_plugin false res =
        let none = (kept.unreserved res).0 in
        let plain = model-plain g.setup.plugin res in
        record {
          client = ap is_some (none.no_client t) ∙ sym res;
          served = ap (λ o. is_served_by o v.serves t) (none.no_client t) ∙ sym plain.0;
          lacks = ap (λ o. lacks_budget_of o v.resvs) (none.no_client t) ∙ sym plain.1;
        }

pub work_has_unit : WorkHasUnit
work_has_unit g q t act past v valid made kept run works = λ r mine. by_plugin r mine (is_p_res g.setup.plugin) refl
  where
    by_plugin : (r : ResvNo) → server_of v.resvs t ≡ Some r → (b : Bool) → is_p_res g.setup.plugin ≡ b → 1 ≤ left_of (server v.resvs r.0)
    by_plugin r mine true res =
        let p : g.setup.plugin ≡ plugins.PRes = p_res-is g.setup.plugin res in
        let are = kept.reserved res in
        let may = work_may_be_charged g q t act past v.resvs valid p made are.serving run works in
        let member = (running g (rules_of g valid) made q t run).member in
        let same : Some (record { 0 = served_by g t }) ≡ Some r = sym (are.serving.serves t member) ∙ mine in
        let number : served_by g t ≡ r.0 = cc in
        subst (λ n. 1 ≤ left_of (server v.resvs n)) number may.left
    by_plugin r mine false res = let no : None ≡ Some r = sym ((kept.unreserved res).0.no_client t) ∙ mine in cc
