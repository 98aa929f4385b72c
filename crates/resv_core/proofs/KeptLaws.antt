-- What is kept of a reservation, move by move.
use Rattle.std.proofs.Common.{◌≡◌, ℕ, zero, suc, ◌+◌, ◌/◌, ◌<◌, ◌≤◌, Bool, true, false, not, ◌&&◌, ◌||◌, List, [], ◌∷◌, length, refl, sym, ap, ◌∙◌, subst, arith, ltb-false}
use Rattle.std.specs.Prelude.{Option, None, Some, nat_lt, filter, replicate, unwrap_or, if◌then◌else◌}
use Rattle.std.specs.List.{list_any}
use Rattle.std.proofs.lemmas.List.{length-replicate}
use Rattle.rt_task.specs.declared.ResvKind.{ResvKind}
use Rattle.rt_task.specs.declared.Slot.{Slot}
use Rattle.rt_task.specs.declared.ResvKind.TheVariants.{Polling, Sporadic, Table}
use Rattle.rt_rules.specs.Distinct.{IsDistinct}
use Rattle.rt_rules.specs.Numbers.{has, is, numbers_from}
use Rattle.rt_rules.proofs.BoolLaws.{both}
use Rattle.rt_rules.proofs.MemberLaws.{has-filter, is_one}
use Rattle.rt_rules.proofs.NumberLaws.{distinct-numbers_from, numbers_from-below}
use Rattle.rt_rules.proofs.PlacingLaws.{distinct-filter}
use Rattle.rt_model.specs.Group.{Group, clients, home, in_group, resv, tasks}
use Rattle.rt_model.specs.Past.{Event, Clock, Acted, Past, PastAct, accepted, did, is_work, now, operation}
use Rattle.rt_model.specs.Releases.{ready, release}
use Rattle.rt_model.specs.Reservations.{any_ready, begins_period, first_refill, is_due, is_loss, is_lost, is_refill, refilled, spent, works_for}
use Rattle.resv_core.specs.Served.{ServerState, charged, charged_by, has_ready, is_here, is_over, opened_server, in_slot_at, in_slot_by, refilled_at, release_at, settled, settled_by, ticked, ticked_by}
use Rattle.resv_core.specs.Served as words
use Rattle.resv_core.specs.declared.server.InSlot.{InSlot}
use Rattle.resv_core.specs.Kept.{AreClientsOf, IsStateOf, MoveIsKept, MoveIsKeptInAnyOrder, OpeningIsKept, begun, counted, opening, ready_release, told, works}
use Rattle.resv_core.proofs.Told.{any-has, count_once, has-any, iff, ready-some, some-ready, told-keeps, told-length, told-table}

-- ---- a reservation by its parts

abbrev pub state : ResvKind → ℕ → ℕ → List Slot → Option InSlot → List (Option ℕ) → Option ℕ → ℕ → Bool → ServerState
state k b p sl is rs fl sp lo = record { kind = k; budget = b; period = p; slots = sl; releases = rs; refilled = fl; spent = sp; lost = lo; in_slot = is }

-- ---- the clients

pub distinct-clients : (g : Group) (r : ℕ) → IsDistinct (clients g r)
unfolding clients tasks
distinct-clients g r = distinct-filter _ (tasks g) (distinct-filter _ _ (distinct-numbers_from 1 (length g.setup.tasks)))

-- a client's number is that of a task of the set
pub client-numbered : (g : Group) (r t : ℕ) → has t (clients g r) ≡ true → t < length g.setup.tasks + 1
unfolding clients tasks
client-numbered g r t h =
    let in_tasks : has t (filter (λ u. in_group g (home g u)) (numbers_from 1 (length g.setup.tasks))) ≡ true = (both _ _ (rw has-filter at h)).0 in
    let low = numbers_from-below t 1 (length g.setup.tasks) (both _ _ (rw has-filter at in_tasks)).0 in
    omega (arith, low)

-- a client is ready where the releases say so
pub table-ready : (g : Group) (r : ℕ) (past : Past) (rs : List (Option ℕ)) → ((t : ℕ) → release_at rs t ≡ (if has t (clients g r) then ready_release g t past else None)) → has_ready rs ≡ any_ready g r past
unfolding any_ready
table-ready g r past rs table = iff (has_ready rs) (list_any (λ t. ready g t past) (clients g r)) forth back
  where
    is_ready : (t d : ℕ) (a b : Bool) → (if a then (if b then Some (unwrap_or (release g t past) 0) else None) else None) ≡ Some d → (a ≡ true) × (b ≡ true)
    is_ready t d true true h = (refl, refl)
    is_ready t d true false h = cc
    is_ready t d false b h = cc

    forth : has_ready rs ≡ true → list_any (λ t. ready g t past) (clients g r) ≡ true
    forth h =
        let q = some-ready rs h in
        let two = is_ready q.0 q.1 (has q.0 (clients g r)) (ready g q.0 past) (sym (table q.0) ∙ q.2) in
        has-any (λ t. ready g t past) (clients g r) q.0 two.0 two.1

    back : list_any (λ t. ready g t past) (clients g r) ≡ true → has_ready rs ≡ true
    back h =
        let q = any-has (λ t. ready g t past) (clients g r) h in
        let at : release_at rs q.0 ≡ Some (unwrap_or (release g q.0 past) 0) = table q.0 ∙ rw (q.1, q.2) refl in
        ready-some rs q.0 (unwrap_or (release g q.0 past) 0) at

-- at most one client works in a move
pub works-once : (g : Group) (r : ℕ) (e : Event) → works_for g r e ≡ (if works g r e then 1 else 0)
unfolding works_for
works-once g r e = count_once (λ t. is_work (did t e)) (once e) (clients g r) (distinct-clients g r)
  where
    does : (t : ℕ) (d : PastAct) → is_work (did t (Acted d)) ≡ true → is t d.task ≡ true
    does t d h = by_case (is t d.task) (accepted d.reply) h
      where
        by_case : (a b : Bool) → is_work (if a && b then operation d.act else None) ≡ true → a ≡ true
        by_case true b k = refl
        by_case false b k = cc

    once : (e : Event) (t u : ℕ) → is_work (did t e) ≡ true → is_work (did u e) ≡ true → t ≡ u
    once (Clock tick) t u h k = cc
    once (Acted d) t u h k = is_one t u d.task (does t d h) (does u d k)

-- ---- settling

module _ (sl : List Slot) (is : Option InSlot) where
  polling-settled : (n b p : ℕ) (rs : List (Option ℕ)) (fl : Option ℕ) (sp : ℕ) (lo a : Bool) → has_ready rs ≡ a → settled n (state Polling b p sl is rs fl sp lo) ≡ state Polling b p sl is rs fl sp (not a || lo)
  polling-settled n b p rs fl sp lo true h = rw h refl
  polling-settled n b p rs fl sp lo false h = rw h refl

  sporadic-settled : (n b p : ℕ) (rs : List (Option ℕ)) (fl : Option ℕ) (sp : ℕ) (lo x : Bool) → has_ready rs && is_over n p fl ≡ x → settled n (state Sporadic b p sl is rs fl sp lo) ≡ state Sporadic b p sl is rs (if x then Some n else fl) (if x then 0 else sp) (not x && lo)
  sporadic-settled n b p rs fl sp lo true h = rw h refl
  sporadic-settled n b p rs fl sp lo false h = rw h refl

  polling-begun : (n b p : ℕ) (rs rs' : List (Option ℕ)) (fl : Option ℕ) (sp sp' : ℕ) (lo x : Bool) → sp ≡ sp' → record (if x then refilled_at n (state Polling b p sl is rs fl sp lo) else state Polling b p sl is rs fl sp lo) { releases = rs' } ≡ state Polling b p sl is rs' (if x then Some n else fl) (if x then 0 else sp') (not x && lo)
  polling-begun n b p rs rs' fl sp sp' lo true e = refl
  polling-begun n b p rs rs' fl sp sp' lo false e = ap (λ m. state Polling b p sl is rs' fl m lo) e

  acted-begun : (k : ResvKind) (b p : ℕ) (rs rs' : List (Option ℕ)) (fl : Option ℕ) (sp : ℕ) (lo y : Bool) → record (if y then charged (state k b p sl is rs fl sp lo) else state k b p sl is rs fl sp lo) { releases = rs' } ≡ state k b p sl is rs' fl (sp + counted k (if y then 1 else 0)) lo
  acted-begun Polling b p rs rs' fl sp lo true = refl
  acted-begun Polling b p rs rs' fl sp lo false = ap (λ m. state Polling b p sl is rs' fl m lo) (let e : sp ≡ sp + 0 = omega arith in e)
  acted-begun Sporadic b p rs rs' fl sp lo true = refl
  acted-begun Sporadic b p rs rs' fl sp lo false = ap (λ m. state Sporadic b p sl is rs' fl m lo) (let e : sp ≡ sp + 0 = omega arith in e)
  acted-begun Table b p rs rs' fl sp lo true = ap (λ m. state Table b p sl is rs' fl m lo) (let e : sp ≡ sp + 0 = omega arith in e)
  acted-begun Table b p rs rs' fl sp lo false = ap (λ m. state Table b p sl is rs' fl m lo) (let e : sp ≡ sp + 0 = omega arith in e)

-- a table as the clock moves
table-begun : (old n b p : ℕ) (sl : List Slot) (rs rs' : List (Option ℕ)) (fl : Option ℕ) (sp : ℕ) (lo : Bool) → old ≤ n → record (ticked old n (state Table b p sl (in_slot_at p sl old) rs fl sp lo)) { releases = rs' } ≡ state Table b p sl (in_slot_at p sl n) rs' fl (sp + 0) lo
table-begun old n b p sl rs rs' fl sp lo low = by_case (nat_lt old n) refl ∙ ap (λ m. state Table b p sl (in_slot_at p sl n) rs' fl m lo) (let e : sp ≡ sp + 0 = omega arith in e)
  where
    by_case : (x : Bool) → nat_lt old n ≡ x → record (if x then record (state Table b p sl (in_slot_at p sl old) rs fl sp lo) { in_slot = in_slot_at p sl n } else state Table b p sl (in_slot_at p sl old) rs fl sp lo) { releases = rs' } ≡ state Table b p sl (in_slot_at p sl n) rs' fl sp lo
    by_case true e = refl
    by_case false e = let same : old ≡ n = (let high = ltb-false old n e in omega (arith, high, low)) in ap (λ m. state Table b p sl (in_slot_at p sl m) rs' fl sp lo) same

over-due : (g : Group) (n p : ℕ) (fl : Option ℕ) → is_over n p fl ≡ is_due g n p fl
unfolding is_due
over-due g n p None = refl
over-due g n p (Some last) = refl

-- ---- a move

-- what the definitions make of a state in a move
abbrev defined : (g : Group) → ℕ → Event → Past → ResvKind → ℕ → List (Option ℕ) → Option ℕ → ℕ → Bool → ServerState
defined g r e past k b rs fl sp lo = state k b (resv g r).period (resv g r).slots (in_slot_by k (resv g r).period (resv g r).slots (now (e ∷ past))) rs (if is_refill g k r e past fl then Some (now (e ∷ past)) else fl) (if is_refill g k r e past fl then 0 else sp + counted k (works_for g r e)) (is_loss g k r (e ∷ past) || not (is_refill g k r e past fl) && lo)

module _ (g : Group) (r : ℕ) (past : Past) (b : ℕ) (rs rs' : List (Option ℕ)) (fl : Option ℕ) (sp : ℕ) (lo : Bool) where
  no_work : (tick : ℕ) → sp ≡ sp + works_for g r (Clock tick)
  no_work tick = let e : works_for g r (Clock tick) ≡ 0 = works-once g r (Clock tick) ∙ ap (λ y. if y then 1 else 0) (nobody (clients g r)) in omega (arith, e)
    where
      nobody : (cs : List ℕ) → list_any (λ t. is_work (did t (Clock tick))) cs ≡ false
      nobody [] = refl
      nobody (c ∷ cs) = nobody cs

  one_work : (k : ResvKind) (e : Event) → sp + counted k (if works g r e then 1 else 0) ≡ sp + counted k (works_for g r e)
  one_work k e = ap (λ n. sp + counted k n) (sym (works-once g r e))

  abbrev slots : List Slot
  slots = (resv g r).slots

  kept-by : (k : ResvKind) (e : Event) → has_ready rs' ≡ any_ready g r (e ∷ past) → settled (now (e ∷ past)) (record (begun g r e past (state k b (resv g r).period slots (in_slot_by k (resv g r).period slots (now past)) rs fl sp lo)) { releases = rs' }) ≡ defined g r e past k b rs' fl sp lo
  unfolding is_refill is_loss begins_period
  kept-by Polling (Clock tick) h =
      ap (settled (now (Clock tick ∷ past))) (polling-begun slots None (now (Clock tick ∷ past)) b (resv g r).period rs rs' fl sp (sp + works_for g r (Clock tick)) lo (nat_lt (now past / (resv g r).period) (now (Clock tick ∷ past) / (resv g r).period)) (no_work tick))
      ∙ polling-settled slots None (now (Clock tick ∷ past)) b (resv g r).period rs' _ _ _ (any_ready g r (Clock tick ∷ past)) h
  kept-by Polling (Acted d) h =
      ap (settled (now (Acted d ∷ past))) (acted-begun slots None Polling b (resv g r).period rs rs' fl sp lo (works g r (Acted d)))
      ∙ polling-settled slots None (now (Acted d ∷ past)) b (resv g r).period rs' fl _ lo (any_ready g r (Acted d ∷ past)) h
      ∙ ap (λ m. state Polling b (resv g r).period slots None rs' fl m (not (any_ready g r (Acted d ∷ past)) || lo)) (one_work Polling (Acted d))
  kept-by Sporadic (Clock tick) h =
      let n : ℕ = now (Clock tick ∷ past) in
      let x : Bool = any_ready g r (Clock tick ∷ past) && is_due g n (resv g r).period fl in
      let test : has_ready rs' && is_over n (resv g r).period fl ≡ x = rw (h, over-due g n (resv g r).period fl) refl in
      sporadic-settled slots None n b (resv g r).period rs' fl sp lo x test
      ∙ ap (λ m. state Sporadic b (resv g r).period slots None rs' (if x then Some n else fl) (if x then 0 else m) (not x && lo)) (no_work tick)
  kept-by Sporadic (Acted d) h =
      let n : ℕ = now (Acted d ∷ past) in
      let x : Bool = any_ready g r (Acted d ∷ past) && is_due g n (resv g r).period fl in
      let test : has_ready rs' && is_over n (resv g r).period fl ≡ x = rw (h, over-due g n (resv g r).period fl) refl in
      ap (settled n) (acted-begun slots None Sporadic b (resv g r).period rs rs' fl sp lo (works g r (Acted d)))
      ∙ sporadic-settled slots None n b (resv g r).period rs' fl _ lo x test
      ∙ ap (λ m. state Sporadic b (resv g r).period slots None rs' (if x then Some n else fl) (if x then 0 else m) (not x && lo)) (one_work Sporadic (Acted d))
  kept-by Table (Clock tick) h = ap (settled (now (Clock tick ∷ past))) (table-begun (now past) (now (Clock tick ∷ past)) b (resv g r).period slots rs rs' fl sp lo (omega arith))
  kept-by Table (Acted d) h =
      ap (settled (now (Acted d ∷ past))) (acted-begun slots (in_slot_at (resv g r).period slots (now past)) Table b (resv g r).period rs rs' fl sp lo (works g r (Acted d)))
      ∙ ap (λ m. state Table b (resv g r).period slots (in_slot_at (resv g r).period slots (now past)) rs' fl m lo) (one_work Table (Acted d))

-- a state that is that of the past, by the definitions
abbrev standing : (g : Group) → ℕ → Past → List (Option ℕ) → ServerState
standing g r past rs =
    state (resv g r).kind (resv g r).budget (resv g r).period (resv g r).slots (in_slot_by (resv g r).kind (resv g r).period (resv g r).slots (now past))
    rs (refilled g r past) (counted (resv g r).kind (spent g r past)) (is_lost g r past)

pub state-standing : (g : Group) (r : ℕ) (past : Past) (s : ServerState) → IsStateOf g r past s → s ≡ standing g r past s.releases
state-standing g r past s is =
    ap (λ k. state k s.budget s.period s.slots s.in_slot s.releases s.refilled s.spent s.lost) is.kind
    ∙ ap (λ b. state (resv g r).kind b s.period s.slots s.in_slot s.releases s.refilled s.spent s.lost) is.budget
    ∙ ap (λ p. state (resv g r).kind (resv g r).budget p s.slots s.in_slot s.releases s.refilled s.spent s.lost) is.period
    ∙ ap (λ l. state (resv g r).kind (resv g r).budget (resv g r).period l s.in_slot s.releases s.refilled s.spent s.lost) is.slots
    ∙ ap (λ i. state (resv g r).kind (resv g r).budget (resv g r).period (resv g r).slots i s.releases s.refilled s.spent s.lost) is.in_slot
    ∙ ap (λ f. state (resv g r).kind (resv g r).budget (resv g r).period (resv g r).slots (in_slot_by (resv g r).kind (resv g r).period (resv g r).slots (now past)) s.releases f s.spent s.lost) is.refilled
    ∙ ap (λ n. state (resv g r).kind (resv g r).budget (resv g r).period (resv g r).slots (in_slot_by (resv g r).kind (resv g r).period (resv g r).slots (now past)) s.releases (refilled g r past) n s.lost) is.spent
    ∙ ap (λ l. state (resv g r).kind (resv g r).budget (resv g r).period (resv g r).slots (in_slot_by (resv g r).kind (resv g r).period (resv g r).slots (now past)) s.releases (refilled g r past) (counted (resv g r).kind (spent g r past)) l) is.lost

pub standing-state : (g : Group) (r : ℕ) (past : Past) (rs : List (Option ℕ)) → AreClientsOf g r past rs → IsStateOf g r past (standing g r past rs)
standing-state g r past rs are = record { kind = refl; budget = refl; period = refl; slots = refl; refilled = refl; spent = refl; lost = refl; in_slot = refl; clients_of = are }

pub begun-releases : (g : Group) (r : ℕ) (e : Event) (past : Past) (s : ServerState) → (begun g r e past s).releases ≡ s.releases
begun-releases g r (Clock tick) past s = by_kind s.kind
  where
    by_refill : (x : Bool) → (if x then refilled_at (now (Clock tick ∷ past)) s else s).releases ≡ s.releases
    by_refill true = refl
    by_refill false = refl

    by_kind : (k : ResvKind) → (ticked_by k (now past) (now (Clock tick ∷ past)) s).releases ≡ s.releases
    by_kind Polling = by_refill (nat_lt (now past / s.period) (now (Clock tick ∷ past) / s.period))
    by_kind Sporadic = refl
    by_kind Table = by_slot (nat_lt (now past) (now (Clock tick ∷ past)))
      where
        by_slot : (x : Bool) → (if x then record s { in_slot = in_slot_at s.period s.slots (now (Clock tick ∷ past)) } else s).releases ≡ s.releases
        by_slot true = refl
        by_slot false = refl
begun-releases g r (Acted d) past s = by_work (works g r (Acted d))
  where
    by_kind : (k : ResvKind) → (charged_by k s).releases ≡ s.releases
    by_kind Polling = refl
    by_kind Sporadic = refl
    by_kind Table = refl

    by_work : (y : Bool) → (if y then charged s else s).releases ≡ s.releases
    by_work true = by_kind s.kind
    by_work false = refl

-- what is counted of what was worked since
counted-moved : (k : ResvKind) (x : Bool) (a b : ℕ) → counted k (if x then 0 else a + b) ≡ (if x then 0 else counted k a + counted k b)
counted-moved Polling x a b = refl
counted-moved Sporadic x a b = refl
counted-moved Table true a b = refl
counted-moved Table false a b = refl

standing-moved : (g : Group) (r : ℕ) (e : Event) (past : Past) (rs rs' : List (Option ℕ)) → has_ready rs' ≡ any_ready g r (e ∷ past) → settled (now (e ∷ past)) (record (begun g r e past (standing g r past rs)) { releases = rs' }) ≡ standing g r (e ∷ past) rs'
unfolding refilled spent is_lost
standing-moved g r e past rs rs' h =
    kept-by g r past (resv g r).budget rs rs' (refilled g r past) (counted (resv g r).kind (spent g r past)) (is_lost g r past) (resv g r).kind e h
    ∙ ap (λ n. state (resv g r).kind (resv g r).budget (resv g r).period (resv g r).slots (in_slot_by (resv g r).kind (resv g r).period (resv g r).slots (now (e ∷ past))) rs' (refilled g r (e ∷ past)) n (is_lost g r (e ∷ past)))
    (sym (counted-moved (resv g r).kind (is_refill g (resv g r).kind r e past (refilled g r past)) (spent g r past) (works_for g r e)))

pub move_is_kept_in_any_order : MoveIsKeptInAnyOrder
move_is_kept_in_any_order g r e past s rs is are =
    let any : has_ready rs ≡ any_ready g r (e ∷ past) = table-ready g r (e ∷ past) rs are.ready_at in
    let becomes : settled (now (e ∷ past)) (record (begun g r e past s) { releases = rs }) ≡ standing g r (e ∷ past) rs =
    ap (λ (z : ServerState). settled (now (e ∷ past)) (record (begun g r e past z) { releases = rs })) (state-standing g r past s is)
    ∙ standing-moved g r e past s.releases rs any in
    subst (IsStateOf g r (e ∷ past)) (sym becomes) (standing-state g r (e ∷ past) rs are)

pub move_is_kept : MoveIsKept
move_is_kept g r e past s is =
    let mid : ServerState = begun g r e past s in
    let before : ℕ → Option ℕ = λ t. ready_release g t past in
    let after : ℕ → Option ℕ = λ t. ready_release g t (e ∷ past) in
    let last : ServerState = told before after (clients g r) mid in
    let same : mid.releases ≡ s.releases = begun-releases g r e past s in
    let inside : (t : ℕ) → has t (clients g r) ≡ true → t < length mid.releases = (λ t h. subst (λ rs. t < length rs) (sym same) (is.clients_of.room t h)) in
    let had : (u : ℕ) → release_at mid.releases u ≡ (if has u (clients g r) then before u else None) = (λ u. ap (λ rs. release_at rs u) same ∙ is.clients_of.ready_at u) in
    let are : AreClientsOf g r (e ∷ past) last.releases = record {
      ready_at = told-table before after (clients g r) mid inside had;
      room = λ t h. let low = inside t h in omega (arith, low, told-length before after (clients g r) mid);
    } in
    subst (IsStateOf g r (e ∷ past)) (ap (settled (now (e ∷ past))) (sym (told-keeps before after (clients g r) mid))) (move_is_kept_in_any_order g r e past s last.releases is are)

-- ---- the opening

opened-settled : (g : Group) (r : ℕ) (k : ResvKind) (b p : ℕ) (sl : List Slot) (rs : List (Option ℕ)) → has_ready rs ≡ any_ready g r [] → settled 0 (state k b p sl (in_slot_by k p sl 0) rs (words.first_refill k) 0 false) ≡ state k b p sl (in_slot_by k p sl 0) rs (first_refill g k r) (counted k 0) (is_loss g k r [])
unfolding first_refill is_loss
opened-settled g r Polling b p sl rs h = polling-settled sl None 0 b p rs (Some 0) 0 false (any_ready g r []) h ∙ ap (λ l. state Polling b p sl None rs (Some 0) 0 l) (or_false (any_ready g r []))
  where
    or_false : (a : Bool) → not a || false ≡ not a
    or_false true = refl
    or_false false = refl
opened-settled g r Sporadic b p sl rs h = sporadic-settled sl None 0 b p rs None 0 false (any_ready g r []) (test (has_ready rs) h) ∙ by_case (any_ready g r [])
  where
    test : (a : Bool) → a ≡ any_ready g r [] → a && true ≡ any_ready g r []
    test true e = e
    test false e = e

    by_case : (x : Bool) → state Sporadic b p sl None rs (if x then Some 0 else None) (if x then 0 else 0) (not x && false) ≡ state Sporadic b p sl None rs (if x then Some 0 else None) 0 false
    by_case true = refl
    by_case false = refl
opened-settled g r Table b p sl rs h = refl

pub none_there : (n u : ℕ) → release_at (replicate n None) u ≡ None
none_there zero u = refl
none_there (suc n) zero = refl
none_there (suc n) (suc u) = none_there n u

pub standing-opened : (g : Group) (r : ℕ) (rs : List (Option ℕ)) → has_ready rs ≡ any_ready g r [] → settled 0 (state (resv g r).kind (resv g r).budget (resv g r).period (resv g r).slots (in_slot_by (resv g r).kind (resv g r).period (resv g r).slots 0) rs (words.first_refill (resv g r).kind) 0 false) ≡ standing g r [] rs
unfolding refilled spent is_lost
standing-opened g r rs h = opened-settled g r (resv g r).kind (resv g r).budget (resv g r).period (resv g r).slots rs h

-- in whatever order the clients are told
pub opening_in_any_order : (g : Group) (r : ℕ) (rs : List (Option ℕ)) → AreClientsOf g r [] rs → IsStateOf g r [] (settled 0 (record (opened_server g.setup g.number (resv g r)) { releases = rs }))
opening_in_any_order g r rs are = subst (IsStateOf g r []) (sym (standing-opened g r rs (table-ready g r [] rs are.ready_at))) (standing-state g r [] rs are)

pub opened-releases : (g : Group) (r : ℕ) → is_here g.setup g.number (resv g r) ≡ true → length (opened_server g.setup g.number (resv g r)).releases ≡ length g.setup.tasks + 1
opened-releases g r here = length-replicate _ _ ∙ ap (λ b. if b then length g.setup.tasks + 1 else 0) here

pub opening_is_kept : OpeningIsKept
opening_is_kept g r low high here =
    let first : ServerState = opened_server g.setup g.number (resv g r) in
    let before : ℕ → Option ℕ = λ t. None in
    let after : ℕ → Option ℕ = λ t. ready_release g t [] in
    let last : ServerState = told before after (clients g r) first in
    let wide : length first.releases ≡ length g.setup.tasks + 1 = opened-releases g r here in
    let inside : (t : ℕ) → has t (clients g r) ≡ true → t < length first.releases = (λ t h. let small = client-numbered g r t h in omega (arith, small, wide)) in
    let had : (u : ℕ) → release_at first.releases u ≡ (if has u (clients g r) then before u else None) = (λ u. none_there _ u ∙ sym (either_none (has u (clients g r)))) in
    let are : AreClientsOf g r [] last.releases = record {
      ready_at = told-table before after (clients g r) first inside had;
      room = λ t h. let small = inside t h in omega (arith, small, told-length before after (clients g r) first);
    } in
    let any : has_ready last.releases ≡ any_ready g r [] = table-ready g r [] last.releases are.ready_at in
    let becomes : opening g r first ≡ standing g r [] last.releases = ap (settled 0) (told-keeps before after (clients g r) first) ∙ standing-opened g r last.releases any in
    subst (IsStateOf g r []) (sym becomes) (standing-state g r [] last.releases are)
  where
    nothing : Option ℕ
    nothing = None

    either_none : (b : Bool) → (if b then nothing else nothing) ≡ nothing
    either_none true = refl
    either_none false = refl
