-- What is kept of a reservation against its definitions over the past, and what the calls of a move make of it.
use Rattle.std.specs.Prelude.{◌≡◌, ℕ, ◌<◌, ◌≤◌, Bool, true, false, List, [], ◌∷◌, length, Option, None, Some, unwrap_or, if◌then◌else◌}
use Rattle.std.specs.List.{list_any}
use Rattle.rt_task.specs.declared.Act.{Act}
use Rattle.rt_task.specs.declared.PluginKind.TheVariants.{PRes}
use Rattle.rt_task.specs.declared.ResvKind.{ResvKind}
use Rattle.rt_task.specs.declared.ResvKind.TheVariants.{Table}
use Rattle.rt_rules.specs.Numbers.{has, same}
use Rattle.rt_model.specs.Group.{Group, clients, resv}
use Rattle.rt_model.specs.Outcomes.{past_act}
use Rattle.rt_model.specs.Past.{Event, Clock, Acted, Past, now, did, is_work}
use Rattle.rt_model.specs.Releases.{ready, release}
use Rattle.rt_model.specs.Reservations.{any_ready, front, is_lost, last, left, refilled, spent}
use Rattle.resv_core.specs.Served.{ServerState, IsFront, charged, gone, has_ready, is_here, last_of, left_of, opened_server, in_slot_by}
use Rattle.resv_core.specs.Served.{readied}
use Rattle.resv_core.specs.Served.{release_at, settled, ticked}

-- each client whose readiness or release changed is told
abbrev pub told_now : Option ℕ → ℕ → ServerState → ServerState
told_now None t s = gone t s
told_now (Some d) t s = readied t d s

abbrev pub told : (ℕ → Option ℕ) → (ℕ → Option ℕ) → List ℕ → ServerState → ServerState
told before after [] s = s
told before after (t ∷ ts) s = told before after ts (if same (before t) (after t) then s else told_now (after t) t s)

-- the work that is counted of a reservation: none of a table
abbrev pub counted : ResvKind → ℕ → ℕ
counted Table works = 0
counted _ works = works

module _ (g : Group) where
  -- the release of a task's current job, where it is there and does not sleep
  abbrev pub ready_release : ℕ → Past → Option ℕ
  ready_release t past = if ready g t past then Some (unwrap_or (release g t past) 0) else None

  -- the releases are those of the ready clients, and there is room for each client
  pub record AreClientsOf (r : ℕ) (past : Past) (releases : List (Option ℕ)) : Type 0 where
    pub ready_at : (t : ℕ) → release_at releases t ≡ (if has t (clients g r) then ready_release t past else None)
    pub room : (t : ℕ) → has t (clients g r) ≡ true → t < length releases

  -- the state of a reservation is that of the past
  pub record IsStateOf (r : ℕ) (past : Past) (s : ServerState) : Type 0 where
    pub kind : s.kind ≡ (resv g r).kind
    pub budget : s.budget ≡ (resv g r).budget
    pub period : s.period ≡ (resv g r).period
    pub slots : s.slots ≡ (resv g r).slots
    pub refilled : s.refilled ≡ refilled g r past
    pub spent : s.spent ≡ counted (resv g r).kind (spent g r past)
    pub lost : s.lost ≡ is_lost g r past
    pub in_slot : s.in_slot ≡ in_slot_by (resv g r).kind (resv g r).period (resv g r).slots (now past)
    pub clients_of : AreClientsOf r past s.releases

  -- ---- the calls of a move

  abbrev pub works : ℕ → Event → Bool
  works r e = list_any (λ t. is_work (did t e)) (clients g r)

  -- a move of the clock brings a tick, and an accepted Work of a client a charge
  abbrev pub begun : ℕ → Event → Past → ServerState → ServerState
  begun r (Clock tick) past s = ticked (now past) (now (Clock tick ∷ past)) s
  begun r (Acted d) past s = if works r (Acted d) then charged s else s

  abbrev pub moved : ℕ → Event → Past → ServerState → ServerState
  moved r e past s =
      settled (now (e ∷ past)) (told (λ t. ready_release t past) (λ t. ready_release t (e ∷ past)) (clients g r) (begun r e past s))

  -- at the opening, no client was ready before
  abbrev pub opening : ℕ → ServerState → ServerState
  opening r s = settled 0 (told (λ t. None) (λ t. ready_release t []) (clients g r) s)

-- ---- the laws

-- At the opening the state of each reservation of the group is that of the empty past.
abbrev pub OpeningIsKept : Type 0
OpeningIsKept = (g : Group) (r : ℕ) → 1 ≤ r → r ≤ length g.setup.resvs → is_here g.setup g.number (resv g r) ≡ true →
    IsStateOf g r [] (opening g r (opened_server g.setup g.number (resv g r)))

-- The calls of a move make the state that of the longer past.
abbrev pub MoveIsKept : Type 0
MoveIsKept = (g : Group) (r : ℕ) (e : Event) (past : Past) (s : ServerState) → IsStateOf g r past s →
    IsStateOf g r (e ∷ past) (moved g r e past s)

-- So they do however the clients are told, once the releases are those of the longer past.
abbrev pub MoveIsKeptInAnyOrder : Type 0
MoveIsKeptInAnyOrder = (g : Group) (r : ℕ) (e : Event) (past : Past) (s : ServerState) (releases : List (Option ℕ)) →
    IsStateOf g r past s → AreClientsOf g r (e ∷ past) releases →
    IsStateOf g r (e ∷ past) (settled (now (e ∷ past)) (record (begun g r e past s) { releases = releases }))

-- An accepted Work of a client finds a unit left, so that it may be charged.
abbrev pub WorkFindsBudget : Type 0
WorkFindsBudget = (g : Group) (r q : ℕ) (act : Act) (past : Past) (s : ServerState) → g.setup.plugin ≡ PRes → IsStateOf g r past s →
    works g r (Acted (past_act g q act past)) ≡ true → 1 ≤ left_of s

-- What is shown of the state is what the definitions say of the past.
pub record IsShown (g : Group) (r : ℕ) (past : Past) (s : ServerState) : Type 0 where
  pub left_is : left_of s ≡ left g r past
  pub last_is : last_of s ≡ last g r past
  pub some_ready : has_ready s.releases ≡ any_ready g r past
  pub front_is : (t : ℕ) → IsFront s.releases t → front g r past ≡ Some t
  pub no_front : has_ready s.releases ≡ false → front g r past ≡ None

abbrev pub StateIsShown : Type 0
StateIsShown = (g : Group) (r : ℕ) (past : Past) (s : ServerState) → IsStateOf g r past s → IsShown g r past s
