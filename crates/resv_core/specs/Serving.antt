-- All reservations of a group, and what the calls of a move make of them together. Each word for a call is what that call of `Resvs`
-- promises.
use Rattle.std.specs.Prelude.{◌≡◌, ℕ, ◌<◌, ◌≤◌, true, false, List, [], ◌∷◌, length, Option, None, Some, if◌then◌else◌}
use Rattle.rt_base.specs.declared.ResvNo.{ResvNo}
use Rattle.rt_task.specs.Validity.{IsValid}
use Rattle.rt_task.specs.declared.Act.{Act}
use Rattle.rt_task.specs.declared.PluginKind.TheVariants.{PRes}
use Rattle.rt_rules.specs.Numbers.{has, same}
use Rattle.rt_model.specs.Group.{Group, clients, resv, served_by, tasks}
use Rattle.rt_model.specs.Reachable.{IsReachable}
use Rattle.rt_model.specs.Outcomes.{past_act}
use Rattle.rt_model.specs.Past.{Event, Clock, Acted, Past, now, did, is_work}
use Rattle.rt_model.specs.Runs.{runs}
use Rattle.resv_core.specs.Served.{Served, ServerState, IsResv, charged, is_here, left_of, opened, release_at, server, server_of, settled}
use Rattle.resv_core.specs.Served.{ticked}
use Rattle.resv_core.specs.Served.{with_each, with_server}
use Rattle.resv_core.specs.Kept.{AreClientsOf, IsStateOf, ready_release, told_now}

-- a call for a task: the reservation that serves it changes
abbrev pub at_server : Option ResvNo → (ServerState → ServerState) → Served → Served
at_server None change v = v
at_server (Some r) change v = with_server v r.0 (change (server v r.0))

abbrev pub for_task : ℕ → (ServerState → ServerState) → Served → Served
for_task t change v = at_server (server_of v t) change v

-- `tick`
abbrev pub clock_to : ℕ → Served → Served
clock_to clock v = record (with_each (ticked v.clock clock) v) { clock = clock }

-- `charge`, for a task that worked
abbrev pub charged_for : Option ℕ → Event → Served → Served
charged_for None e v = v
charged_for (Some t) e v = if is_work (did t e) then for_task t charged v else v

abbrev pub all_begun : Event → Past → Served → Served
all_begun (Clock tick) past v = clock_to (now (Clock tick ∷ past)) v
all_begun (Acted d) past v = charged_for d.task (Acted d) v

-- `client_ready` and `client_gone`, for each task whose readiness or release changed
abbrev pub all_told : (ℕ → Option ℕ) → (ℕ → Option ℕ) → List ℕ → Served → Served
all_told before after [] v = v
all_told before after (t ∷ ts) v = all_told before after ts (if same (before t) (after t) then v else for_task t (told_now (after t) t) v)

-- `client_ready` or `client_gone`, for each of some tasks
abbrev pub told_each : (ℕ → Option ℕ) → List ℕ → Served → Served
told_each releases [] v = v
told_each releases (t ∷ ts) v = told_each releases ts (for_task t (told_now (releases t) t) v)

-- `settle`
abbrev pub all_settled : Served → Served
all_settled v = with_each (settled v.clock) v

module _ (g : Group) where
  abbrev pub all_moved : Event → Past → Served → Served
  all_moved e past v =
      all_settled (all_told (λ t. ready_release g t past) (λ t. ready_release g t (e ∷ past)) (tasks g) (all_begun e past v))

  abbrev pub all_opened : Served
  all_opened = all_settled (all_told (λ t. None) (λ t. ready_release g t []) (tasks g) (opened g.setup g.number))

  -- the state of each reservation of the group is that of the past
  pub record IsServing (past : Past) (v : Served) : Type 0 where
    pub clock : v.clock ≡ now past
    pub numbers : length v.servers ≡ length g.setup.resvs
    pub serves : (t : ℕ) → has t (tasks g) ≡ true → server_of v t ≡ Some (record { 0 = served_by g t })
    pub each : (r : ℕ) → IsResv v r → is_here g.setup g.number (resv g r) ≡ true → IsStateOf g r past (server v r)

  -- clients alone were told between two states, and the releases are those of the past
  pub record AreTold (past : Past) (old new : Served) : Type 0 where
    pub clock : new.clock ≡ old.clock
    pub numbers : length new.servers ≡ length old.servers
    pub served_by : new.served_by ≡ old.served_by
    pub each : (r : ℕ) → IsResv new r → is_here g.setup g.number (resv g r) ≡ true →
        server new r ≡ record (server old r) { releases = (server new r).releases }
    pub clients_of : (r : ℕ) → IsResv new r → is_here g.setup g.number (resv g r) ≡ true →
        AreClientsOf g r past (server new r).releases

  -- each task has its reservation, and the clients that are ready stand there with these releases
  pub record AreListed (releases : ℕ → Option ℕ) (v : Served) : Type 0 where
    pub serves : (t : ℕ) → has t (tasks g) ≡ true → server_of v t ≡ Some (record { 0 = served_by g t })
    pub ready_at : (r : ℕ) → IsResv v r → is_here g.setup g.number (resv g r) ≡ true → (t : ℕ)
        → release_at (server v r).releases t ≡ (if has t (clients g r) then releases t else None)
    pub room : (r : ℕ) → IsResv v r → is_here g.setup g.number (resv g r) ≡ true → (t : ℕ) → has t (clients g r) ≡ true
        → t < length (server v r).releases

-- ---- the laws, in each group of a valid set under P-RES

-- Where all tasks are told whose readiness or release changed, the clients are told.
abbrev pub EachIsTold : Type 0
EachIsTold = (g : Group) (before : ℕ → Option ℕ) (past : Past) (ts : List ℕ) (v : Served) → IsValid g.setup → g.setup.plugin ≡ PRes →
    ((t : ℕ) → has t ts ≡ true → has t (tasks g) ≡ true) →
    ((t : ℕ) → has t (tasks g) ≡ true → has t ts ≡ false → before t ≡ ready_release g t past) →
    AreListed g before v → AreTold g past v (told_each (λ t. ready_release g t past) ts v)

-- At the opening nobody is listed.
abbrev pub NobodyIsListed : Type 0
NobodyIsListed = (g : Group) → IsValid g.setup → g.setup.plugin ≡ PRes → AreListed g (λ t. None) (opened g.setup g.number)

-- As a move begins the clients are listed with their releases in the past before it.
abbrev pub ClientsAreListed : Type 0
ClientsAreListed = (g : Group) (e : Event) (past : Past) (v : Served) → IsValid g.setup → g.setup.plugin ≡ PRes →
    IsReachable g (e ∷ past) → IsServing g past v → AreListed g (λ t. ready_release g t past) (all_begun e past v)

-- At the opening the state of all reservations is that of the empty past, in whatever order the clients are told.
abbrev pub AllOpenedInAnyOrder : Type 0
AllOpenedInAnyOrder = (g : Group) (w : Served) → IsValid g.setup → g.setup.plugin ≡ PRes →
    AreTold g [] (opened g.setup g.number) w → IsServing g [] (all_settled w)

-- At the opening the state of all reservations is that of the empty past.
abbrev pub AllOpenedAreServing : Type 0
AllOpenedAreServing = (g : Group) → IsValid g.setup → g.setup.plugin ≡ PRes → IsServing g [] (all_opened g)

-- The calls of a move make the state of all reservations that of the longer past.
abbrev pub AllMovedAreServing : Type 0
AllMovedAreServing = (g : Group) (e : Event) (past : Past) (v : Served) → IsValid g.setup → g.setup.plugin ≡ PRes →
    IsReachable g (e ∷ past) → IsServing g past v → IsServing g (e ∷ past) (all_moved g e past v)

-- So they do in whatever order the clients are told.
abbrev pub AllMovedInAnyOrder : Type 0
AllMovedInAnyOrder = (g : Group) (e : Event) (past : Past) (v w : Served) → IsValid g.setup → g.setup.plugin ≡ PRes →
    IsReachable g (e ∷ past) → IsServing g past v →
    AreTold g (e ∷ past) (all_begun e past v) w → IsServing g (e ∷ past) (all_settled w)

-- A task that runs and does an accepted Work has a reservation of the group with a unit left.
pub record MayBeCharged (v : Served) (r : ℕ) : Type 0 where
  pub resv : IsResv v r
  pub left : 1 ≤ left_of (server v r)

abbrev pub WorkMayBeCharged : Type 0
WorkMayBeCharged = (g : Group) (q t : ℕ) (act : Act) (past : Past) (v : Served) → IsValid g.setup → g.setup.plugin ≡ PRes →
    IsReachable g past → IsServing g past v → runs q past ≡ Some t → is_work (did t (Acted (past_act g q act past))) ≡ true →
    MayBeCharged v (served_by g t)
