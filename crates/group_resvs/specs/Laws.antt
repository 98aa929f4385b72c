-- The laws of what is kept of reservations: move by move it is what the definitions say of the past.
use Rattle.std.specs.Prelude.{◌≡◌, ℕ, true, false, List, [], ◌∷◌, length, Option, None, Some, is_some, replicate}
use Rattle.rt_task.specs.RuleWords.{is_p_res}
use Rattle.rt_task.specs.Validity.{IsValid}
use Rattle.rt_task.specs.declared.Act.{Act}
use Rattle.rt_rules.specs.Numbers.{has}
use Rattle.rt_model.specs.Answers.{no_budget}
use Rattle.rt_model.specs.Group.{Group, tasks}
use Rattle.rt_model.specs.Outcomes.{past_act}
use Rattle.rt_model.specs.Past.{Event, Acted, Past, did, is_work}
use Rattle.rt_model.specs.Reachable.{IsReachable}
use Rattle.rt_model.specs.Runs.{runs}
use Rattle.rt_model.specs.Tops as model
use Rattle.resv_core.specs.Served.{opened, server_of}
use Rattle.resv_core.specs.Kept.{ready_release}
use Rattle.resv_core.specs.Serving.{all_begun, told_each}
use Rattle.group_resvs.specs.GroupResvs.{GroupResvs, HasUnit, IsSettled, is_served, lacks_budget}
use Rattle.group_resvs.specs.Kept.{KeepsResvs}

-- some tasks of the group are told, and no other one's readiness or release changed
pub record AreToldOf (g : Group) (before : ℕ → Option ℕ) (past : Past) (ts : List ℕ) : Type 0 where
  pub inside : (t : ℕ) → has t ts ≡ true → has t (tasks g) ≡ true
  pub others : (t : ℕ) → has t (tasks g) ≡ true → has t ts ≡ false → before t ≡ ready_release g t past

-- the tasks that are listed as changed are clients of the group, and each other task is served as before
pub record AreChanged (g : Group) (old new : GroupResvs) : Type 0 where
  pub inside : (t : ℕ) → has t new.changed ≡ true → has t (tasks g) ≡ true
  pub others : (t : ℕ) → has t (tasks g) ≡ true → has t new.changed ≡ false → is_served new t ≡ is_served old t

-- ---- the laws, in each group of a valid set

abbrev pub at_opening : Group → List ℕ → GroupResvs
at_opening g ts = record {
  resvs = told_each (λ t. ready_release g t []) ts (opened g.setup g.number);
  serves = replicate (length g.setup.resvs) None;
  changed = [];
}

-- The opening, once the clients are told and it is settled, is that of the empty past.
abbrev pub OpeningIsKept : Type 0
OpeningIsKept = (g : Group) (ts : List ℕ) (new : GroupResvs) → IsValid g.setup → AreToldOf g (λ t. None) [] ts
    → IsSettled (at_opening g ts) new → KeepsResvs g [] new × AreChanged g (at_opening g ts) new

-- a move is begun, and these tasks are told
abbrev pub told_of_move : Group → Event → Past → List ℕ → GroupResvs → GroupResvs
told_of_move g e past ts v = record v { resvs = told_each (λ t. ready_release g t (e ∷ past)) ts (all_begun e past v.resvs) }

-- A move, once its clients are told and it is settled, makes what is kept that of the longer past.
abbrev pub MoveIsKept : Type 0
MoveIsKept = (g : Group) (e : Event) (past : Past) (ts : List ℕ) (old new : GroupResvs) → IsValid g.setup → IsReachable g (e ∷ past)
    → KeepsResvs g past old → AreToldOf g (λ t. ready_release g t past) (e ∷ past) ts
    → IsSettled (told_of_move g e past ts old) new → KeepsResvs g (e ∷ past) new × AreChanged g old new

-- what is read off for a task of the group
pub record IsRead (g : Group) (t : ℕ) (past : Past) (v : GroupResvs) : Type 0 where
  pub client : is_some (server_of v.resvs t) ≡ is_p_res g.setup.plugin
  pub served : is_served v t ≡ model.is_served g g.setup.plugin t past
  pub lacks : lacks_budget v.resvs t ≡ no_budget g g.setup.plugin t past

-- Whether a task is served and whether its reservation has budget left are as the model says.
abbrev pub ResvsAreRead : Type 0
ResvsAreRead = (g : Group) (t : ℕ) (past : Past) (v : GroupResvs) → IsValid g.setup → KeepsResvs g past v → has t (tasks g) ≡ true
    → IsRead g t past v

-- A task that does an accepted Work may be charged.
abbrev pub WorkHasUnit : Type 0
WorkHasUnit = (g : Group) (q t : ℕ) (act : Act) (past : Past) (v : GroupResvs) → IsValid g.setup → IsReachable g past → KeepsResvs g past v
    → runs q past ≡ Some t → is_work (did t (Acted (past_act g q act past))) ≡ true → HasUnit v.resvs t
