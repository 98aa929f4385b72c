-- Worked sets at the limits of the rules of names.
use Rattle.std.specs.Prelude.{◌≡◌, ℕ, true, false, List, [], ◌∷◌, map, replicate, refl}
use Rattle.rt_task.specs.declared.Act.{Act}
use Rattle.rt_task.specs.declared.Op.{Op}
use Rattle.rt_task.specs.declared.Op.TheVariants as ops
use Rattle.rt_task.specs.declared.Parts.{Parts}
use Rattle.rt_task.specs.declared.PluginKind.TheVariants as plugins
use Rattle.rt_task.specs.declared.Protocol.TheVariants.{Fmlp}
use Rattle.rt_task.specs.declared.ResvKind.TheVariants.{Polling}
use Rattle.rt_task.specs.declared.bad_set.Part.TheVariants as parts
use Rattle.rt_task.specs.declared.bad_set.SetKind.TheVariants as kinds
use Rattle.rt_task.specs.RuleWords.{is_name_byte}
use Rattle.rt_model.specs.worked.Samples.{cluster_with, sem_under, sem_no, reservation, periodic, using, client_of, with_body, step_of}
use Rattle.rt_model.specs.worked.Samples.{arrive, lock, unlock}
use Rattle.rt_laws.specs.worked.EdgeCases.{rules_computed}
use Rattle.rt_laws.specs.worked.RuleCases.{refusals, valid, refused, called, sem_called, resv_called, set_of, with_steps, with_second}

-- ---- the form of a name: 1 to 32 letters, digits, `_` and `-`

-- the second task has this name
abbrev pub second_named : List ℕ → Parts
second_named name =
    set_of plugins.GsnEdf (cluster_with 1 0 ∷ []) [] [] (
    called 97 (periodic 1 1 10 10) ∷
    record (periodic 2 1 10 10) { name = name } ∷
    [])

pub length-of-a-name :
    refusals (λ n. second_named (replicate n 98)) (0 ∷ 1 ∷ 32 ∷ 33 ∷ [])
    ≡ refused kinds.Name parts.Task 1 ∷ valid ∷ valid ∷ refused kinds.Name parts.Task 1 ∷ []
unfolding rules_computed
length-of-a-name = refl

-- each byte of a name is tested, the last one too
pub letters-of-a-name :
    refusals second_named ((98 ∷ 45 ∷ 98 ∷ []) ∷ (98 ∷ 98 ∷ 46 ∷ []) ∷ (46 ∷ 98 ∷ []) ∷ [])
    ≡ valid ∷ refused kinds.Name parts.Task 1 ∷ refused kinds.Name parts.Task 1 ∷ []
unfolding rules_computed
letters-of-a-name = refl

-- the bytes at the ends of the digits, the capital letters and the small letters, each with the next one outside
pub bytes-of-digits : map is_name_byte (47 ∷ 48 ∷ 57 ∷ 58 ∷ []) ≡ false ∷ true ∷ true ∷ false ∷ []
unfolding rules_computed
bytes-of-digits = refl

pub bytes-of-capitals : map is_name_byte (64 ∷ 65 ∷ 90 ∷ 91 ∷ []) ≡ false ∷ true ∷ true ∷ false ∷ []
unfolding rules_computed
bytes-of-capitals = refl

pub bytes-of-small-letters : map is_name_byte (96 ∷ 97 ∷ 122 ∷ 123 ∷ []) ≡ false ∷ true ∷ true ∷ false ∷ []
unfolding rules_computed
bytes-of-small-letters = refl

-- and `-` and `_`, each between two that are not
pub bytes-of-lines : map is_name_byte (44 ∷ 45 ∷ 46 ∷ 94 ∷ 95 ∷ 96 ∷ []) ≡ false ∷ true ∷ false ∷ false ∷ true ∷ false ∷ []
unfolding rules_computed
bytes-of-lines = refl

-- ---- a name stands once among the semaphores, the reservations and the tasks, and may stand in each of these

abbrev pub third_names : ℕ → ℕ → Parts
third_names s t =
    set_of plugins.GsnEdf (cluster_with 1 0 ∷ [])
    (sem_called 97 (sem_under Fmlp) ∷ sem_called 98 (sem_under Fmlp) ∷ sem_called s (sem_under Fmlp) ∷ []) [] (
    called 97 (periodic 1 1 10 10) ∷
    called 98 (periodic 2 1 10 10) ∷
    called t (periodic 3 1 10 10) ∷
    [])

pub names-of-semaphores :
    refusals (λ s. third_names s 99) (97 ∷ 98 ∷ 99 ∷ 46 ∷ [])
    ≡ refused kinds.Name parts.Sem 2 ∷ refused kinds.Name parts.Sem 2 ∷ valid ∷ refused kinds.Name parts.Sem 2 ∷ []
unfolding rules_computed
names-of-semaphores = refl

pub names-of-tasks :
    refusals (λ t. third_names 99 t) (97 ∷ 98 ∷ 99 ∷ 46 ∷ [])
    ≡ refused kinds.Name parts.Task 2 ∷ refused kinds.Name parts.Task 2 ∷ valid ∷ refused kinds.Name parts.Task 2 ∷ []
unfolding rules_computed
names-of-tasks = refl

pub names-of-reservations :
    refusals (λ r. set_of plugins.PRes (cluster_with 1 0 ∷ []) []
    (resv_called 97 (reservation Polling 1 10 1) ∷ resv_called 98 (reservation Polling 1 10 1) ∷ resv_called r (reservation Polling 1 10 1) ∷ [])
    (called 97 (client_of 1 (periodic 1 1 10 10)) ∷ [])) (97 ∷ 98 ∷ 99 ∷ 46 ∷ [])
    ≡ refused kinds.Name parts.Resv 2 ∷ refused kinds.Name parts.Resv 2 ∷ valid ∷ refused kinds.Name parts.Resv 2 ∷ []
unfolding rules_computed
names-of-reservations = refl

-- ---- numbers that stand for something

-- a task has the number of its position
pub number-of-a-task :
    refusals (λ n. with_second (periodic n 1 10 10)) (1 ∷ 2 ∷ 3 ∷ [])
    ≡ refused kinds.Name parts.Task 1 ∷ valid ∷ refused kinds.Name parts.Task 1 ∷ []
unfolding rules_computed
number-of-a-task = refl

-- two semaphores and a second task
abbrev pub with_user : List ℕ → List Op → Parts
with_user uses body =
    set_of plugins.GsnEdf (cluster_with 1 0 ∷ []) (sem_called 115 (sem_under Fmlp) ∷ sem_called 116 (sem_under Fmlp) ∷ []) [] (
    called 97 (periodic 1 1 10 10) ∷
    called 98 (with_body body (using uses (periodic 2 1 10 10))) ∷
    [])

pub semaphores-of-a-task :
    refusals (λ uses. with_user uses [])
    ((0 ∷ []) ∷ (1 ∷ 2 ∷ []) ∷ (1 ∷ 3 ∷ []) ∷ (1 ∷ 1 ∷ []) ∷ (2 ∷ 1 ∷ 2 ∷ []) ∷ [])
    ≡ refused kinds.Name parts.Task 1
    ∷ valid
    ∷ refused kinds.Name parts.Task 1
    ∷ refused kinds.Name parts.Task 1
    ∷ refused kinds.Name parts.Task 1
    ∷ []
unfolding rules_computed
semaphores-of-a-task = refl

pub locked-in-a-body :
    refusals (λ s. with_user (1 ∷ 2 ∷ []) (ops.Lock (sem_no s) ∷ ops.Unlock (sem_no s) ∷ ops.End ∷ [])) (0 ∷ 2 ∷ 3 ∷ [])
    ≡ refused kinds.Name parts.Task 1 ∷ valid ∷ refused kinds.Name parts.Task 1 ∷ []
unfolding rules_computed
locked-in-a-body = refl

pub unlocked-in-a-body :
    refusals (λ s. with_user (1 ∷ 2 ∷ []) (ops.Lock (sem_no 2) ∷ ops.Unlock (sem_no s) ∷ ops.End ∷ [])) (0 ∷ 2 ∷ 3 ∷ [])
    ≡ refused kinds.Name parts.Task 1 ∷ valid ∷ refused kinds.Name parts.Task 1 ∷ []
unfolding rules_computed
unlocked-in-a-body = refl

pub reservation-of-a-task :
    refusals (λ r. set_of plugins.PRes (cluster_with 1 0 ∷ []) []
    (resv_called 114 (reservation Polling 1 10 1) ∷ resv_called 115 (reservation Polling 1 10 1) ∷ [])
    (called 97 (client_of 1 (periodic 1 1 10 10)) ∷ called 98 (client_of r (periodic 2 1 10 10)) ∷ [])) (0 ∷ 2 ∷ 3 ∷ [])
    ≡ refused kinds.Name parts.Task 1 ∷ valid ∷ refused kinds.Name parts.Task 1 ∷ []
unfolding rules_computed
reservation-of-a-task = refl

-- ---- steps, of a set with two tasks and two semaphores

abbrev pub with_act : Act → Parts
with_act act = with_steps (step_of 0 0 (arrive 1) ∷ step_of 0 0 act ∷ []) (with_user (1 ∷ 2 ∷ []) [])

pub task-of-a-step :
    refusals (λ t. with_act (arrive t)) (0 ∷ 2 ∷ 3 ∷ [])
    ≡ refused kinds.Name parts.Step 1 ∷ valid ∷ refused kinds.Name parts.Step 1 ∷ []
unfolding rules_computed
task-of-a-step = refl

pub locked-by-a-step :
    refusals (λ s. with_act (lock s)) (0 ∷ 2 ∷ 3 ∷ [])
    ≡ refused kinds.Name parts.Step 1 ∷ valid ∷ refused kinds.Name parts.Step 1 ∷ []
unfolding rules_computed
locked-by-a-step = refl

pub unlocked-by-a-step :
    refusals (λ s. with_act (unlock s)) (0 ∷ 2 ∷ 3 ∷ [])
    ≡ refused kinds.Name parts.Step 1 ∷ valid ∷ refused kinds.Name parts.Step 1 ∷ []
unfolding rules_computed
unlocked-by-a-step = refl
