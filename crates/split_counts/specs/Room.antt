-- How many entries a partition may still make in a semaphore's history, and how many grants it may still post, by its script.
use Rattle.std.specs.Prelude.{◌≡◌, ℕ, ◌<◌, ◌≤◌, Bool, true, false, List, ◌∷◌, ◌++◌, length, filter}
use Rattle.rt_task.specs.declared.Act.{Act}
use Rattle.rt_task.specs.declared.Act.TheVariants as acts
use Rattle.rt_task.specs.declared.Op.TheVariants as ops
use Rattle.rt_task.specs.declared.Step.{Step}
use Rattle.rt_model.specs.Group.{Group}
use Rattle.split_rules.specs.Matching.{Books, own}
use Rattle.split_rules.specs.PartHistories.{past_of, steps_of}
use Rattle.split_rules.specs.PartPast.{Claim, Deed, Frees, PartPast, TaskDeed, deeds}
use Rattle.split_rules.specs.declared.SplitEntry.{SplitEntry}
use Rattle.split_laws.specs.Counts.{count_steps, names_sem}
use Rattle.split_laws.specs.Parts.{HasSeen}
use Rattle.split_laws.specs.Posts.{HasPosted}

-- an Unlock of any semaphore
abbrev pub is_unlock : Act → Bool
is_unlock (acts.Do (ops.Unlock s)) = true
is_unlock _ = false

-- the deeds by which tasks freed semaphores
abbrev pub is_freeing : Deed → Bool
is_freeing Frees = true
is_freeing _ = false

abbrev pub freed : List TaskDeed → List TaskDeed
freed ds = filter (λ (d : TaskDeed). is_freeing d.deed) ds

-- the entries of processor q are a first part of its script, in which step x comes next
pub record ComesNext (script : List Step) (q : ℕ) (es : List SplitEntry) (x : Step) : Type 0 where
  pub rest : List Step
  pub parts : script ≡ steps_of q es ++ x ∷ rest

-- A partition freed semaphores at most as often as the steps that it has played unlock one.
abbrev pub FreedAreUnlocks : Type 0
FreedAreUnlocks = (g : Group) (q : ℕ) (es : List SplitEntry)
    → length (freed (deeds (past_of g q es))) ≤ count_steps is_unlock (steps_of q es)

-- While a step comes that locks or unlocks semaphore s, the processor has fewer entries in its history than the script has such steps.
abbrev pub EntriesHaveRoom : Type 0
EntriesHaveRoom = (g : Group) (q s : ℕ) (books : Books) (es : List SplitEntry) (script : List Step) (x : Step)
    → HasSeen g q books (past_of g q es) → ComesNext script q es x → names_sem s x.act ≡ true
    → length (own q (books s)) < count_steps (names_sem s) script

-- It has posted at most as many grants to each other as it freed semaphores.
abbrev pub PostedAreFreed : Type 0
PostedAreFreed = (g : Group) (q r : ℕ) (books : Books) (past : PartPast) (posted : ℕ → List Claim)
    → HasSeen g q books past → HasPosted g q books posted → length (posted r) ≤ length (freed (deeds past))

-- While a step comes that unlocks a semaphore, it has posted fewer grants to each other than the script has such steps.
abbrev pub PostsHaveRoom : Type 0
PostsHaveRoom = (g : Group) (q r : ℕ) (books : Books) (posted : ℕ → List Claim) (es : List SplitEntry) (script : List Step) (x : Step)
    → HasSeen g q books (past_of g q es) → HasPosted g q books posted → ComesNext script q es x → is_unlock x.act ≡ true
    → length (posted r) < count_steps is_unlock script
