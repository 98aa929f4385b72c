-- The history of a partition that plays its script, as contracts see it; and what a step of it does, as far as the partition says it alone.
use Rattle.std.specs.Prelude.{◌≡◌, ℕ, ◌-◌, ◌<◌, ◌≤◌, Bool, true, false, List, [], ◌∷◌, ◌++◌, length, None, Some}
use Rattle.rt_base.specs.declared.Ask.{Ask}
use Rattle.rt_base.specs.declared.SemNo.{SemNo}
use Rattle.rt_base.specs.declared.TaskNo.{TaskNo}
use Rattle.rt_task.specs.Validity.{IsValid}
use Rattle.rt_task.specs.declared.Parts.{Parts}
use Rattle.rt_task.specs.declared.Step.{Step}
use Rattle.rt_rules.specs.declared.history.Reply.{Reply}
use Rattle.rt_rules.specs.declared.history.Reply.TheVariants as replies
use Rattle.rt_rules.specs.Numbers.{has}
use Rattle.rt_model.specs.Group.{Group, sems}
use Rattle.rt_model.specs.Past.{Clock, now}
use Rattle.rt_plays.specs.Drives.{steps_given}
use Rattle.rt_plays.specs.Room.{processor_count}
use Rattle.rt_plays.specs.Scripts.{script, ArePartOf}
use Rattle.split_set.specs.SplitSets.{is_split_set}
use Rattle.split_rules.specs.PartAnswers.{answer, asked}
use Rattle.split_rules.specs.PartHistories.{IsLegalFrom, after, past_of, steps_of}
use Rattle.split_rules.specs.PartPast.{Asks as AsksDeed, Frees as FreesDeed, Moved, PartPast, TaskDeed, deeds, moves}
use Rattle.split_rules.specs.PartSems.{awaiting, holding}
use Rattle.split_rules.specs.Partitions.{part_group}
use Rattle.split_rules.specs.SemHistories.{seat_of}
use Rattle.split_rules.specs.declared.SplitAct.TheVariants.{Plain, Take}
use Rattle.split_rules.specs.declared.SplitEntry.{SplitEntry}
use Rattle.split_laws.specs.Counts.{names_sem}
use Rattle.split_counts.specs.Room.{ComesNext, is_unlock}
use Rattle.part_state.specs.Replies.{reply_by}
use Rattle.part_state.specs.declared.replies.PartReply.{PartReply}
use Rattle.part_state.specs.declared.replies.PartReply.TheVariants.{Asks, Frees, Is}
use Rattle.part_player.specs.declared.player.Begun.{Begun}

pub record PlayerOf : Type 0 where
  pub setup : Parts
  pub cpu : ℕ
  pub entries : List SplitEntry
  -- whether the next step was begun
  pub begun : Bool
  -- for how many entries more there is room
  pub room : ℕ

abbrev pub unplayed : Parts → ℕ → ℕ → PlayerOf
unplayed p q room = record { setup = p; cpu = q; entries = []; begun = false; room = room }

abbrev pub has_entry : SplitEntry → PlayerOf → PlayerOf
has_entry e a = record a { entries = a.entries ++ e ∷ []; begun = false; room = a.room - 1 }

abbrev pub group_of : PlayerOf → Group
group_of a = part_group a.setup a.cpu

abbrev pub past_at : PlayerOf → PartPast
past_at a = past_of (group_of a) a.cpu a.entries

-- the script of a processor of a set
abbrev pub own_script : Parts → ℕ → List Step
own_script p q = script (steps_given p.drive) q

-- the processor is one of a split set
pub record IsOfSplit (p : Parts) (q : ℕ) : Type 0 where
  pub valid : IsValid p
  pub split : is_split_set p ≡ true
  pub there : q < processor_count p

-- a legal history of the processor's partition, whose steps are a first part of its script
pub record IsPlayed (p : Parts) (q : ℕ) (es : List SplitEntry) : Type 0 where
  pub of_split : IsOfSplit p q
  pub legal : IsLegalFrom (part_group p q) q [] es
  pub begins : ArePartOf (steps_of q es) (own_script p q)

-- ---- entries

abbrev pub entry_of : Step → Reply → SplitEntry
entry_of x reply = record { tick = x.tick; act = Plain x.act; reply = reply }

abbrev pub take_entry : PartPast → SemNo → ℕ → TaskNo → SplitEntry
take_entry past s n t = record { tick = record { 0 = now (moves past) }; act = Take s n t; reply = replies.Done }

-- ---- a step, in the past of the entries before it

-- the past once the clock stands at the step's tick
abbrev pub moved : Step → PartPast → PartPast
moved x past = Moved (Clock x.tick.0) ∷ past

module _ (g : Group) (q : ℕ) (past : PartPast) (x : Step) where
  -- the reply is one that the rules give, however the step's request at a semaphore is answered
  abbrev pub IsAnswered : Reply → Type 0
  IsAnswered reply = (a : Ask) × (reply ≡ answer g q x.act a (moved x past))

  -- what the partition did at semaphores once the step is answered so
  abbrev pub deeds_after : Reply → List TaskDeed
  deeds_after reply = deeds (after g q (entry_of x reply) past)

  -- by the step a task of the partition, which holds and waits for nothing, asks for a semaphore
  pub record IsAsking (t s : ℕ) : Type 0 where
    pub low : 1 ≤ t
    pub high : t ≤ length g.setup.tasks
    pub at_home : seat_of g t ≡ q
    pub known : has s (sems g) ≡ true
    pub names : names_sem s x.act ≡ true
    pub holds : holding t past ≡ None
    pub waits : awaiting t past ≡ None
    pub deed : (a : Ask) → deeds_after (asked a) ≡ deeds past ++ record { task = t; sem = s; deed = AsksDeed a } ∷ []

  -- and by the step a task of the partition frees the semaphore that it holds
  pub record IsFreeing (t s : ℕ) : Type 0 where
    pub low : 1 ≤ t
    pub high : t ≤ length g.setup.tasks
    pub at_home : seat_of g t ≡ q
    pub known : has s (sems g) ≡ true
    pub names : names_sem s x.act ≡ true
    pub unlocks : is_unlock x.act ≡ true
    pub holds : holding t past ≡ Some s
    pub deed : deeds_after replies.Done ≡ deeds past ++ record { task = t; sem = s; deed = FreesDeed } ∷ []

  -- what the step does at semaphores
  abbrev pub DoesBy : PartReply → Type 0
  DoesBy (Is reply) = deeds_after reply ≡ deeds past
  DoesBy (Asks t s) = IsAsking t.0 s.0
  DoesBy (Frees t s) = IsFreeing t.0 s.0

-- the next step was begun
pub record IsBegun (a : PlayerOf) (b : Begun) : Type 0 where
  pub next : ComesNext (own_script a.setup a.cpu) a.cpu a.entries b.step
  pub answers : (x : Ask) → reply_by b.reply x ≡ answer (group_of a) a.cpu b.step.act x (moved b.step (past_at a))
  pub does : DoesBy (group_of a) a.cpu (past_at a) b.step b.reply
