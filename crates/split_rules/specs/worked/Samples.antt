-- Short forms for worked examples.
use Rattle.std.specs.List.{list_all}
use Rattle.std.specs.Prelude.{◌≡◌, ℕ, true, List, [], map, Option, Some, option_map, slice_index_or, ◌-◌}
use Rattle.rt_base.specs.declared.Ask.{Ask}
use Rattle.rt_base.specs.declared.TaskNo.{TaskNo}
use Rattle.rt_task.specs.declared.Act.{Act}
use Rattle.rt_rules.specs.declared.history.Reply.{Reply}
use Rattle.rt_rules.specs.declared.history.Reply.TheVariants as replies
use Rattle.rt_model.specs.Group.{Group, sems, tasks}
use Rattle.split_rules.specs.Matching.{Books, claims, done_at, granted_at, own, rise_from, taken_at, told}
use Rattle.split_rules.specs.PartPast.{Claim, deeds}
use Rattle.split_rules.specs.PartHistories.{IsLegalFrom, links_from, past_of}
use Rattle.split_rules.specs.PartLinks.{linked}
use Rattle.split_rules.specs.declared.SemAct.TheVariants as acts
use Rattle.split_rules.specs.declared.SemEntry.{SemEntry}
use Rattle.split_rules.specs.declared.SplitAct.TheVariants as split
use Rattle.split_rules.specs.declared.SplitEntry.{SplitEntry}

abbrev pub task_no : ℕ → TaskNo
task_no t = record { 0 = t }

-- entries of a semaphore's history: processor, task, and what came of it
abbrev pub asks : ℕ → ℕ → Ask → SemEntry
asks q t a = record { cpu = record { 0 = q }; task = task_no t; act = acts.Ask a }

abbrev pub frees : ℕ → ℕ → Option ℕ → SemEntry
frees q t o = record { cpu = record { 0 = q }; task = task_no t; act = acts.Release (option_map task_no o) }

-- entries of a partition's history: a step of the script by its tick, and a grant that is taken
abbrev pub plain : ℕ → Act → Reply → SplitEntry
plain tick act reply = record { tick = record { 0 = tick }; act = split.Plain act; reply = reply }

abbrev pub take : ℕ → ℕ → ℕ → ℕ → SplitEntry
take tick s n t =
    record { tick = record { 0 = tick }; act = split.Take (record { 0 = s }) n (task_no t); reply = replies.Done }

-- the histories of semaphores 1, 2 and so on
abbrev pub books_of : List (List SemEntry) → Books
books_of ess s = slice_index_or ess (s - 1) []

-- a partition's history that is legal, matches the semaphores' histories, read at the group's tasks and semaphores alone, and has these
-- links, at opening and after each entry
pub record IsPartPlay (g : Group) (q : ℕ) (books : Books) (es : List SplitEntry) (at_opening : Option ℕ) (after : List (Option ℕ)) : Type
    0 where
  pub legal : IsLegalFrom g q [] es
  pub did : map (λ s. map (told s) (own q (books s))) (sems g) ≡ map (λ s. done_at s (deeds (past_of g q es))) (sems g)
  pub took : map (λ (k : Claim). granted_at (books k.sem) k.no) (claims (deeds (past_of g q es)))
      ≡ map (λ (k : Claim). Some k.task) (claims (deeds (past_of g q es)))
  pub rising : list_all (λ t. list_all (λ s. rise_from 0 (taken_at t s (claims (deeds (past_of g q es))))) (sems g)) (tasks g) ≡ true
  pub opening : linked g q [] ≡ at_opening
  pub links : links_from g q [] es ≡ after
