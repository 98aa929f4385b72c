-- What a partition may rely on, by its own history and by the semaphores' histories that it has seen.
use Rattle.std.specs.Prelude.{◌≡◌, ◌⊎◌, ℕ, true, false, ◌==◌, List, [], ◌∷◌, map, ◌++◌, Option, None, Some, if◌then◌else◌}
use Rattle.rt_rules.specs.Numbers.{is}
use Rattle.rt_model.specs.Group.{Group, cluster_with, first_cpu}
use Rattle.rt_model.specs.Runs.{runs}
use Rattle.split_rules.specs.Matching.{Books, done_at, own, told}
use Rattle.split_rules.specs.PartHistories.{IsLegalFrom, past_of}
use Rattle.split_rules.specs.PartPast.{Deed, PartPast, TaskDeed, deeds, moves}
use Rattle.split_rules.specs.PartSems.{awaiting, holding}
use Rattle.split_rules.specs.SemHistories.{IsLegalSem, seat_of}
use Rattle.split_rules.specs.declared.SemEntry.{SemEntry}
use Rattle.split_rules.specs.declared.SplitEntry.{SplitEntry}
use Rattle.split_laws.specs.Tales.{Holds, Out, Phase, Waits, only_gets, phase_from, tale_from, tale_in}

-- the processor is the first of its cluster, as where each cluster has one
abbrev pub IsSeat : Group → ℕ → Type 0
IsSeat g q = first_cpu g (cluster_with g q) ≡ q

-- how a task stands to semaphore s that holds and waits for these
abbrev pub phase_by : ℕ → Option ℕ → Option ℕ → Phase
phase_by s held awaited = if is s held then Holds else (if is s awaited then Waits else Out)

-- it stands in a list
abbrev pub Among : {A : Type 0} → A → List A → Type 0
Among d [] = ⊥
Among d (x ∷ xs) = (d ≡ x) ⊎ Among d xs

-- what holds of each past of a partition: its deeds are of its tasks, tasks of other partitions neither hold nor wait, no task does both,
-- and what is told of each task says how it stands
pub record IsKnown (g : Group) (q : ℕ) (past : PartPast) : Type 0 where
  pub deeds_home : (d : TaskDeed) → Among d (deeds past) → seat_of g d.task ≡ q
  pub home : (t : ℕ) → seat_of g t == q ≡ false → (holding t past ≡ None) × (awaiting t past ≡ None)
  pub apart : (t : ℕ) → (holding t past ≡ None) ⊎ (awaiting t past ≡ None)
  pub phases : (t s : ℕ) → phase_from Out (tale_in t s (deeds past)) ≡ phase_by s (holding t past) (awaiting t past)

-- and what runs is of the partition, and does not wait
pub record IsPartPast (g : Group) (q : ℕ) (past : PartPast) : Type 0 where
  pub known : IsKnown g q past
  pub runs_home : (t : ℕ) → runs q (moves past) ≡ Some t → seat_of g t ≡ q
  pub runs_free : (t : ℕ) → runs q (moves past) ≡ Some t → awaiting t past ≡ None

-- So it is of each legal history.
abbrev pub LegalPastIsKnown : Type 0
LegalPastIsKnown = (g : Group) (q : ℕ) (es : List SplitEntry) → IsSeat g q → IsLegalFrom g q [] es → IsPartPast g q (past_of g q es)

-- what is told of a task in a history, where its partition knows a first part: the rest are grants that it has not taken
pub record IsBehind (all known : List Deed) : Type 0 where
  pub more : List Deed
  pub parts : all ≡ known ++ more
  pub grants : only_gets more ≡ true

-- What a partition has seen of the semaphores' histories: they are legal, what it did there stands there, and of each of its tasks they
-- tell what it knows, and perhaps a grant more.
pub record HasSeen (g : Group) (q : ℕ) (books : Books) (past : PartPast) : Type 0 where
  pub books_legal : (s : ℕ) → IsLegalSem g s (books s)
  pub did : (s : ℕ) → map (told s) (own q (books s)) ≡ done_at s (deeds past)
  pub tales : (t s : ℕ) → seat_of g t ≡ q → IsBehind (tale_from t 0 (books s)) (tale_in t s (deeds past))

-- the histories grew by entries of other processors
pub record HaveGrown (q : ℕ) (books books' : Books) : Type 0 where
  pub later : (s : ℕ) → (more : List SemEntry) × (books' s ≡ books s ++ more)
  pub own_same : (s : ℕ) → own q (books' s) ≡ own q (books s)

-- a processor's act at semaphore s came last, and no other history changed
pub record IsActIn (q s : ℕ) (e : SemEntry) (books books' : Books) : Type 0 where
  pub own_cpu : e.cpu.0 ≡ q
  pub at : books' s ≡ books s ++ e ∷ []
  pub others : (r : ℕ) → r == s ≡ false → books' r ≡ books r
