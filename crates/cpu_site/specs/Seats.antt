-- What contracts see of a site and of the seats of its processors.
use Rattle.std.specs.Prelude.{◌≡◌, ℕ, ◌+◌, ◌<◌, ◌≤◌, ◌==◌, ◌&&◌, Bool, true, false, List, [], ◌∷◌, ◌++◌, length, map, take, slice_index}
use Rattle.std.specs.Prelude.{Some, if◌then◌else◌}
use Rattle.rt_task.specs.declared.Act.{Act}
use Rattle.rt_task.specs.declared.Act.TheVariants as acts
use Rattle.rt_rules.specs.declared.history.Entry.{Entry}
use Rattle.rt_model.specs.Group.{Group, group_processors}
use Rattle.rt_model.specs.Histories.{reply_to, past_of, raises}
use Rattle.rt_plays.specs.Drives.{horizon}
use Rattle.rt_plays.specs.Plays.{IsBegunPlay}
use Rattle.rt_plays.specs.Groups.{GroupHistory}
use Rattle.turn_cell.specs.Words.{entries_of, AgreeOn, StartsWith}
use Rattle.turn_cell.specs.SeatViews.{Cell, SeatView}
use Rattle.cpu_site.specs.declared.story.GroupOf.{GroupOf}
use Rattle.cpu_site.specs.declared.progress.Progress.{Progress}
use Rattle.cpu_site.specs.Playing.{IsFar, IsPlayable, IsNextStep, IsOver}
use Rattle.cpu_site.specs.Raises.{cpu_at, cpu_count}
use Rattle.cpu_site.specs.Turning.{IsTurnDone}

-- the setup and the group of a history
abbrev pub about : GroupHistory → GroupOf
about h = record { setup = h.setup; number = h.group }

abbrev pub group_at : GroupOf → Group
group_at s = record { setup = s.setup; number = s.number }

abbrev pub cpu_of : Entry → ℕ
cpu_of e = e.step.cpu.0

-- how many numbers stand before this one in a list
abbrev pub position_in : List ℕ → ℕ → ℕ
position_in [] q = 0
position_in (x ∷ xs) q = if x == q then 0 else position_in xs q + 1

-- the position of the entry's processor among those of the group, by rising number
abbrev pub position_of_cpu : GroupOf → Entry → ℕ
position_of_cpu s e = position_in (group_processors (group_at s)) (cpu_of e)

-- the seat of a processor: of which site, of which processor, how many of its turns it gave as over, the entries that it has seen, and how
-- often it looked at its interrupt word and what it found there the last time
pub record CpuSeatView : Type 0 where
  pub cell : Cell GroupOf
  pub cpu : ℕ
  pub turns : ℕ
  pub seen : List Entry
  pub looks : ℕ
  pub found : ℕ

abbrev pub cpu_seat_view : ℕ → ℕ → SeatView Entry GroupOf → CpuSeatView
cpu_seat_view q turns p = record { cell = p.cell; cpu = q; turns = turns; seen = p.seen; looks = p.looks; found = p.found }

-- the seat of a processor that has seen nothing, and those of all of these processors
abbrev pub unused_seat : Cell GroupOf → ℕ → CpuSeatView
unused_seat cell q = record { cell = cell; cpu = q; turns = 0; seen = []; looks = 0; found = 0 }

abbrev pub unused_seats : Cell GroupOf → List ℕ → List CpuSeatView
unused_seats cell qs = map (unused_seat cell) qs

-- the seat, after one look at its interrupt word, which found this number
abbrev pub looked_up : ℕ → CpuSeatView → CpuSeatView
looked_up found p = record p { looks = p.looks + 1; found = found }

abbrev pub is_irq : Act → Bool
is_irq acts.Irq = true
is_irq _ = false

-- how many entries there are through the processor's last interrupt, where n came before them and m of those were through it
abbrev pub last_irq_from : ℕ → ℕ → ℕ → List Entry → ℕ
last_irq_from q n m [] = m
last_irq_from q n m (e ∷ es) = last_irq_from q (n + 1) (if (cpu_of e == q) && is_irq e.step.act then n + 1 else m) es

abbrev pub last_irq : ℕ → List Entry → ℕ
last_irq q es = last_irq_from q 0 0 es

-- the entries through the last one at which the processor took an interrupt; none where it took none
abbrev pub through_irq : ℕ → List Entry → List Entry
through_irq q es = take (last_irq q es) es

-- the interrupt word that the processor took last
abbrev pub word_taken : Group → ℕ → List Entry → ℕ
word_taken g q es = raises g q (through_irq q es)

-- the new list begins with the old one and ends with e, which is the processor's one new entry: its next step, with the reply that one
-- thread gives there
pub record IsPlay (s : GroupOf) (p : CpuSeatView) (e : Entry) (p' : CpuSeatView) : Type 0 where
  pub own : cpu_of e ≡ p.cpu
  pub between : List Entry
  pub ends : p'.seen ≡ (p.seen ++ between) ++ e ∷ []
  pub mine : entries_of cpu_of p.cpu p'.seen ≡ entries_of cpu_of p.cpu p.seen ++ e ∷ []
  pub next : IsNextStep (group_at s) p.turns p.cpu (p.seen ++ between) e.step
  pub reply : e.reply ≡ reply_to (group_at s) e.step (past_of (group_at s) (p.seen ++ between))

-- the new list begins with the old one and has no further entry of the processor
pub record IsQuiet (p p' : CpuSeatView) : Type 0 where
  pub later : StartsWith p'.seen p.seen
  pub mine : AgreeOn cpu_of p.cpu p'.seen p.seen

-- in the new list the turn of the processor is over, after those that it gave as over
pub record IsTurnEnd (s : GroupOf) (p p' : CpuSeatView) : Type 0 where
  pub quiet : IsQuiet p p'
  pub over : IsTurnDone (group_at s) p.cpu p.turns (past_of (group_at s) p'.seen)

-- in the new list no step of the processor is left, and each of its turns was given as over
pub record IsEnd (s : GroupOf) (p p' : CpuSeatView) : Type 0 where
  pub quiet : IsQuiet p p'
  pub over : IsOver (group_at s) p.cpu p'.seen
  pub all : p.turns ≡ horizon s.setup.drive

-- what a site keeps
pub record IsSite (s : GroupOf) (count : ℕ) : Type 0 where
  pub playable : IsPlayable s.setup s.number
  pub all : count ≡ cpu_count (group_at s)

-- what a seat keeps: it is that of the processor at its position of the group, which is so far, with the word that this took last, and room
-- for what it plays
pub record IsSeat (s : GroupOf) (p : SeatView Entry GroupOf) (q : ℕ) (at : Progress) (taken : ℕ) (counts : List ℕ) (room : ℕ) : Type 0 where
  pub low : p.cpu < cpu_count (group_at s)
  pub own : cpu_at (group_at s) p.cpu ≡ q
  pub begun : IsBegunPlay (group_at s) p.seen
  pub far : IsFar (group_at s) q p.seen at
  pub recorded : slice_index p.raises p.cpu ≡ raises (group_at s) q p.seen
  pub word : taken ≡ word_taken (group_at s) q p.seen
  pub all : length counts ≡ cpu_count (group_at s)
  pub room_is : cpu_count (group_at s) ≤ room

-- the fact holds of the setup and the group that the turn keeps
abbrev pub About : Cell GroupOf → (GroupOf → Type 0) → Type 0
About cell fact = (s : GroupOf) → cell.subject ≡ Some s → fact s
