-- What a group's processors are linked to and run, and the interrupts that were raised at them.
use Rattle.std.specs.Prelude.{◌≡◌, ℕ, ◌+◌, ◌<◌, Bool, not, ◌&&◌, ◌||◌, List, length, map, slice_index, slice_index_or, if◌then◌else◌}
use Rattle.rt_base.specs.TaskNos.{number_of_task}
use Rattle.rt_rules.specs.Numbers.{same}
use Rattle.rt_model.specs.Group.{Group, group_processors}
use Rattle.rt_model.specs.Past.{Past}
use Rattle.rt_model.specs.Links.{linked}
use Rattle.rt_model.specs.Runs.{runs}
use Rattle.rt_model.specs.Histories.{is_raise, raises}
use Rattle.rt_plays.specs.Groups.{GroupHistory, group_of}
use Rattle.cpu_site.specs.declared.cpu_views.CpuView.{CpuView}

abbrev pub is_pending : CpuView → Bool
is_pending s = not (same (number_of_task s.link) (number_of_task s.runs))

-- an interrupt is pending that was not before, or at another link
abbrev pub is_raised : CpuView → CpuView → Bool
is_raised now before = is_pending now && (not (is_pending before) || not (same (number_of_task before.link) (number_of_task now.link)))

-- what the processor was linked to and ran after a past
pub record IsCpuView (g : Group) (q : ℕ) (p : Past) (s : CpuView) : Type 0 where
  pub link : number_of_task s.link ≡ linked g q p
  pub runs : number_of_task s.runs ≡ runs q p

-- how many processors a group has, and which one is at a position
abbrev pub cpu_count : Group → ℕ
cpu_count g = length (group_processors g)

abbrev pub cpu_at : Group → ℕ → ℕ
cpu_at g i = slice_index (group_processors g) i

-- what each processor of the group was linked to and ran, by rising number
pub record AreCpuViews (g : Group) (p : Past) (cpu_views : List CpuView) : Type 0 where
  pub all : length cpu_views ≡ cpu_count g
  pub each : (i : ℕ) (d : CpuView) → i < cpu_count g → IsCpuView g (cpu_at g i) p (slice_index_or cpu_views i d)

-- 1 where the last entry raised an interrupt at the processor
abbrev pub raise_at : Group → ℕ → Past → Past → ℕ
raise_at g q now before = if is_raise g q now before then 1 else 0

-- how many interrupts were raised at each processor of the group, by rising number
abbrev pub raises_of : GroupHistory → List ℕ
raises_of h = map (λ q. raises (group_of h) q h.entries) (group_processors (group_of h))

-- the counts are those of the history
pub record AreRaises (h : GroupHistory) (counts : List ℕ) : Type 0 where
  pub all : length counts ≡ cpu_count (group_of h)
  pub each : (i : ℕ) → i < cpu_count (group_of h) → slice_index counts i ≡ raises (group_of h) (cpu_at (group_of h) i) h.entries

-- the counts and the cpu_views are those after one entry more than before
pub record HaveCounted (g : Group) (now : Past) (cpu_views cpu_views' : List CpuView) (counts counts' : List ℕ) : Type 0 where
  pub seen : AreCpuViews g now cpu_views'
  pub all : length counts' ≡ length counts
  pub each : (before : Past) → AreCpuViews g before cpu_views → (i : ℕ) → i < cpu_count g
      → slice_index counts' i ≡ slice_index counts i + raise_at g (cpu_at g i) now before
