-- An engine that takes the steps of a group, with the links of its processors and its requests.
use Rattle.std.specs.Prelude.{◌≡◌, ℕ, ◌-◌, ◌≤◌, List, length}
use Rattle.rt_base.specs.declared.CpuNo.{CpuNo}
use Rattle.rt_task.specs.declared.Step.{Step}
use Rattle.rt_task.specs.Validity.{IsValid}
use Rattle.rt_rules.specs.declared.history.Entry.{Entry}
use Rattle.rt_rules.specs.declared.history.Reply.{Reply}
use Rattle.rt_model.specs.Group.{Group, group_processors}
use Rattle.rt_model.specs.Histories.{after, past_from, reply_to}
use Rattle.rt_model.specs.Past.{Past}
use Rattle.rt_plays.specs.Order.{history}
use Rattle.rt_plays.specs.Groups.{GroupHistory, group_of, past}
use Rattle.block_counts.specs.GroupRequests.{GroupRequests, IsAt}
use Rattle.set_plays.specs.declared.steps_left.StepsLeft.{StepsLeft}
use Rattle.set_plays.specs.StepsLeft.{steps_left}
use Rattle.trace_lines.specs.declared.links.CpuLink.{CpuLink}
use Rattle.trace_lines.specs.Lines.{links_of}
use Rattle.trace_text.specs.Groups.{cpu_numbers}
use Rattle.trace_text.specs.TraceText.{links_at}

-- these are the processors of a group and their links after its history
pub record ShowsLinks (h : GroupHistory) (qs : List CpuNo) (links : List CpuLink) : Type 0 where
  pub cpus_are : cpu_numbers qs ≡ group_processors (group_of h)
  pub links_are : links_of links ≡ links_at (group_of h) (past h) (group_processors (group_of h))

-- the requests of a history are kept, with room for its further entries and for the tasks that wait
pub record Counts (h : GroupHistory) (b : GroupRequests) (room : ℕ) : Type 0 where
  pub valid : IsValid h.setup
  pub setup_is : b.setup ≡ h.setup
  pub group_is : b.group ≡ h.group
  pub at : IsAt b (past h)
  pub spare : h.spare ≤ b.spare
  pub room_is : length h.setup.tasks ≤ room

-- a history has taken a step, which this answers
pub record HasTaken (old new : GroupHistory) (s : Step) (r : Reply) : Type 0 where
  pub reply_is : r ≡ reply_to (group_of old) s (past old)
  pub group_is : group_of new ≡ group_of old
  pub spare_is : new.spare ≡ old.spare - 1
  pub past_is : past new ≡ after (group_of old) s (past old)

-- a history has taken the steps of these entries
pub record HasPlayed (old new : GroupHistory) (es : List Entry) : Type 0 where
  pub group_is : group_of new ≡ group_of old
  pub past_is : past new ≡ past_from (group_of old) (past old) es

-- the entries of the steps that are left, each with its reply
abbrev pub ahead : Group → StepsLeft → Past → List Entry
ahead g left was = history g was (steps_left g left was)
