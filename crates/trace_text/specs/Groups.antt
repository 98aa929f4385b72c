-- The groups of a setup, each with its history.
use Rattle.std.specs.Prelude.{◌≡◌, ℕ, ◌<◌, ◌≤◌, List, [], ◌∷◌, length, map, All, if◌then◌else◌}
use Rattle.rt_base.specs.declared.CpuNo.{CpuNo}
use Rattle.rt_base.specs.declared.TheConstants.{MOST_STEPS}
use Rattle.rt_task.specs.declared.Parts.{Parts}
use Rattle.rt_rules.specs.declared.history.Entry.{Entry}
use Rattle.rt_rules.specs.Numbers.{numbers_from, same}
use Rattle.rt_plays.specs.Groups.{AreStepsOf, GroupHistory, IsGroupOf, IsLegalNow, group_of}
use Rattle.rt_changes.specs.Tallies.{Tally}
use Rattle.trace_lines.specs.declared.links.CpuLink.{CpuLink}
use Rattle.trace_lines.specs.Lines.{Line, Link, block_line}

abbrev pub histories : List GroupHistory → List (List Entry)
histories hs = map (λ (h : GroupHistory). h.entries) hs

-- one history for each group of the setup, by rising number
pub record AreGroupsOf (p : Parts) (hs : List GroupHistory) : Type 0 where
  pub of_setup : All (λ (h : GroupHistory). h.setup ≡ p) hs
  pub in_order : map (λ (h : GroupHistory). h.group) hs ≡ numbers_from 0 (length hs)
  pub are_groups : (n : ℕ) → n < length hs → IsGroupOf p n
  pub are_all : (n : ℕ) → IsGroupOf p n → n < length hs

-- a group of its setup, whose entries are a legal history that can be taken from opening on
pub record CanReplay (h : GroupHistory) : Type 0 where
  pub there : IsGroupOf h.setup h.group
  pub few : length h.entries ≤ MOST_STEPS
  pub steps : AreStepsOf (group_of h) h.entries
  pub legal : IsLegalNow h

abbrev pub cpu_numbers : List CpuNo → List ℕ
cpu_numbers qs = map (λ (q : CpuNo). q.0) qs

-- the processors that links are of
abbrev pub cpus_in : List CpuLink → List ℕ
cpus_in ls = map (λ (x : CpuLink). x.cpu.0) ls

-- of the links now, those that are others than before, position by position
abbrev pub changed_links : List Link → List Link → List Link
changed_links [] now = []
changed_links (x ∷ before) [] = []
changed_links (x ∷ before) (y ∷ now) = if same x.1 y.1 then changed_links before now else (y ∷ changed_links before now)

-- the line of a request
abbrev pub request_line : Tally → Line
request_line x = block_line x.no x.task x.sem x.ends x.ends_all x.bound
