-- The text that explains an entry of a group's history.
use Rattle.std.specs.Prelude.{ℕ, ◌+◌, List, [], ◌∷◌, ◌++◌, flat_map, map, take, Option, None, Some, codes, decimal, option_map, slice_get}
use Rattle.rt_task.specs.declared.Parts.{Parts}
use Rattle.rt_rules.specs.declared.history.Entry.{Entry}
use Rattle.rt_model.specs.Group.{Group, group_processors}
use Rattle.rt_model.specs.Histories.{after, changed, clock_moved, past_of}
use Rattle.rt_model.specs.Jobs.{done}
use Rattle.rt_model.specs.Links.{linked}
use Rattle.rt_model.specs.Outcomes.{ended}
use Rattle.rt_model.specs.Past.{Past}
use Rattle.rt_model.specs.Runs.{runs}
use Rattle.trace_lines.specs.Grammar.{line_text}
use Rattle.trace_lines.specs.Known.{known_of}
use Rattle.trace_lines.specs.Lines.{Link, entry_line}
use Rattle.trace_lines.specs.declared.format.Version.TheVariants.{Two}
use Rattle.why_texts.specs.Pieces.{line, state_line, task_name, task_or_dash}
use Rattle.why_texts.specs.Sentences.{sentence}
use Rattle.why_texts.specs.StateText.{state_text}

module _ (g : Group) where
  -- the links of some processors at a past
  abbrev pub links_of : Past → List ℕ → List Link
  links_of past qs = map (λ q. (q, linked g q past)) qs

  -- the line that the entry has in a trace of format 2
  abbrev pub trace_line : ℕ → Entry → Past → List ℕ
  trace_line n e past =
      line_text (known_of Two g.setup) (entry_line n e (links_of (after g e.step past) (changed g past (after g e.step past))))

  -- what its processor ran before the act
  abbrev pub ran_line : Entry → Past → List ℕ
  ran_line e past = line (codes "processor " ∷ decimal e.step.cpu.0 ∷ codes " ran " ∷ task_or_dash g (runs e.step.cpu.0 past) ∷ [])

  -- the job that the act ended, by an End or by force
  abbrev pub ended_line : Option ℕ → Past → List ℕ
  ended_line None past = []
  ended_line (Some t) past = line (codes "ended job " ∷ decimal (done t past + 1) ∷ codes " of " ∷ task_name g t ∷ [])

  abbrev pub link_line : Past → ℕ → List ℕ
  link_line past q = state_line (codes "processor " ∷ decimal q ∷ codes " linked " ∷ task_or_dash g (linked g q past) ∷ [])

  -- an entry with its number, after the past that the entries before it made: the entry, what it was answered and why, the links before
  -- its step, and the states between the two moves of the step and after both
  unfoldable pub entry_text : ℕ → Entry → Past → List ℕ
  entry_text n e past =
      trace_line n e past
      ++ (ran_line e (clock_moved e.step past)
      ++ (line (sentence e.reply ∷ [])
      ++ (ended_line (ended g e.step.cpu.0 e.step.act (clock_moved e.step past)) (clock_moved e.step past)
      ++ (line (codes "links before" ∷ [])
      ++ (flat_map (link_line past) (group_processors g)
      ++ (line (codes "before the act" ∷ [])
      ++ (state_text g (clock_moved e.step past)
      ++ (line (codes "after the act" ∷ [])
      ++ state_text g (after g e.step past)))))))))

  -- the entry of a number in a history, if there is one
  abbrev pub explained : ℕ → List Entry → Option (List ℕ)
  explained n es = option_map (λ e. entry_text n e (past_of g (take n es))) (slice_get es n)

-- the entry of a number of the group of a number, of a setup and the histories of its groups, if there is one; both are numbered from 0
abbrev pub explained_of : Parts → ℕ → ℕ → Option (List Entry) → Option (List ℕ)
explained_of p i n None = None
explained_of p i n (Some es) = explained (record { setup = p; number = i }) n es

unfoldable pub why_text : Parts → List (List Entry) → ℕ → ℕ → Option (List ℕ)
why_text p hs i n = explained_of p i n (slice_get hs i)
