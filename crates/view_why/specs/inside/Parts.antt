-- The parts of the text of an entry.
use Rattle.std.specs.Prelude.{◌≡◌, ℕ, List, [], ◌∷◌, ◌++◌, flat_map, codes}
use Rattle.rt_task.specs.declared.Step.{Step}
use Rattle.rt_rules.specs.declared.history.Entry.{Entry}
use Rattle.rt_model.specs.Group.{Group, group_processors}
use Rattle.rt_model.specs.Histories.{after, clock_moved}
use Rattle.rt_model.specs.Outcomes.{ended, past_act}
use Rattle.rt_model.specs.Past.{Past}
use Rattle.rt_model.specs.Reachable.{IsReachable}
use Rattle.trace_lines.specs.Lines.{links_of}
use Rattle.trace_text.specs.TraceText.{links_at}
use Rattle.view_acts.specs.ShownActs.{act_shown}
use Rattle.why_texts.specs.Pieces.{line}
use Rattle.why_texts.specs.Sentences.{sentence}
use Rattle.why_texts.specs.StateText.{state_text}
use Rattle.why_texts.specs.WhyText.{ended_line, link_line, ran_line, trace_line}
use Rattle.view_why.specs.declared.noted.Noted.{Noted}

module _ (g : Group) where
  -- what was noted while a step was taken after a past: the links before it, the lines of the state between its moves, which moves
  -- came to, and its act
  pub record AreNotes (step : Step) (past : Past) (n : Noted) : Type 0 where
    pub links_are : links_of n.links.items ≡ links_at g past (group_processors g)
    pub made : IsReachable g (clock_moved step past)
    pub between_is : n.between.items ≡ state_text g (clock_moved step past)
    pub act_is : act_shown n.act ≡ past_act g step.cpu.0 step.act (clock_moved step past)

  -- the lines about the act
  abbrev pub act_lines : ℕ → Entry → Past → List ℕ
  act_lines n e past =
      trace_line g n e past
      ++ (ran_line g e (clock_moved e.step past)
      ++ (line (sentence e.reply ∷ [])
      ++ ended_line g (ended g e.step.cpu.0 e.step.act (clock_moved e.step past)) (clock_moved e.step past)))

  -- the links before the step
  abbrev pub link_lines : Past → List ℕ
  link_lines past = line (codes "links before" ∷ []) ++ flat_map (link_line g past) (group_processors g)

  -- the states between its moves and after both
  abbrev pub states_lines : Step → Past → List ℕ
  states_lines step past =
      line (codes "before the act" ∷ [])
      ++ (state_text g (clock_moved step past)
      ++ (line (codes "after the act" ∷ [])
      ++ state_text g (after g step past)))
