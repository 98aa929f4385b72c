-- A proof that computes with the text of an entry says `unfolding explained`, beside `computed` of the definitions.
use Rattle.chart_texts.specs.Charts.{group_resvs}
use Rattle.trace_lines.specs.Grammar.{line_text, line_words}
use Rattle.why_texts.specs.ClusterLines.{behind_top}
use Rattle.why_texts.specs.SemLines.{declared_sems, waiting_for}
use Rattle.why_texts.specs.Standings.{held_by_others, highest_of_others, standing}
use Rattle.why_texts.specs.StateText.{state_text}
use Rattle.why_texts.specs.TaskLines.{job_piece}
use Rattle.why_texts.specs.WhyText.{entry_text, why_text}

unfoldable pub written : Unit {0}
unfolding group_resvs line_text line_words behind_top declared_sems waiting_for held_by_others highest_of_others standing state_text job_piece entry_text
    why_text
written = tt
