-- A proof that computes with the text of a chart says `unfolding charted`, beside `computed` and `shown`.
use Rattle.chart_texts.specs.ChartText.{chart_text, label_width, panel_text, sems_text, text_of, title, whole_text}
use Rattle.chart_texts.specs.Charts.{chart_of, cpu_row_in, group_resvs, longest_on, panel_of, resv_row_in, task_row_in}
use Rattle.chart_texts.specs.CpuLines.{cpu_lines, resv_line}
use Rattle.chart_texts.specs.Letters.{number_letter, sem_letter, task_letter}
use Rattle.chart_texts.specs.Rows.{row}
use Rattle.chart_texts.specs.Rulers.{ruler_from, rulers}
use Rattle.chart_texts.specs.TaskLines.{task_lines}
use Rattle.chart_texts.specs.Windows.{columns_in, columns_on, length_on}

unfoldable pub charted : Unit {0}
unfolding chart_text label_width panel_text sems_text text_of title whole_text chart_of cpu_row_in group_resvs longest_on panel_of
    resv_row_in task_row_in cpu_lines resv_line number_letter sem_letter task_letter row ruler_from rulers task_lines columns_in
    columns_on length_on
charted = tt
