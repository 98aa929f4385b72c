-- A proof that computes with the text of a picture says `unfolding pictured`, beside `computed`, `shown` and `charted`.
use Rattle.svg_texts.specs.Bars.{bar}
use Rattle.svg_texts.specs.CpuRows.{cpu_row, cpu_rows, draw_cpu_part, draw_left, draw_link}
use Rattle.svg_texts.specs.CpuRows.{draw_playing, draw_resv_part, resv_row, resv_rows}
use Rattle.svg_texts.specs.Grids.{column_words, grid, grid_line}
use Rattle.svg_texts.specs.Lanes.{lane}
use Rattle.svg_texts.specs.Legend.{bar_items, budget_item, legend, link_item, mark_items}
use Rattle.svg_texts.specs.Legend.{says, section_items, still_items, strip_item, strip_items}
use Rattle.svg_texts.specs.Parts.{same_part}
use Rattle.svg_texts.specs.Shapes.{deadline, end, line, path, rect, release, words}
use Rattle.svg_texts.specs.Style.{style}
use Rattle.svg_texts.specs.SvgText.{below, foot, group_words, head, left_edge, size, view_box, panel_text}
use Rattle.svg_texts.specs.SvgText.{panel_texts, rows_text, sem_words, sems_from, svg_of, svg_text, whole_svg}
use Rattle.svg_texts.specs.TaskLanes.{draw_doing, draw_held, draw_task_part, task_lanes}
use Rattle.svg_texts.specs.TaskRows.{draw_marks, marks_from, task_row, task_rows}

unfoldable pub pictured : Unit {0}
unfolding bar cpu_row cpu_rows draw_cpu_part draw_resv_part draw_task_part same_part draw_left draw_link draw_playing resv_row resv_rows
    column_words grid grid_line lane bar_items legend mark_items says section_items still_items strip_items strip_item link_item
    budget_item deadline end line path rect
    release words below foot group_words head left_edge size view_box panel_text panel_texts rows_text sem_words sems_from svg_of
    svg_text whole_svg draw_held draw_doing task_lanes draw_marks marks_from task_row task_rows style
pictured = tt
