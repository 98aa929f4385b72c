-- A proof that computes with the text of trace events says `unfolding told`, beside `computed`, `shown` and `charted`.
use Rattle.event_texts.specs.Budgets.{budget_counts}
use Rattle.event_texts.specs.CpuSpans.{cpu_spans}
use Rattle.event_texts.specs.EventText.{event_text, group_events}
use Rattle.event_texts.specs.JobInstants.{task_instants}
use Rattle.event_texts.specs.TaskSpans.{task_spans}

unfoldable pub told : Unit {0}
unfolding budget_counts cpu_spans event_text group_events task_instants task_spans
told = tt
