-- An act that is shown, as the definitions have it.
use Rattle.rt_base.specs.TaskNos.{number_of_task}
use Rattle.rt_model.specs.Past.{PastAct}
use Rattle.view_acts.specs.declared.shown_act.ShownAct.{ShownAct}

abbrev pub act_shown : ShownAct → PastAct
act_shown d = record { cpu = d.cpu.0; act = d.act; task = number_of_task d.task; reply = d.reply; ended = number_of_task d.ended }
