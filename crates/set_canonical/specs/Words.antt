-- The words of a set document.
use Rattle.std.specs.Prelude.{ℕ, List, codes}
use Rattle.rt_task.specs.declared.Kind.{Kind}
use Rattle.rt_task.specs.declared.Kind.TheVariants as task_kinds
use Rattle.rt_task.specs.declared.ResvKind.{ResvKind}
use Rattle.rt_task.specs.declared.ResvKind.TheVariants as resv_kinds
use Rattle.rt_task.specs.declared.Protocol.{Protocol}
use Rattle.rt_task.specs.declared.Protocol.TheVariants.{Fmlp, Omlp, Pcp, Mpcp, Srp}
use Rattle.rt_task.specs.declared.PluginKind.{PluginKind}
use Rattle.rt_task.specs.declared.PluginKind.TheVariants.{GsnEdf, CEdf, PsnEdf, PFp, PRes}

abbrev pub plugin_word : PluginKind → List ℕ
plugin_word GsnEdf = codes "GSN-EDF"
plugin_word CEdf = codes "C-EDF"
plugin_word PsnEdf = codes "PSN-EDF"
plugin_word PFp = codes "P-FP"
plugin_word PRes = codes "P-RES"

abbrev pub protocol_word : Protocol → List ℕ
protocol_word Fmlp = codes "FMLP"
protocol_word Omlp = codes "OMLP"
protocol_word Pcp = codes "PCP"
protocol_word Mpcp = codes "MPCP"
protocol_word Srp = codes "SRP"

abbrev pub resv_kind_word : ResvKind → List ℕ
resv_kind_word resv_kinds.Polling = codes "polling"
resv_kind_word resv_kinds.Sporadic = codes "sporadic"
resv_kind_word resv_kinds.Table = codes "table"

abbrev pub kind_word : Kind → List ℕ
kind_word task_kinds.Periodic = codes "periodic"
kind_word task_kinds.Sporadic = codes "sporadic"
