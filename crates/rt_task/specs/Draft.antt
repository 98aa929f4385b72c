-- A set before its rules are tried, whether a document says it or code made its parts.
use Rattle.std.specs.Prelude.{◌+◌, nat_lt, if◌then◌else◌, List, [], ◌∷◌, map, flat_map, replicate}
use Rattle.rt_base.specs.declared.TheConstants.{MOST_OPERATIONS}
use Rattle.rt_task.specs.declared.Op.{Op}
use Rattle.rt_task.specs.declared.Op.TheVariants as ops
use Rattle.rt_task.specs.declared.Task.{Task}
use Rattle.rt_task.specs.declared.Cluster.{Cluster}
use Rattle.rt_task.specs.declared.Resv.{Resv}
use Rattle.rt_task.specs.declared.Step.{Step}
use Rattle.rt_task.specs.declared.Drive.{Drive}
use Rattle.rt_task.specs.declared.Drive.TheVariants as drives
use Rattle.rt_task.specs.declared.Parts.{Parts}
use Rattle.rt_task.specs.declared.draft.Piece.{Piece}
use Rattle.rt_task.specs.declared.draft.Piece.TheVariants.{Works, Once}
use Rattle.rt_task.specs.declared.draft.DraftCluster.{DraftCluster}
use Rattle.rt_task.specs.declared.draft.DraftResv.{DraftResv}
use Rattle.rt_task.specs.declared.draft.DraftTask.{DraftTask}
use Rattle.rt_task.specs.declared.draft.DraftStep.{DraftStep}
use Rattle.rt_task.specs.declared.draft.DraftDrive.{DraftDrive}
use Rattle.rt_task.specs.declared.draft.DraftDrive.TheVariants.{Steps, Horizon}
use Rattle.rt_task.specs.declared.draft.Draft.{Draft}

-- each longest run of Work as one piece, of at most as many units as a body has operations: more are in no valid body
abbrev pub one_more_work : List Piece → List Piece
one_more_work [] = Works 1 ∷ []
one_more_work (Works n ∷ rest) = if nat_lt n MOST_OPERATIONS then Works (n + 1) ∷ rest else Works 1 ∷ Works n ∷ rest
one_more_work (Once op ∷ rest) = Works 1 ∷ Once op ∷ rest

-- one more operation in front
abbrev pub op_front : Op → List Piece → List Piece
op_front ops.Work rest = one_more_work rest
op_front op rest = Once op ∷ rest

unfoldable pub runs : List Op → List Piece
runs [] = []
runs (op ∷ rest) = op_front op (runs rest)

abbrev pub operations : Piece → List Op
operations (Works n) = replicate n ops.Work
operations (Once op) = op ∷ []

-- ---- parts as a draft

abbrev pub draft_cluster : Cluster → DraftCluster
draft_cluster c = record { cpus = c.cpus; group = c.group.0 }

abbrev pub draft_resv : Resv → DraftResv
draft_resv r = record {
  name = r.name;
  cluster = r.cluster.0;
  kind = r.kind;
  budget = r.budget;
  period = r.period;
  prio = r.prio;
  slots = r.slots;
}

-- a task with these pieces
abbrev pub draft_task : Task → List Piece → DraftTask
draft_task t pieces = record {
  number = t.number;
  name = t.name;
  cluster = t.cluster.0;
  cost = t.cost;
  period = t.period;
  rel_deadline = t.rel_deadline;
  phase = t.phase;
  kind = t.kind;
  prio = t.prio;
  enforce = t.enforce;
  uses = t.uses;
  resv = t.resv;
  pieces = pieces;
  early = t.early;
}

abbrev pub draft_step : Step → DraftStep
draft_step s = record { cpu = s.cpu.0; tick = s.tick.0; act = s.act }

abbrev pub draft_drive : Drive → DraftDrive
draft_drive (drives.Steps ss) = Steps (map draft_step ss)
draft_drive (drives.Horizon h) = Horizon h

abbrev pub draft_of : Parts → Draft
draft_of p = record {
  plugin = p.plugin;
  clusters = map draft_cluster p.clusters;
  sems = p.sems;
  resvs = map draft_resv p.resvs;
  tasks = map (λ (t : Task). draft_task t (runs t.body)) p.tasks;
  drive = draft_drive p.drive;
}

-- ---- the parts that a draft stands for

abbrev pub cluster_of : DraftCluster → Cluster
cluster_of c = record { cpus = c.cpus; group = record { 0 = c.group } }

abbrev pub resv_of : DraftResv → Resv
resv_of r = record {
  name = r.name;
  cluster = record { 0 = r.cluster };
  kind = r.kind;
  budget = r.budget;
  period = r.period;
  prio = r.prio;
  slots = r.slots;
}

abbrev pub task_of : DraftTask → Task
task_of t = record {
  number = t.number;
  name = t.name;
  cluster = record { 0 = t.cluster };
  cost = t.cost;
  period = t.period;
  rel_deadline = t.rel_deadline;
  phase = t.phase;
  kind = t.kind;
  prio = t.prio;
  enforce = t.enforce;
  uses = t.uses;
  resv = t.resv;
  body = flat_map operations t.pieces;
  early = t.early;
}

abbrev pub step_of : DraftStep → Step
step_of s = record { cpu = record { 0 = s.cpu }; tick = record { 0 = s.tick }; act = s.act }

abbrev pub drive_of : DraftDrive → Drive
drive_of (Steps ss) = drives.Steps (map step_of ss)
drive_of (Horizon h) = drives.Horizon h

abbrev pub parts_of : Draft → Parts
parts_of d = record {
  plugin = d.plugin;
  clusters = map cluster_of d.clusters;
  sems = d.sems;
  resvs = map resv_of d.resvs;
  tasks = map task_of d.tasks;
  drive = drive_of d.drive;
}

-- the steps, none where there is a horizon
abbrev pub steps_of : DraftDrive → List DraftStep
steps_of (Steps s) = s
steps_of (Horizon h) = []
