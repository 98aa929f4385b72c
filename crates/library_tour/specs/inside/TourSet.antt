-- The set of the tour: two tasks that share a semaphore under GSN-EDF on two processors, with five steps.
use Rattle.std.specs.Prelude.{ℕ, List, [], ◌∷◌, None, false}
use Rattle.rt_base.specs.declared.SemNo.{SemNo}
use Rattle.rt_task.specs.declared.Act.{Act}
use Rattle.rt_task.specs.declared.Act.TheVariants.{Do, Irq}
use Rattle.rt_task.specs.declared.Op.TheVariants.{Lock}
use Rattle.rt_task.specs.declared.Kind.TheVariants.{Periodic}
use Rattle.rt_task.specs.declared.PluginKind.TheVariants.{GsnEdf}
use Rattle.rt_task.specs.declared.Protocol.TheVariants.{Fmlp}
use Rattle.rt_task.specs.declared.Sem.{Sem}
use Rattle.rt_task.specs.declared.draft.Draft.{Draft}
use Rattle.rt_task.specs.declared.draft.DraftCluster.{DraftCluster}
use Rattle.rt_task.specs.declared.draft.DraftDrive.TheVariants.{Steps}
use Rattle.rt_task.specs.declared.draft.DraftStep.{DraftStep}
use Rattle.rt_task.specs.declared.draft.DraftTask.{DraftTask}

abbrev pub shared : SemNo
shared = record { 0 = 1 }

-- a task of this number, name and relative deadline that declares the semaphore
abbrev pub user : ℕ → ℕ → ℕ → DraftTask
user number letter rel_deadline = record {
  number = record { 0 = number };
  name = letter ∷ [];
  cluster = 0;
  cost = 2;
  period = 10;
  rel_deadline = rel_deadline;
  phase = 0;
  kind = Periodic;
  prio = 511;
  enforce = false;
  uses = shared ∷ [];
  resv = None;
  pieces = [];
  early = false;
}

abbrev pub at_once : ℕ → Act → DraftStep
at_once cpu act = record { cpu = cpu; tick = 0; act = act }

-- both processors take their interrupts; the job of A locks the semaphore, then that of B, and then that of A once more
abbrev pub the_steps : List DraftStep
the_steps = at_once 0 Irq ∷ at_once 1 Irq ∷ at_once 1 (Do (Lock shared)) ∷ at_once 0 (Do (Lock shared)) ∷ at_once 1 (Do (Lock shared)) ∷ []

abbrev pub two_processors : DraftCluster
two_processors = record { cpus = 2; group = 0 }

abbrev pub the_sem : Sem
the_sem = record { name = 76 ∷ []; protocol = Fmlp }

abbrev pub the_draft : Draft
the_draft = record {
  plugin = GsnEdf;
  clusters = two_processors ∷ [];
  sems = the_sem ∷ [];
  resvs = [];
  tasks = user 1 65 9 ∷ user 2 66 7 ∷ [];
  drive = Steps the_steps;
}
