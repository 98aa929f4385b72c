-- The set of a load before its rules are tried: each body stands in two or four pieces.
use Rattle.std.proofs.Common.{◌≡◌, ◌*◌, ℕ, zero, suc, List, [], ◌∷◌, Bool, true, false, None, map, refl, ap₂}
use Rattle.std.specs.Prelude.{flat_map}
use Rattle.rt_base.specs.declared.TheConstants.{MOST_PRIO}
use Rattle.rt_task.specs.declared.Kind.TheVariants.{Periodic}
use Rattle.rt_task.specs.declared.Op.TheVariants as ops
use Rattle.rt_task.specs.declared.PluginKind.TheVariants.{CEdf}
use Rattle.rt_task.specs.declared.draft.Draft.{Draft}
use Rattle.rt_task.specs.declared.draft.DraftDrive.TheVariants.{Horizon}
use Rattle.rt_task.specs.declared.draft.DraftTask.{DraftTask}
use Rattle.rt_task.specs.declared.draft.Piece.{Piece}
use Rattle.rt_task.specs.declared.draft.Piece.TheVariants.{Works, Once}
use Rattle.rt_task.specs.Draft as draft
use Rattle.rt_rules.specs.Numbers.{numbers_from}
use Rattle.load_set.specs.declared.draws.Drawn.{Drawn}
use Rattle.load_set.specs.Draws.{draw_from, after_four}
use Rattle.load_set.specs.Load.{name_of, cluster_of, tens, cost_of, has_lock, sem_of, uses_of, body_of, task_of, tasks_from, sem_named, load_of}

abbrev pub pieces_of : Bool → ℕ → ℕ → List Piece
pieces_of true s w = Once (ops.Lock (record { 0 = s })) ∷ Works w ∷ Once (ops.Unlock (record { 0 = s })) ∷ Once ops.End ∷ []
pieces_of false s w = Works w ∷ Once ops.End ∷ []

unfoldable pub drafted : ℕ → Drawn → DraftTask
drafted i d = record {
  number = record { 0 = i };
  name = name_of 116 i;
  cluster = cluster_of i;
  cost = cost_of d;
  period = 10 * tens d;
  rel_deadline = 10 * tens d;
  phase = 0;
  kind = Periodic;
  prio = MOST_PRIO;
  enforce = false;
  uses = uses_of (has_lock d) (sem_of i d);
  resv = None;
  pieces = pieces_of (has_lock d) (sem_of i d) (cost_of d);
  early = false;
}

unfoldable pub drafts_from : ℕ → ℕ → ℕ → List DraftTask
drafts_from zero i x = []
drafts_from (suc n) i x = drafted i (draw_from x) ∷ drafts_from n (suc i) (after_four x)

abbrev pub draft_with : List DraftTask → Draft
draft_with ts = record {
  plugin = CEdf;
  clusters = record { cpus = 4; group = 0 } ∷ record { cpus = 4; group = 1 } ∷ [];
  sems = map sem_named (numbers_from 1 6);
  resvs = [];
  tasks = ts;
  drive = Horizon 1000;
}

-- ---- it stands for the load

body-pieces : (b : Bool) (s w : ℕ) → flat_map draft.operations (pieces_of b s w) ≡ body_of b s w
body-pieces true s w = refl
body-pieces false s w = refl

task_of-drafted : (i : ℕ) (d : Drawn) → draft.task_of (drafted i d) ≡ task_of i d
unfolding drafted task_of
task_of-drafted i d = rw (body-pieces (has_lock d) (sem_of i d) (cost_of d)) refl

tasks-drafts : (n i x : ℕ) → map draft.task_of (drafts_from n i x) ≡ tasks_from n i x
unfolding drafts_from tasks_from
tasks-drafts zero i x = refl
tasks-drafts (suc n) i x = ap₂ (λ t ts. t ∷ ts) (task_of-drafted i (draw_from x)) (tasks-drafts n (suc i) (after_four x))

pub parts_of-draft : (n : ℕ) → draft.parts_of (draft_with (drafts_from 40 1 n)) ≡ load_of n
parts_of-draft n = rw (tasks-drafts 40 1 n) refl
