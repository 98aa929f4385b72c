-- Which tasks stand at a past, and which look alike in two pasts.
use Rattle.std.proofs.Common.{◌≡◌, ℕ, ◌&&◌, true, refl, sym, ap}
use Rattle.std.specs.Prelude.{is_none}
use Rattle.rt_model.specs.EffectiveKeys.{effective_key}
use Rattle.rt_rules.specs.Numbers.{has}
use Rattle.rt_model.specs.Group.{Group, task, tasks}
use Rattle.rt_model.specs.Holders.{awaits}
use Rattle.rt_model.specs.Past.{Past, now}
use Rattle.rt_model.specs.Tops.{is_admitted}
use Rattle.group_jobs.specs.Facts.{job_facts}
use Rattle.group_jobs.specs.Words.{AreRead, is_ready}
use Rattle.group_jobs.proofs.ReadWords.{words_are_read}
use Rattle.resv_core.specs.Kept.{ready_release}
use Rattle.group_core.specs.Standing.{LooksSame}
use Rattle.group_engine.specs.Ending.{stands}

pub stands-ready : (g : Group) (past : Past) (t : ℕ) → stands g t past ≡ is_ready (now past) (task g t) (job_facts t past) && (is_none (awaits g t past) && is_admitted g g.setup.plugin t past)
stands-ready g past t =
    let words : AreRead g t past (now past) (job_facts t past) = words_are_read g t past in
    ap (λ b. b && (is_none (awaits g t past) && is_admitted g g.setup.plugin t past)) words.ready_is

-- in two pasts a task stands or not, with the same key, and its reservation has to be told nothing
pub record IsAlike (g : Group) (t : ℕ) (past past' : Past) : Type 0 where
  pub stands_same : stands g t past' ≡ stands g t past
  pub key_same : effective_key g t past' ≡ effective_key g t past
  pub told_same : ready_release g t past ≡ ready_release g t past'

pub looks-alike : (g : Group) (t : ℕ) (past past' : Past) → has t (tasks g) ≡ true → LooksSame g t past past' → IsAlike g t past past'
looks-alike g t past past' there same = record {
  stands_same = rw (same.ready_same, same.awaits_same, same.admitted_same there) refl;
  key_same = same.key_same;
  told_same = sym same.told_same;
}
