-- A step that is refused moves the clock and enters the history, and changes nothing else.
use Rattle.std.specs.Prelude.{◌≡◌, ℕ, false}
use Rattle.rt_task.specs.declared.Step.{Step}
use Rattle.rt_model.specs.Answers.{last_work}
use Rattle.rt_model.specs.BaseKeys.{base_key}
use Rattle.rt_model.specs.Blocking.{is_blocked, ends, ends_all, requests}
use Rattle.rt_model.specs.Ceilings.{pcp}
use Rattle.rt_model.specs.EffectiveKeys.{effective_key}
use Rattle.rt_model.specs.Group.{Group}
use Rattle.rt_model.specs.Histories.{clock_moved, reply_to, after}
use Rattle.rt_model.specs.Holders.{sem_state, holds, awaits}
use Rattle.rt_model.specs.Jobs.{done, used, position_in_body}
use Rattle.rt_model.specs.Links.{links, linked, pending}
use Rattle.rt_model.specs.NonPreemptive.{non_preemptive}
use Rattle.rt_model.specs.Past.{Past, now, accepted}
use Rattle.rt_model.specs.Releases.{arrivals, release, exists}
use Rattle.rt_model.specs.Reservations.{front, left, last}
use Rattle.rt_model.specs.Runs.{runs}
use Rattle.rt_model.specs.Sleep.{sleeps}
use Rattle.rt_model.specs.StackPolicy.{srp}
use Rattle.rt_model.specs.Tops.{eligible, top}
use Rattle.rt_model.specs.UnderWay.{under_way}
use Rattle.rt_laws.specs.EveryPast.{EveryPast}

-- all that the definitions give is the same in two pasts: of each task, semaphore, cluster, processor, reservation and request
pub record IsSame (g : Group) (past past' : Past) : Type 0 where
  pub now_same : now past' ≡ now past
  pub done_same : (t : ℕ) → done t past' ≡ done t past
  pub used_same : (t : ℕ) → used t past' ≡ used t past
  pub position_same : (t : ℕ) → position_in_body t past' ≡ position_in_body t past
  pub arrivals_same : (t : ℕ) → arrivals t past' ≡ arrivals t past
  pub release_same : (t : ℕ) → release g t past' ≡ release g t past
  pub exists_same : (t : ℕ) → exists g t past' ≡ exists g t past
  pub sleeps_same : (t : ℕ) → sleeps t past' ≡ sleeps t past
  pub non_preemptive_same : (t : ℕ) → non_preemptive t past' ≡ non_preemptive t past
  pub base_key_same : (t : ℕ) → base_key g t past' ≡ base_key g t past
  pub effective_key_same : (t : ℕ) → effective_key g t past' ≡ effective_key g t past
  pub holds_same : (t : ℕ) → holds g t past' ≡ holds g t past
  pub awaits_same : (t : ℕ) → awaits g t past' ≡ awaits g t past
  pub eligible_same : (t : ℕ) → eligible g t past' ≡ eligible g t past
  pub sem_state_same : (s : ℕ) → sem_state g s past' ≡ sem_state g s past
  pub pcp_same : (c : ℕ) → pcp g c past' ≡ pcp g c past
  pub srp_same : (c : ℕ) → srp g c past' ≡ srp g c past
  pub under_way_same : (t : ℕ) → under_way t past' ≡ under_way t past
  pub top_same : (c : ℕ) → top g c past' ≡ top g c past
  pub links_same : (c : ℕ) → links g c past' ≡ links g c past
  pub linked_same : (q : ℕ) → linked g q past' ≡ linked g q past
  pub runs_same : (q : ℕ) → runs q past' ≡ runs q past
  pub pending_same : (q : ℕ) → pending g q past' ≡ pending g q past
  pub last_work_same : (q : ℕ) → last_work q past' ≡ last_work q past
  pub front_same : (r : ℕ) → front g r past' ≡ front g r past
  pub left_same : (r : ℕ) → left g r past' ≡ left g r past
  pub last_same : (r : ℕ) → last g r past' ≡ last g r past
  pub blocked_same : (t : ℕ) → is_blocked g t past' ≡ is_blocked g t past
  pub requests_same : requests past' ≡ requests past
  pub ends_same : (r t s : ℕ) → ends g r t s past' ≡ ends g r t s past
  pub ends_all_same : (r t s : ℕ) → ends_all g r t s past' ≡ ends_all g r t s past

-- A step whose reply is a refusal leaves all as its move of the clock alone leaves it.
abbrev pub RefusedChangesNothing : Type 0
RefusedChangesNothing =
    EveryPast (λ g past. (step : Step) → accepted (reply_to g step past) ≡ false → IsSame g (clock_moved step past) (after g step past))
