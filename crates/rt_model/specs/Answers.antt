-- What each act of a processor is answered.
use Rattle.std.specs.List.{list_any}
use Rattle.std.specs.Prelude.{ℕ, ◌+◌, Bool, true, false, not, ◌&&◌, ◌||◌, ◌==◌, nat_le, List, [], ◌∷◌, length, Option, None, Some}
use Rattle.std.specs.Prelude.{if◌then◌else◌, is_none}
use Rattle.rt_base.specs.declared.TheConstants.{MOST_HELD}
use Rattle.rt_task.specs.RuleWords.{is_stacked}
use Rattle.rt_task.specs.declared.Act.{Act}
use Rattle.rt_task.specs.declared.Kind.{Kind}
use Rattle.rt_task.specs.declared.Kind.TheVariants.{Periodic, Sporadic}
use Rattle.rt_task.specs.declared.Op.{Op}
use Rattle.rt_task.specs.declared.PluginKind.{PluginKind}
use Rattle.rt_task.specs.declared.Protocol.{Protocol}
use Rattle.rt_task.specs.declared.Protocol.TheVariants.{Pcp, Srp}
use Rattle.rt_task.specs.declared.Act.TheVariants as acts
use Rattle.rt_task.specs.declared.Op.TheVariants as ops
use Rattle.rt_task.specs.declared.PluginKind.TheVariants as plugins
use Rattle.rt_rules.specs.declared.history.Reply.{Reply}
use Rattle.rt_rules.specs.declared.history.Reply.TheVariants as replies
use Rattle.rt_rules.specs.Numbers.{has, is, same, is_empty}
use Rattle.rt_rules.specs.Pcp.{passes}
use Rattle.rt_model.specs.Ceilings.{is_pcp, above_ceiling, pcp}
use Rattle.rt_model.specs.Group.{Group, task, home, protocol, declares, served_by}
use Rattle.rt_model.specs.Holders.{holder, holds, last_granted}
use Rattle.rt_model.specs.Links.{linked, pending}
use Rattle.rt_model.specs.NonPreemptive.{non_preemptive}
use Rattle.rt_model.specs.Past.{Event, Past, now, accepted, Clock, Acted}
use Rattle.rt_model.specs.Releases.{arrivals}
use Rattle.rt_model.specs.Reservations.{left, last}
use Rattle.rt_model.specs.Runs.{runs}

-- the clock of the processor's last accepted Work
abbrev pub works_at : ℕ → Event → Bool
works_at q (Clock tick) = false
works_at q (Acted d) = d.cpu == q && is_work_act d.act d.reply
  where
    is_work_act : Act → Reply → Bool
    is_work_act (acts.Do ops.Work) reply = accepted reply
    is_work_act _ reply = false

unfoldable pub last_work : ℕ → Past → Option ℕ
last_work q [] = None
last_work q (e ∷ past) = if works_at q e then Some (now past) else last_work q past

-- the clock of the newest of the arrivals
abbrev pub newest : List ℕ → Option ℕ
newest [] = None
newest (x ∷ []) = Some x
newest (x ∷ y ∷ ys) = newest (y ∷ ys)

module _ (g : Group) where
  -- an interrupt: what the processor runs is changed to its link, unless that job is non-preemptive
  unfoldable pub np_on : Option ℕ → Past → Bool
  np_on None past = false
  np_on (Some t) past = non_preemptive t past

  unfoldable pub link_reply : Option ℕ → Reply
  link_reply None = replies.Idles
  link_reply (Some t) = replies.Runs (record { 0 = t })

  unfoldable pub irq_answer : ℕ → Past → Reply
  irq_answer q past =
      if pending g q past
      then (if np_on (runs q past) past then replies.Deferred else link_reply (linked g q past))
      else replies.Quiet

  -- an arrival: the first from the phase on, a later one from a period after the last
  unfoldable pub may_arrive : ℕ → Option ℕ → Past → Bool
  may_arrive t None past = nat_le (task g t).phase (now past)
  may_arrive t (Some last) past = nat_le (last + (task g t).period) (now past)

  unfoldable pub arrival_answer : Kind → ℕ → Past → Reply
  arrival_answer Periodic t past = replies.NotSporadic
  arrival_answer Sporadic t past = if may_arrive t (newest (arrivals t past)) past then replies.Done else replies.TooEarly

  unfoldable pub no_budget : PluginKind → ℕ → Past → Bool
  no_budget plugins.PRes t past = left g (served_by g t) past == 0
  no_budget _ t past = false

  unfoldable pub work_answer : ℕ → ℕ → Past → Reply
  work_answer q t past =
      if same (last_work q past) (Some (now past))
      then replies.Spent
      else (if no_budget g.setup.plugin t past then replies.NoBudget else replies.Done)

  -- requests do not nest, but for PCP and SRP
  unfoldable pub nests : Protocol → ℕ → ℕ → Past → Bool
  nests Pcp s t past =
      list_any (λ r. not (is_pcp (protocol g r))) (holds g t past) || (has s (holds g t past) || nat_le MOST_HELD (length (holds g t past)))
  nests Srp s t past = has s (holds g t past) || nat_le MOST_HELD (length (holds g t past))
  nests _ s t past = not (is_empty (holds g t past))

  unfoldable pub is_granted : Protocol → ℕ → ℕ → Past → Bool
  is_granted Pcp s t past = passes (above_ceiling g) (pcp g (home g t) past).held t
  is_granted Srp s t past = true
  is_granted _ s t past = is_none (holder g s past)

  unfoldable pub lock_answer : ℕ → ℕ → Past → Reply
  lock_answer s t past =
      if not (declares g t s)
      then replies.NotDeclared
      else (if nests (protocol g s) s t past
      then replies.Nested
      else (if is_granted (protocol g s) s t past then replies.Granted else replies.Queued))

  unfoldable pub unlock_answer : ℕ → ℕ → Past → Reply
  unlock_answer s t past =
      if not (is t (holder g s past))
      then replies.NotHeld
      else (if is_stacked (protocol g s) && not (is s (last_granted g t past)) then replies.NotLast else replies.Done)

  unfoldable pub unless_holding : ℕ → Past → Reply
  unless_holding t past = if is_empty (holds g t past) then replies.Done else replies.Holding

  -- an operation of the task that runs
  unfoldable pub op_answer : Op → ℕ → ℕ → Bool → Past → Reply
  op_answer ops.Work q t np past = work_answer q t past
  op_answer (ops.Lock s) q t np past = if np then replies.InNp else lock_answer s.0 t past
  op_answer (ops.Unlock s) q t np past = unlock_answer s.0 t past
  op_answer (ops.Sleep n) q t np past = if np then replies.InNp else unless_holding t past
  op_answer ops.NpOn q t np past = if np then replies.InNp else replies.Done
  op_answer ops.NpOff q t np past = if np then replies.Done else replies.NotInNp
  op_answer ops.End q t np past = if np then replies.InNp else unless_holding t past

  unfoldable pub do_answer : Op → ℕ → Option ℕ → Past → Reply
  do_answer op q None past = replies.Idle
  do_answer op q (Some t) past = op_answer op q t (non_preemptive t past) past

  -- the answer to an act of a processor, once the clock has moved
  unfoldable pub answer : ℕ → Act → Past → Reply
  answer q acts.Tick past = replies.Done
  answer q acts.Irq past = irq_answer q past
  answer q (acts.Arrive t) past = arrival_answer (task g t.0).kind t.0 past
  answer q (acts.Do op) past = do_answer op q (runs q past) past
