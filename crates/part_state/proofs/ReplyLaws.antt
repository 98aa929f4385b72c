-- What an act comes to, as it is read.
use Rattle.std.proofs.Common.{◌≡◌, ℕ, Bool, true, false, not, Option, None, Some, refl, ap, ◌∙◌}
use Rattle.std.specs.Prelude.{if◌then◌else◌, is_some}
use Rattle.rt_base.specs.declared.Ask.{Ask}
use Rattle.rt_base.specs.declared.SemNo.{SemNo}
use Rattle.rt_task.specs.RuleWords.{is_p_res}
use Rattle.rt_task.specs.declared.Act.TheVariants as acts
use Rattle.rt_task.specs.declared.Op.{Op}
use Rattle.rt_task.specs.declared.Op.TheVariants as ops
use Rattle.rt_task.specs.declared.PluginKind.{PluginKind}
use Rattle.rt_task.specs.declared.PluginKind.TheVariants as plugins
use Rattle.rt_rules.specs.declared.history.Reply.TheVariants as replies
use Rattle.rt_rules.specs.Numbers.{has, same}
use Rattle.rt_rules.proofs.BoolLaws.{clash}
use Rattle.rt_model.specs.Answers.{last_work, link_reply, no_budget, work_answer}
use Rattle.rt_model.specs.Group.{Group, declares, task, tasks}
use Rattle.rt_model.specs.Past.{Past}
use Rattle.rt_model.specs.Runs.{runs}
use Rattle.group_jobs.specs.Kept.{cpu_of}
use Rattle.group_jobs.specs.Replies.{irq_reply, run_reply, work_reply}
use Rattle.split_rules.specs.PartAnswers.{answer, asked, do_answer, end_answer, irq_answer, lock_answer, op_answer, unlock_answer}
use Rattle.split_rules.specs.PartLinks.{linked, pending}
use Rattle.split_rules.specs.PartPast.{PartPast, moves}
use Rattle.split_rules.specs.PartSems.{holding}
use Rattle.part_state.specs.Uses.{is_declared}
use Rattle.part_state.specs.Replies.{IsOwn, ReplyIsRead, do_reply, op_reply, reply_by}
use Rattle.part_state.specs.States.{IsAt, PartState, lock_of, sem_number}
use Rattle.part_state.specs.declared.replies.PartReply.TheVariants.{Asks, Frees, Is}

-- an interrupt
run-link : (g : Group) (o : Option ℕ) → run_reply o ≡ link_reply g o
unfolding link_reply
run-link g None = refl
run-link g (Some t) = refl

irq-read : (g : Group) (link running : Option ℕ) → irq_reply link running false ≡ (if not (same link running) then link_reply g link else replies.Quiet)
irq-read g link running = ap (λ r. if not (same link running) then r else replies.Quiet) (run-link g link)

-- without reservations no budget is asked for
no-budget : (g : Group) (x : PluginKind) (t : ℕ) (past : Past) → is_p_res x ≡ false → no_budget g x t past ≡ false
unfolding no_budget
no-budget g plugins.PRes t past h = absurd (clash _ refl h)
no-budget g plugins.GsnEdf t past h = refl
no-budget g plugins.CEdf t past h = refl
no-budget g plugins.PsnEdf t past h = refl
no-budget g plugins.PFp t past h = refl

-- what comes of two tests
lock-by : (b c : Bool) (t r : _) (a : Ask) → reply_by (if not b then Is replies.NotDeclared else (if c then Is replies.Nested else Asks t r)) a
    ≡ (if not b then replies.NotDeclared else (if c then replies.Nested else asked a))
lock-by true true t r a = refl
lock-by true false t r a = refl
lock-by false c t r a = refl

unlock-by : (b : Bool) (t r : _) (a : Ask) → reply_by (if b then Frees t r else Is replies.NotHeld) a ≡ (if b then replies.Done else replies.NotHeld)
unlock-by true t r a = refl
unlock-by false t r a = refl

end-by : (b : Bool) (a : Ask) → reply_by (if b then Is replies.Holding else Is replies.Done) a ≡ (if b then replies.Holding else replies.Done)
end-by true a = refl
end-by false a = refl

some-same : (o : Option SemNo) → is_some o ≡ is_some (sem_number o)
some-same None = refl
some-same (Some r) = refl

module _ (g : Group) (q : ℕ) (past : PartPast) (s : PartState) (a : Ask) (own : IsOwn g q past) (at : IsAt g past s) where
  runs-read : (cpu_of s.kept q).runs ≡ runs q (moves past)
  runs-read = ap (λ c. c.runs) (at.kept.cpus_are q own.inside)

  worked-read : (cpu_of s.kept q).worked ≡ last_work q (moves past)
  worked-read = ap (λ c. c.worked) (at.kept.cpus_are q own.inside)

  work-read : (t : ℕ) → work_reply s.kept.clock (cpu_of s.kept q).worked false ≡ work_answer g q t (moves past)
  unfolding work_answer
  work-read t = rw (no-budget g g.setup.plugin t (moves past) own.no_resvs, worked-read, at.kept.clock_is) refl

  holds-read : (t : ℕ) → has t (tasks g) ≡ true → is_some (lock_of s t).holds ≡ is_some (holding t past)
  holds-read t there = some-same (lock_of s t).holds ∙ ap is_some (at.locks t there).holds

  op-read : (t : ℕ) → has t (tasks g) ≡ true → (op : Op) → reply_by (op_reply g.setup s q op t) a ≡ op_answer g q op t a past
  unfolding op_answer lock_answer unlock_answer end_answer declares task
  op-read t there ops.Work = work-read t
  op-read t there (ops.Lock r) =
      lock-by (is_declared r (task g t).uses) (is_some (lock_of s t).holds) (record { 0 = t }) r a
      ∙ ap (λ c. if not (is_declared r (task g t).uses) then replies.NotDeclared else (if c then replies.Nested else asked a)) (holds-read t there)
  op-read t there (ops.Unlock r) =
      unlock-by (same (sem_number (lock_of s t).holds) (Some r.0)) (record { 0 = t }) r a
      ∙ ap (λ o. if same o (Some r.0) then replies.Done else replies.NotHeld) (at.locks t there).holds
  op-read t there ops.End =
      end-by (is_some (lock_of s t).holds) a ∙ ap (λ b. if b then replies.Holding else replies.Done) (holds-read t there)
  op-read t there (ops.Sleep n) = refl
  op-read t there ops.NpOn = refl
  op-read t there ops.NpOff = refl

  do-read : (op : Op) (o : Option ℕ) → runs q (moves past) ≡ o → reply_by (do_reply g.setup s q op o) a ≡ do_answer g q op o a past
  unfolding do_answer
  do-read op None e = refl
  do-read op (Some t) e = op-read t (own.runs_in t e) op

pub reply_is_read : ReplyIsRead
unfolding answer irq_answer pending
reply_is_read g q past s acts.Tick a own at = refl
reply_is_read g q past s acts.Irq a own at =
    ap (λ o. irq_reply (linked g q past) o false) (runs-read g q past s a own at) ∙ irq-read g (linked g q past) (runs q (moves past))
reply_is_read g q past s (acts.Arrive t) a own at = refl
reply_is_read g q past s (acts.Do op) a own at =
    ap (λ o. reply_by (do_reply g.setup s q op o) a) (runs-read g q past s a own at) ∙ do-read g q past s a own at op (runs q (moves past)) refl
