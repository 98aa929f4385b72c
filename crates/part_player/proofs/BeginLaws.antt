-- What a step comes to, read off what is kept once the clock stands at its tick.
use Rattle.std.proofs.Common.{◌≡◌, ℕ, ◌<◌, Bool, true, false, not, List, [], ◌∷◌, ◌++◌, length, Option, None, Some, refl, sym, ap, ◌∙◌, subst, arith, eqb-true}
use Rattle.std.specs.Prelude.{if◌then◌else◌, is_some}
use Rattle.rt_base.specs.declared.Ask.{Ask}
use Rattle.rt_base.specs.declared.Ask.TheVariants as asks
use Rattle.rt_base.specs.declared.SemNo.{SemNo}
use Rattle.rt_base.specs.declared.TheConstants.{TICK_END}
use Rattle.rt_task.specs.declared.Act.{Act}
use Rattle.rt_task.specs.declared.Act.TheVariants as acts
use Rattle.rt_task.specs.declared.Op.{Op}
use Rattle.rt_task.specs.declared.Op.TheVariants as ops
use Rattle.rt_task.specs.declared.Parts.{Parts}
use Rattle.rt_task.specs.declared.Step.{Step}
use Rattle.rt_rules.specs.declared.history.Reply.{Reply}
use Rattle.rt_rules.specs.declared.history.Reply.TheVariants as replies
use Rattle.rt_rules.specs.Numbers.{has, is, same}
use Rattle.rt_rules.proofs.MemberLaws.{equal_self}
use Rattle.rt_model.specs.Group.{Group, declares, task, tasks}
use Rattle.rt_model.specs.Past.{now}
use Rattle.rt_model.specs.Runs.{runs}
use Rattle.rt_laws.proofs.ValidSets.{rules_of}
use Rattle.group_jobs.specs.Kept.{cpu_of}
use Rattle.group_jobs.proofs.KeptMoves.{task-range}
use Rattle.group_jobs.specs.GroupJobs.{IsTaskOf, RunsTask, task_in}
use Rattle.mpcp_ceilings.specs.Ceilings.{AreCeilings, CeilingTable}
use Rattle.split_rules.specs.PartAnswers.{answer, asked, part_act}
use Rattle.split_rules.specs.PartHistories.{after, past_of}
use Rattle.split_rules.specs.PartLinks.{linked}
use Rattle.split_rules.specs.PartLinks as links
use Rattle.split_rules.specs.PartPast.{Asks as AsksDeed, PartPast, deed_of, deeds, moves, with_deed}
use Rattle.split_rules.specs.PartSems.{holding}
use Rattle.split_rules.specs.Partitions.{group_no, part_group}
use Rattle.split_rules.specs.declared.SplitEntry.{SplitEntry}
use Rattle.split_laws.specs.Counts.{names_sem}
use Rattle.split_laws.specs.Parts.{IsPartPast}
use Rattle.split_laws.specs.Users.{AreUsers}
use Rattle.split_laws.proofs.EntryLaws.{legal_past_is_known, none-deed}
use Rattle.split_laws.proofs.UserLaws.{legal_past_has_users}
use Rattle.split_counts.specs.Room.{ComesNext, is_unlock}
use Rattle.part_state.specs.Reading.{HoldsKnown}
use Rattle.part_state.specs.Reads.{CanRead, link_in}
use Rattle.part_state.specs.Replies.{IsOwn, do_reply, op_reply, part_reply, reply_by}
use Rattle.part_state.specs.States.{IsAt, PartState, lock_of, sem_number}
use Rattle.part_state.specs.Uses.{is_declared}
use Rattle.part_state.specs.declared.replies.PartReply.{PartReply}
use Rattle.part_state.specs.declared.replies.PartReply.TheVariants.{Asks, Frees, Is}
use Rattle.part_state.proofs.CanReadLaws.{can_be_read}
use Rattle.part_state.proofs.EntryLaws.{held_is_known}
use Rattle.part_state.proofs.ReadLaws.{link_is_read}
use Rattle.part_state.proofs.ReplyLaws.{reply_is_read}
use Rattle.part_player.specs.Players.{DoesBy, IsBegun, IsPlayed, deeds_after, moved, own_script}
use Rattle.part_player.proofs.OwnParts.{all-boost, no-resvs, own-cpus, own-inside, own-seat, own-task}
use Rattle.part_player.proofs.OwnSteps.{IsOwnStep, IsWithin, played-within}

same-is : (o : Option ℕ) (s : ℕ) → same o (Some s) ≡ true → o ≡ Some s
same-is None s h = cc
same-is (Some x) s h = ap Some (eqb-true x s h)

none-held : (o : Option SemNo) → is_some o ≡ false → sem_number o ≡ None
none-held None h = refl
none-held (Some s) h = cc

module _ (p : Parts) (q : ℕ) (es : List SplitEntry) (played : IsPlayed p q es) where
  abbrev pub g : Group
  g = part_group p q

  abbrev pub past : PartPast
  past = past_of g q es

  users : AreUsers g q past
  users = legal_past_has_users g q es played.legal

  part : IsPartPast g q past
  part = legal_past_is_known g q es (own-seat p q played.of_split) played.legal

  within : IsWithin past
  within = played-within p q es played

  -- at a past that differs from the history's by the clock alone
  module _ (x : Step) (step : IsOwnStep g q x) (state : PartState) (at : IsAt g (moved x past) state) where
    low-clock : now (moves (moved x past)) < TICK_END
    low-clock = let a = within.clock in let b = step.step.tick in omega (arith, a, b)

    known : HoldsKnown g (moved x past)
    unfolding holding
    known t r h = held_is_known g q es played.of_split.valid played.legal t r h

    pub can-read : (t : ℕ) → has t (links.tasks g q) ≡ true → CanRead p state t
    can-read t h = can_be_read g t (moved x past) state played.of_split.valid within.few low-clock known at (own-task p q played.of_split t h).0

    pub cpu-low : q < length state.kept.cpus
    cpu-low = at.kept.cpus_room q (own-inside p q played.of_split)

    pub runs-are : (cpu_of state.kept q).runs ≡ runs q (moves past)
    unfolding runs
    runs-are = ap (λ c. c.runs) (at.kept.cpus_are q (own-inside p q played.of_split))

    -- what runs is a task of which all can be read
    pub runs-read : (t : ℕ) → (cpu_of state.kept q).runs ≡ Some t → IsTaskOf state.kept p.tasks t
    runs-read t h =
        let there = users.runs_in t (sym runs-are ∙ h) in
        (can_be_read g t (moved x past) state played.of_split.valid within.few low-clock known at there).task

    pub runs-task : RunsTask state.kept q
    runs-task t h = let r = runs-read t h in (r.low, r.high)

    pub link-read : (c : CeilingTable) → AreCeilings g c → link_in p c state (links.tasks g q) ≡ linked g q (moved x past)
    link-read c ceilings =
        link_is_read g q (moved x past) c state (own-seat p q played.of_split) (own-cpus p q played.of_split)
        (record { boost = all-boost p played.of_split.valid played.of_split.split (group_no p q); ceilings = ceilings; known = known }) at

    own : IsOwn g q (moved x past)
    unfolding runs
    own = record {
      inside = own-inside p q played.of_split;
      runs_in = users.runs_in;
      no_resvs = no-resvs p played.of_split.valid played.of_split.split;
    }

    abbrev pub reply : PartReply
    reply = part_reply p state q x.act (linked g q (moved x past))

    pub answers : (a : Ask) → reply_by reply a ≡ answer g q x.act a (moved x past)
    answers a = reply_is_read g q (moved x past) state x.act a own at

    -- ---- what it does at semaphores

    deeds-are : (r : Reply) (act : Act) → x.act ≡ act → (o : Option ℕ) → runs q (moves past) ≡ o → deeds_after g q past x r ≡ with_deed (deeds past) (deed_of act r o)
    unfolding after deeds part_act runs
    deeds-are r act e o k = ap (λ (d : Act). with_deed (deeds past) (deed_of d r (runs q (moves past)))) e ∙ ap (λ (u : Option ℕ). with_deed (deeds past) (deed_of act r u)) k

    abbrev Does : PartReply → Type 0
    Does r = DoesBy g q past x r

    module _ (t : ℕ) (runs_t : runs q (moves past) ≡ Some t) where
      there : has t (tasks g) ≡ true
      there = users.runs_in t runs_t

      asks-deed : (s : SemNo) → x.act ≡ acts.Do (ops.Lock s) → (a : Ask)
          → deeds_after g q past x (asked a) ≡ deeds past ++ record { task = t; sem = s.0; deed = AsksDeed a } ∷ []
      asks-deed s e asks.Granted = deeds-are replies.Granted (acts.Do (ops.Lock s)) e (Some t) runs_t
      asks-deed s e asks.Queued = deeds-are replies.Queued (acts.Do (ops.Lock s)) e (Some t) runs_t

      holds-none : is_some (lock_of state t).holds ≡ false → holding t past ≡ None
      unfolding holding
      holds-none h = sym (at.locks t there).holds ∙ none-held (lock_of state t).holds h

      does-lock : (s : SemNo) → x.act ≡ acts.Do (ops.Lock s) → (b : Bool) → is_declared s (task_in p.tasks t).uses ≡ b → (c : Bool) → is_some (lock_of state t).holds ≡ c
          → Does (if not b then Is replies.NotDeclared else (if c then Is replies.Nested else Asks (record { 0 = t }) s))
      unfolding declares task
      does-lock s e false d c h = deeds-are replies.NotDeclared (acts.Do (ops.Lock s)) e (Some t) runs_t
      does-lock s e true d true h = deeds-are replies.Nested (acts.Do (ops.Lock s)) e (Some t) runs_t
      does-lock s e true d false h = record {
        low = (task-range g t there).0;
        high = (task-range g t there).1;
        at_home = part.runs_home t runs_t;
        known = (rules_of g played.of_split.valid).is_known t s.0 there d;
        names = ap (names_sem s.0) e ∙ equal_self s.0;
        holds = holds-none h;
        waits = part.runs_free t runs_t;
        deed = asks-deed s e;
      }

      does-unlock : (s : SemNo) → x.act ≡ acts.Do (ops.Unlock s) → (b : Bool) → same (sem_number (lock_of state t).holds) (Some s.0) ≡ b
          → Does (if b then Frees (record { 0 = t }) s else Is replies.NotHeld)
      unfolding holding
      does-unlock s e false h = deeds-are replies.NotHeld (acts.Do (ops.Unlock s)) e (Some t) runs_t
      does-unlock s e true h =
          let holds : holding t past ≡ Some s.0 = sym (at.locks t there).holds ∙ same-is (sem_number (lock_of state t).holds) s.0 h in
          record {
            low = (task-range g t there).0;
            high = (task-range g t there).1;
            at_home = part.runs_home t runs_t;
            known = known t s.0 holds;
            names = ap (names_sem s.0) e ∙ equal_self s.0;
            unlocks = ap is_unlock e;
            holds = holds;
            deed = deeds-are replies.Done (acts.Do (ops.Unlock s)) e (Some t) runs_t;
          }

      does-op : (op : Op) → x.act ≡ acts.Do op → Does (op_reply p state q op t)
      does-op ops.Work e = deeds-are _ (acts.Do ops.Work) e (Some t) runs_t
      does-op (ops.Lock s) e = does-lock s e (is_declared s (task_in p.tasks t).uses) refl (is_some (lock_of state t).holds) refl
      does-op (ops.Unlock s) e = does-unlock s e (same (sem_number (lock_of state t).holds) (Some s.0)) refl
      does-op ops.End e = by_held (is_some (lock_of state t).holds)
        where
          by_held : (b : Bool) → Does (if b then Is replies.Holding else Is replies.Done)
          by_held true = deeds-are replies.Holding (acts.Do ops.End) e (Some t) runs_t
          by_held false = deeds-are replies.Done (acts.Do ops.End) e (Some t) runs_t
      does-op (ops.Sleep n) e = deeds-are replies.Idle (acts.Do (ops.Sleep n)) e (Some t) runs_t
      does-op ops.NpOn e = deeds-are replies.Idle (acts.Do ops.NpOn) e (Some t) runs_t
      does-op ops.NpOff e = deeds-are replies.Idle (acts.Do ops.NpOff) e (Some t) runs_t

    does-do : (op : Op) → x.act ≡ acts.Do op → (o : Option ℕ) → runs q (moves past) ≡ o → Does (do_reply p state q op o)
    does-do op e None h = deeds-are replies.Idle (acts.Do op) e None h ∙ ap (with_deed (deeds past)) (none-deed op)
    does-do op e (Some t) h = does-op t h op e

    does-act : (act : Act) → x.act ≡ act → Does (part_reply p state q act (linked g q (moved x past)))
    does-act acts.Tick e = deeds-are _ acts.Tick e (runs q (moves past)) refl
    does-act acts.Irq e = deeds-are _ acts.Irq e (runs q (moves past)) refl
    does-act (acts.Arrive t) e = deeds-are _ (acts.Arrive t) e (runs q (moves past)) refl
    does-act (acts.Do op) e = subst (λ o. Does (do_reply p state q op o)) (sym runs-are) (does-do op e (runs q (moves past)) refl)

    pub does : Does reply
    does = does-act x.act refl

    pub begins : (begun : Bool) (room : ℕ) → ComesNext (own_script p q) q es x → (r : PartReply) → r ≡ reply
        → IsBegun (record { setup = p; cpu = q; entries = es; begun = begun; room = room }) (record { step = x; reply = r })
    begins begun room next r is =
        subst (λ (r' : PartReply). IsBegun (record { setup = p; cpu = q; entries = es; begun = begun; room = room }) (record { step = x; reply = r' })) (sym is)
        (record { next = next; answers = answers; does = does })
