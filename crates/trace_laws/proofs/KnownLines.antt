-- The lines of the plays of a valid set are lines of the grammar.
use Rattle.std.proofs.Common.{◌≡◌, ℕ, suc, ◌+◌, ◌^◌, ◌<◌, ◌≤◌, true, List, [], ◌∷◌, ◌++◌, length, get_or, sym, subst, arith}
use Rattle.std.specs.Prelude.{◌==◌, All, Option, None, Some}
use Rattle.std.proofs.lemmas.List.{length-map}
use Rattle.std.proofs.lemmas.List.Elements.{All-append, All-cons, All-head, All-nil, All-tail}
use Rattle.rt_base.specs.declared.TheConstants.{MOST_STEPS, TICK_END}
use Rattle.rt_task.specs.declared.Act.{Act}
use Rattle.rt_task.specs.declared.Act.TheVariants as acts
use Rattle.rt_task.specs.declared.Op.{Op}
use Rattle.rt_task.specs.declared.Op.TheVariants as ops
use Rattle.rt_task.specs.declared.Parts.{Parts}
use Rattle.rt_task.specs.declared.Step.{Step}
use Rattle.rt_task.specs.Validity.{IsValid}
use Rattle.rt_rules.specs.declared.history.Entry.{Entry}
use Rattle.rt_rules.specs.declared.history.Reply.{Reply}
use Rattle.rt_rules.specs.declared.history.Reply.TheVariants as replies
use Rattle.rt_rules.specs.Numbers.{has, is}
use Rattle.rt_rules.proofs.BoolLaws.{both, or_true}
use Rattle.rt_rules.proofs.MemberLaws.{equal_self, has-filter}
use Rattle.rt_model.specs.Group.{Group, group_processors, tasks}
use Rattle.rt_model.specs.Histories.{IsLegalFrom, after, changed, past_of, reply_to}
use Rattle.rt_model.specs.Links.{linked}
use Rattle.rt_model.specs.Reachable.{IsReachable, acted, clocked, opened}
use Rattle.rt_model.specs.Past.{Past, Clock}
use Rattle.rt_model.specs.Steps.{IsActOf, IsOpOf, IsStepOf}
use Rattle.rt_model.proofs.AnswerLaws.{answer-runs_link, to_run}
use Rattle.rt_model.proofs.Steps.{reply_to-lem}
use Rattle.rt_laws.proofs.links.LinkedTasks.{linked-eligible}
use Rattle.rt_plays.specs.Homes.{IsProcessorOf}
use Rattle.rt_plays.specs.Plays.{ArePlays, IsBegunPlay, IsPlay, group_count, group_with}
use Rattle.rt_plays.specs.Groups.{AreStepsOf, IsGroupOf}
use Rattle.rt_plays.proofs.GroupCount.{groups_are_counted}
use Rattle.rt_plays.proofs.GroupLimits.{processor-low, processor-some}
use Rattle.trace_lines.specs.Known.{ActIsKnown, IsLine, IsNumberOf, Known, LinkIsKnown, OpIsKnown, ReplyIsKnown, TargetIsKnown, known_of}
use Rattle.trace_lines.specs.declared.format.Version.{Version}
use Rattle.trace_lines.specs.Lines.{Link, end_line, entry_line, group_line}
use Rattle.trace_text.specs.TraceText.{block_lines, entry_lines, group_lines, lines_from, links_at}
use Rattle.trace_text.proofs.BlockLines.{block_lines-known, sem-numbered, task-numbered}
use Rattle.trace_text.proofs.GroupLaws.{groups-few}
use Rattle.trace_laws.proofs.Plays.{begun-legal, begun-steps, begun-whole, few-entries}

-- a link that is missing, or is one of the tasks
target-known : (k : Known) (o : Option ℕ) → ((t : ℕ) → is t o ≡ true → IsNumberOf (length k.names) t) → TargetIsKnown k o
target-known k None h = tt
target-known k (Some t) h = h t (equal_self t)

-- a reply that runs one of the tasks, or none
reply-known : (k : Known) (r : Reply) → ((t : ℕ) → is t (to_run r) ≡ true → IsNumberOf (length k.names) t) → ReplyIsKnown k r
reply-known k (replies.Runs t) h = h t.0 (equal_self t.0)
reply-known k _ h = tt

made-after : (g : Group) (s : Step) {past : Past} → IsReachable g past → IsReachable g (after g s past)
unfolding after
made-after g s made = acted s.cpu.0 s.act (clocked s.tick.0 made)

changed-processor : (g : Group) (was now : Past) (q : ℕ) → has q (changed g was now) ≡ true → IsProcessorOf g q
unfolding changed
changed-processor g was now q h = (both _ _ (rw has-filter at h)).0

module _ (v : Version) (g : Group) (valid : IsValid g.setup) where
  abbrev k : Known
  k = known_of v g.setup

  task-known : (t : ℕ) → has t (tasks g) ≡ true → IsNumberOf (length k.names) t
  task-known t h =
      let number = task-numbered g t valid h in
      let count : length k.names ≡ length g.setup.tasks = length-map _ _ in
      record { low = number.low; high = omega (arith, number.high, count); fits = number.fits }

  linked-known : {past : Past} → IsReachable g past → (q : ℕ) → TargetIsKnown k (linked g q past)
  linked-known {past} made q = target-known k (linked g q past) (λ t h. task-known t (linked-eligible g made q t h).member)

  links-known : {past : Past} → IsReachable g past → (qs : List ℕ) → ((q : ℕ) → has q qs ≡ true → IsProcessorOf g q) → All (LinkIsKnown k) (links_at g past qs)
  links-known made [] there = All-nil (LinkIsKnown k)
  links-known {past} made (q ∷ qs) there =
      let low : q < 64 = processor-low g q valid (there q (rw (equal_self q))) in
      All-cons (LinkIsKnown k) (q, linked g q past) (links_at g past qs) (omega arith, linked-known made q) (links-known made qs (λ r h. there r (rw h (or_true (r == q)))))

  -- an act of the group names one of its tasks, or a semaphore of the set
  op-known : (op : Op) → IsOpOf g op → OpIsKnown k op
  op-known ops.Work h = tt
  op-known (ops.Lock s) h = sem-numbered g s.0 valid h
  op-known (ops.Unlock s) h = sem-numbered g s.0 valid h
  op-known (ops.Sleep n) h = let low : n < TICK_END = h in omega arith
  op-known ops.NpOn h = tt
  op-known ops.NpOff h = tt
  op-known ops.End h = tt

  act-known : (act : Act) → IsActOf g act → ActIsKnown k act
  act-known acts.Tick h = tt
  act-known acts.Irq h = tt
  act-known (acts.Arrive t) h = task-known t.0 h
  act-known (acts.Do op) h = op-known op h

  legal-reply : (s : Step) {past : Past} → IsReachable g past → ReplyIsKnown k (reply_to g s past)
  legal-reply s {past} made =
      reply-known k (reply_to g s past) (λ t h. task-known t (linked-eligible g (clocked s.tick.0 made) s.cpu.0 t (answer-runs_link g s.cpu.0 t s.act (Clock s.tick.0 ∷ past) (rw reply_to-lem at h))).member)

  entry-known : (i : ℕ) (e : Entry) {past : Past} → IsReachable g past → e.reply ≡ reply_to g e.step past → IsStepOf g e.step → i < 2 ^ 32
      → IsLine k (entry_line i e (links_at g (after g e.step past) (changed g past (after g e.step past))))
  entry-known i e {past} made legal of_group low =
      let tick : e.step.tick.0 < TICK_END = of_group.tick in
      let cpu : e.step.cpu.0 < 64 = processor-low g e.step.cpu.0 valid of_group.processor in
      record {
        number = low;
        tick_fits = omega arith;
        cpu_fits = omega arith;
        act_known = act-known e.step.act of_group.act;
        reply_known = subst (ReplyIsKnown k) (sym legal) (legal-reply e.step made);
        links_known = links-known (made-after g e.step made) (changed g past (after g e.step past)) (changed-processor g past (after g e.step past));
      }

  entries-known : (i : ℕ) (es : List Entry) {past : Past} → IsReachable g past → IsLegalFrom g past es → AreStepsOf g es → i + length es ≤ 2 ^ 32 → All (IsLine k) (entry_lines g i past es)
  unfolding entry_lines
  entries-known i [] made legal steps low = All-nil (IsLine k)
  entries-known i (e ∷ es) {past} made legal steps low =
      let links : List Link = links_at g (after g e.step past) (changed g past (after g e.step past)) in
      All-cons (IsLine k) (entry_line i e links) (entry_lines g (i + 1) (after g e.step past) es)
      (entry-known i e made legal.0 (All-head (λ (x : Entry). IsStepOf g x.step) e es steps) (omega arith))
      (entries-known (i + 1) es (made-after g e.step made) legal.1 (All-tail (λ (x : Entry). IsStepOf g x.step) e es steps) (omega arith))

  group-known : IsGroupOf g.setup g.number → IsLine k (group_line g.number (links_at g [] (group_processors g)))
  group-known there =
      let number : g.number < group_count g.setup = (groups_are_counted g.setup g.number valid).0 there in
      let few : group_count g.setup ≤ 64 = groups-few g.setup valid in
      let some : 1 ≤ length (group_processors g) = processor-some g valid there in
      let same : length (links_at g [] (group_processors g)) ≡ length (group_processors g) = length-map _ _ in
      (omega arith, omega arith, links-known opened (group_processors g) (λ q h. h))

  group-lines-known : (es : List Entry) → IsGroupOf g.setup g.number → IsPlay g es → All (IsLine k) (group_lines g es)
  unfolding group_lines
  group-lines-known es there play =
      let begun : IsBegunPlay g es = begun-whole g es play in
      let few : length es ≤ MOST_STEPS = few-entries g es valid begun in
      let steps : AreStepsOf g es = begun-steps g es valid begun in
      let entries : All (IsLine k) (entry_lines g 0 [] es) = entries-known 0 es opened (begun-legal g es begun) steps (omega arith) in
      let listed : All (IsLine k) (entry_lines g 0 [] es ++ block_lines g (past_of g es)) =
      All-append (IsLine k) (entry_lines g 0 [] es) (block_lines g (past_of g es)) entries (block_lines-known v g es valid few) in
      All-cons (IsLine k) (group_line g.number (links_at g [] (group_processors g))) (entry_lines g 0 [] es ++ block_lines g (past_of g es)) (group-known there) listed

module _ (v : Version) (p : Parts) (valid : IsValid p) where
  -- the lines of the plays of the groups from a number on, with the line `end`
  lines-known : (n : ℕ) (hs : List (List Entry)) → n + length hs ≤ group_count p → ((i : ℕ) → i < length hs → IsPlay (group_with p (n + i)) (get_or hs i [])) → All (IsLine (known_of v p)) (lines_from p n hs)
  lines-known n [] few plays = All-cons (IsLine (known_of v p)) end_line [] tt (All-nil (IsLine (known_of v p)))
  lines-known n (es ∷ hs) few plays =
      let here : n + 0 ≡ n = omega arith in
      let there : IsGroupOf p n = (groups_are_counted p n valid).1 (omega arith) in
      let play : IsPlay (group_with p n) es = subst (λ (m : ℕ). IsPlay (group_with p m) es) here (plays 0 (omega arith)) in
      All-append (IsLine (known_of v p)) (group_lines (group_with p n) es) (lines_from p (n + 1) hs) (group-lines-known v (group_with p n) valid es there play) (lines-known (n + 1) hs (omega arith) later)
    where
      later : (i : ℕ) → i < length hs → IsPlay (group_with p (n + 1 + i)) (get_or hs i [])
      later i low = let next : n + suc i ≡ n + 1 + i = omega arith in subst (λ (m : ℕ). IsPlay (group_with p m) (get_or hs i [])) next (plays (suc i) (omega arith))

  -- each line of the text of plays
  pub known-lines : (hs : List (List Entry)) → ArePlays p hs → All (IsLine (known_of v p)) (lines_from p 0 hs)
  known-lines hs are = lines-known 0 hs (omega (arith, are.count)) at_number
    where
      at_number : (i : ℕ) → i < length hs → IsPlay (group_with p (0 + i)) (get_or hs i [])
      at_number i low = let same : i ≡ 0 + i = omega arith in subst (λ (m : ℕ). IsPlay (group_with p m) (get_or hs i [])) same (are.plays i low)
