-- An engine that takes steps, with the links of its processors and the requests.
use Rattle.std.proofs.Common.{◌≡◌, ℕ, ◌+◌, ◌≤◌, List, [], length, get_or, refl, sym, ap, ◌∙◌, subst, arith}
use Rattle.std.specs.Prelude.{All, Option, Result, Ok, Err, OnOk}
use Rattle.std.proofs.lemmas.List.{length-map}
use Rattle.rt_base.specs.declared.CpuNo.{CpuNo}
use Rattle.rt_task.specs.declared.Parts.{Parts}
use Rattle.rt_task.specs.declared.Step.{Step}
use Rattle.rt_task.specs.Validity.{IsValid}
use Rattle.rt_rules.specs.declared.history.Entry.{Entry}
use Rattle.rt_rules.specs.declared.history.Reply.{Reply}
use Rattle.rt_rules.specs.Numbers.{same}
use Rattle.rt_rules.specs.SemState.{Frees}
use Rattle.rt_model.specs.Group.{Group, group_processors}
use Rattle.rt_model.specs.Histories.{after, clock_moved, past_from, past_of, reply_to}
use Rattle.rt_model.specs.Links.{linked}
use Rattle.rt_model.specs.Past.{Past}
use Rattle.rt_model.specs.Runs.{runs}
use Rattle.rt_model.proofs.Steps.{past_of-append, runs-clock}
use Rattle.rt_plays.specs.Groups.{GroupHistory, group_of, past, with_entry}
use Rattle.rt_plays.specs.Homes.{IsProcessorOf}
use Rattle.rt_changes.specs.CountLaws.{act_of}
use Rattle.rt_changes.specs.Tallies.{AreWaiters, Waiter}
use Rattle.block_counts.specs.GroupRequests.{GroupRequests, IsAt, IsBetween, group_of as requests_group}
use Rattle.group_engine.specs.Words.{AreListed, AreWaitersAt}
use Rattle.group_engine.specs.Moments.{between}
use Rattle.trace_lines.specs.declared.links.CpuLink.{CpuLink}
use Rattle.trace_lines.specs.Lines.{Link, link_of, links_of}
use Rattle.trace_text.specs.TraceText.{links_at}
use Rattle.trace_writer.specs.Replays.{Counts, ShowsLinks, HasTaken}
use Rattle.trace_text.specs.Groups.{cpu_numbers, cpus_in}
use Rattle.trace_text.proofs.ReplayLaws.{cpus_there}

-- the processors are the same after an entry more, and these are their links then
pub shows-next : (h h' : GroupHistory) (e : Entry) (qs : List CpuNo) (links : List CpuLink) → h' ≡ with_entry e h → cpu_numbers qs ≡ group_processors (group_of h)
    → links_of links ≡ links_at (group_of h) (past h') (group_processors (group_of h)) → ShowsLinks h' qs links
shows-next h h' e qs links entry cpus are =
    let same : group_of h ≡ group_of h' = sym (ap group_of entry) in
    record { cpus_are = cpus ∙ ap group_processors same; links_are = are ∙ ap (λ (g : Group). links_at g (past h') (group_processors g)) same }

-- a step makes one event more
pub past_step : (h h' : GroupHistory) (s : Step) (r : Reply) → h' ≡ with_entry (record { step = s; reply = r }) h → past h' ≡ after (group_of h) s (past h)
past_step h h' s r e = ap past e ∙ past_of-append (group_of h) h.entries (record { step = s; reply = r })

pub taken-entry : (h h' : GroupHistory) (s : Step) (r : Reply) → h' ≡ with_entry (record { step = s; reply = r }) h → r ≡ reply_to (group_of h) s (past h) → HasTaken h h' s r
taken-entry h h' s r e told = record { reply_is = told; group_is = ap group_of e; spare_is = ap (λ (x : GroupHistory). x.spare) e; past_is = past_step h h' s r e }

pub on_ok : {E : Type 0} {P : Type 0} (r : Result (Unit {0}) E) → P → OnOk r P
on_ok (Ok u) p = p
on_ok (Err e) p = tt

-- at opening there are no requests
pub counts-open : (h : GroupHistory) (b : GroupRequests) (room : ℕ) (p : Parts) (n spare : ℕ) → IsValid p → h ≡ record { setup = p; group = n; entries = []; spare = spare }
    → b.setup ≡ p → b.group ≡ n → b.spare ≡ spare → IsAt b [] → length p.tasks ≤ room → Counts h b room
unfolding past_of past_from
counts-open h b room p n spare valid is setup_is group_is spare_is at few = record {
  valid = subst (λ (x : GroupHistory). IsValid x.setup) (sym is) valid;
  setup_is = setup_is ∙ ap (λ (x : GroupHistory). x.setup) (sym is);
  group_is = group_is ∙ ap (λ (x : GroupHistory). x.group) (sym is);
  at = subst (λ (x : GroupHistory). IsAt b (past x)) (sym is) at;
  spare = omega (arith, spare_is, ap (λ (x : GroupHistory). x.spare) is);
  room_is = omega (arith, few, ap (λ (x : GroupHistory). length x.setup.tasks) is);
}

-- the requests of an entry more
module _ (h h' : GroupHistory) (b b' : GroupRequests) (room room' : ℕ) (step : Step) (reply : Reply) (counts : Counts h b room) (entry : h' ≡ with_entry (record { step = step; reply = reply }) h) where
  own : requests_group b ≡ group_of h
  own = rw (counts.setup_is, counts.group_is) refl

  pub is_between : (running : Option ℕ) (ws : List Waiter) → reply ≡ reply_to (group_of h) step (past h) → running ≡ runs step.cpu.0 (past h) → AreWaitersAt (between h step) step.cpu.0 step.act ws
      → IsBetween b (past h) (record { step = step; reply = reply }) running ws
  unfolding reply_to
  is_between running ws reply_is runs_is waiting = record {
    reply_is = reply_is ∙ ap (λ (g : Group). reply_to g step (past h)) (sym own);
    runs_is = runs_is ∙ sym (runs-clock step.cpu.0 step.tick.0 (past h));
    waiting = λ t s frees.
        let freed : act_of (group_of h) step (past h) ≡ Frees t s = ap (λ (g : Group). act_of g step (past h)) (sym own) ∙ frees in
        subst (λ (g : Group). AreWaiters g s (clock_moved step (past h)) ws) (sym own)
        (subst (λ a. AreListed (group_of h) (clock_moved step (past h)) a ws) freed waiting);
  }

  pub counts-next : b'.setup ≡ b.setup → b'.group ≡ b.group → b'.spare + 1 ≡ b.spare → room' ≡ room → IsAt b' (after (requests_group b) step (past h)) → Counts h' b' room'
  counts-next setup_same group_same spare_less room_same at = record {
    valid = subst (λ (x : GroupHistory). IsValid x.setup) (sym entry) counts.valid;
    setup_is = setup_same ∙ counts.setup_is ∙ ap (λ (x : GroupHistory). x.setup) (sym entry);
    group_is = group_same ∙ counts.group_is ∙ ap (λ (x : GroupHistory). x.group) (sym entry);
    at = subst (λ (p : Past). IsAt b' p) (ap (λ (g : Group). after g step (past h)) own ∙ sym (past_step h h' step reply entry)) at;
    spare = omega (arith, counts.spare, spare_less, ap (λ (x : GroupHistory). x.spare) entry);
    room_is = omega (arith, counts.room_is, room_same, ap (λ (x : GroupHistory). length x.setup.tasks) entry);
  }

-- an engine that is lent shows the history that it has
pub lent-links : (x h : GroupHistory) (g : Group) (ls xs : List CpuLink) → x ≡ h → group_of h ≡ g → ls ≡ xs
    → links_at (group_of x) (past x) (cpus_in ls) ≡ links_at g (past h) (cpus_in xs)
lent-links x h g ls xs same of own =
    ap (λ (v : GroupHistory). links_at (group_of v) (past v) (cpus_in ls)) same ∙ ap (λ (k : Group). links_at k (past h) (cpus_in ls)) of
    ∙ ap (λ (ys : List CpuLink). links_at g (past h) (cpus_in ys)) own

-- the processors of an engine that is lent, in a list that is lent
pub lent-cpus : (x h : GroupHistory) (ys qs : List CpuNo) → x ≡ h → ys ≡ qs → cpu_numbers qs ≡ group_processors (group_of h) → All (λ q. IsProcessorOf (group_of x) q.0) ys
lent-cpus x h ys qs same own are =
    subst (λ (v : GroupHistory). All (λ (q : CpuNo). IsProcessorOf (group_of v) q.0) ys) (sym same)
    (subst (λ (zs : List CpuNo). All (λ (q : CpuNo). IsProcessorOf (group_of h) q.0) zs) (sym own) (cpus_there (group_of h) qs are))

-- there is a link for each processor
pub as_many_links : (h : GroupHistory) (qs : List CpuNo) (links : List CpuLink) → ShowsLinks h qs links → length qs ≡ length links
as_many_links h qs links shows =
    omega (
      arith,
      length-map qs (λ (q : CpuNo). q.0),
      length-map links link_of,
      ap length shows.cpus_are,
      ap length shows.links_are,
      length-map {B = Link} (group_processors (group_of h)) (λ q. (q, linked (group_of h) q (past h))),
    )

-- a processor of a list that is lent, linked as before in an engine that is lent
pub still-at : (h h' x : GroupHistory) (ys qs : List CpuNo) (k : ℕ) → x ≡ h' → ys ≡ qs → cpu_numbers qs ≡ group_processors (group_of h)
    → linked (group_of h) (get_or (cpu_numbers ys) k 0) (past x) ≡ linked (group_of h) (get_or (cpu_numbers ys) k 0) (past h)
    → linked (group_of h) (get_or (group_processors (group_of h)) k 0) (past h') ≡ linked (group_of h) (get_or (group_processors (group_of h)) k 0) (past h)
still-at h h' x ys qs k same own are still =
    subst (λ (ns : List ℕ). linked (group_of h) (get_or ns k 0) (past h') ≡ linked (group_of h) (get_or ns k 0) (past h)) (ap cpu_numbers own ∙ are)
    (subst (λ (v : GroupHistory). linked (group_of h) (get_or (cpu_numbers ys) k 0) (past v) ≡ linked (group_of h) (get_or (cpu_numbers ys) k 0) (past h)) same still)
