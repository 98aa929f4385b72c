-- The plays of a valid set: their clocks, counts and processors are small.
use Rattle.std.proofs.Common.{◌≡◌, ℕ, zero, suc, ◌+◌, ◌-◌, ◌<◌, ◌≤◌, max, Bool, true, false, ◌||◌, List, [], ◌∷◌, ◌++◌, length, map, Some, refl, sym, ap, ◌∙◌, arith, subst}
use Rattle.std.specs.Prelude.{All, flat_map, slice_index_or, ◌==◌}
use Rattle.rt_base.specs.declared.TheConstants.{MOST_CPUS, MOST_STEPS, MOST_TASKS, TICK_END}
use Rattle.rt_task.specs.Validity.{IsValid}
use Rattle.rt_task.specs.declared.Parts.{Parts}
use Rattle.rt_rules.specs.declared.history.Entry.{Entry}
use Rattle.rt_rules.specs.Numbers.{has}
use Rattle.rt_rules.proofs.BoolLaws.{or_true}
use Rattle.rt_rules.proofs.MemberLaws.{equal_self}
use Rattle.rt_model.specs.Group.{Group, group_processors, tasks}
use Rattle.rt_model.specs.Histories.{after, past_from, past_of}
use Rattle.rt_model.specs.Outcomes.{past_act}
use Rattle.rt_model.specs.Past.{Acted, Clock, Past, entries_in, now}
use Rattle.rt_model.specs.Steps.{IsStepOf}
use Rattle.rt_plays.specs.Homes.{IsProcessorOf}
use Rattle.rt_plays.specs.Plays.{ArePlays, IsBegunPlay, IsPlay, group_count, group_with}
use Rattle.rt_plays.specs.Groups.{AreStepsOf}
use Rattle.rt_plays.proofs.GroupLimits.{processor-low}
use Rattle.rt_plays.proofs.SetLimits.{sets_are_in_limits}
use Rattle.rt_laws.proofs.ValidSets.{task-numbered}
use Rattle.trace_views.specs.Moments.{moments}
use Rattle.chart_texts.specs.Charts.{pasts_from}
use Rattle.job_facts.proofs.Few.{done-few}
use Rattle.trace_text.proofs.GroupLaws.{groups-few}
use Rattle.trace_laws.proofs.Plays.{begun-steps, begun-whole, few-entries}
use Rattle.event_texts.specs.EventText as text
use Rattle.event_laws.specs.GroupValues.{group_events}
use Rattle.event_laws.specs.ReadBack.{EventsAreRead}
use Rattle.event_laws.proofs.Events.{AreEvents, Each, flat-events}
use Rattle.event_laws.proofs.Groups.{ActIsSmall, GroupIsSmall, IsLow, NamesArePlain, PastIsSmall, StateIsSmall, all-events}
use Rattle.event_laws.proofs.Names.{lefts-small, names-plain}
use Rattle.event_laws.proofs.Whole.{text-read}

-- ---- groups

each-member : (P : ℕ → Type 0) (xs : List ℕ) → ((x : ℕ) → has x xs ≡ true → P x) → Each P xs
each-member P [] h = tt
each-member P (x ∷ xs) h =
    (h x (ap (λ b. b || has x xs) (equal_self x)), each-member P xs (λ y there. h y (ap (λ b. (y == x) || b) there ∙ or_true (y == x))))

group-small : (g : Group) → IsValid g.setup → g.number < 64 → GroupIsSmall g
group-small g valid low = record {
  number = omega (arith, low);
  tasks_are = each-member IsLow (tasks g) (λ t h. omega (arith, task-numbered g t h, (sets_are_in_limits g.setup valid).few_tasks));
  cpus_are = each-member IsLow (group_processors g) (λ q h. omega (arith, processor-low g q valid h));
}

-- ---- their pasts

state-small : (g : Group) → IsValid g.setup → (x : Past) → now x < TICK_END → entries_in x ≤ MOST_STEPS → StateIsSmall g x
state-small g valid x clock few = record { clock = clock; jobs = λ t. omega (arith, done-few t x, few); budgets = λ r. lefts-small g valid r x }

opening-small : (g : Group) → IsValid g.setup → PastIsSmall g []
unfolding moments
opening-small g valid =
    let opening = state-small g valid [] (omega arith) (omega arith) in
    record { states = (opening, tt); acts = (tt, tt); opening = opening; last = opening }

step-small : (g : Group) → IsValid g.setup → (e : Entry) (past : Past) → IsStepOf g e.step → entries_in past + 1 ≤ MOST_STEPS → PastIsSmall g past → PastIsSmall g (after g e.step past)
unfolding moments after past_act
step-small g valid e past is few h =
    let turned = state-small g valid (Clock e.step.tick.0 ∷ past) (omega (arith, h.last.clock, is.tick)) (omega (arith, few)) in
    let acted = state-small g valid (after g e.step past) (omega (arith, h.last.clock, is.tick)) (omega (arith, few)) in
    record {
      states = (acted, (turned, h.states));
      acts = ((omega (arith, processor-low g e.step.cpu.0 valid is.processor), turned), (tt, h.acts));
      opening = h.opening;
      last = acted;
    }

count-after : (g : Group) (e : Entry) (past : Past) → entries_in (after g e.step past) ≡ entries_in past + 1
unfolding after
count-after g e past = refl

past-small : (g : Group) → IsValid g.setup → (es : List Entry) (past : Past) → Each (λ (e : Entry). IsStepOf g e.step) es → entries_in past + length es ≤ MOST_STEPS → PastIsSmall g past
    → PastIsSmall g (past_from g past es)
unfolding past_from
past-small g valid [] past steps few h = h
past-small g valid (e ∷ es) past steps few h =
    past-small g valid es (after g e.step past) steps.1 (omega (arith, few, count-after g e past)) (step-small g valid e past steps.0 (omega (arith, few)) h)

each-of : {A : Type 0} (P : A → Type 0) (xs : List A) → All P xs → Each P xs
each-of P [] h = tt
each-of P (x ∷ xs) h = (h 0 x (omega arith), each-of P xs (λ k d low. h (suc k) d (omega (arith, low))))

play-small : (g : Group) (es : List Entry) → IsValid g.setup → IsPlay g es → PastIsSmall g (past_of g es)
unfolding past_of
play-small g es valid play =
    let begun : IsBegunPlay g es = begun-whole g es play in
    past-small g valid es [] (each-of (λ (e : Entry). IsStepOf g e.step) es (begun-steps g es valid begun)) (omega (arith, few-entries g es valid begun)) (opening-small g valid)

-- ---- all groups

record IsReadable (x : Group × Past) : Type 0 where
  names : NamesArePlain x.0
  group : GroupIsSmall x.0
  past : PastIsSmall x.0 x.1

all-readable : (p : Parts) → IsValid p → (n : ℕ) (hs : List (List Entry)) → n + length hs ≤ 64 → ((m : ℕ) → m < length hs → IsPlay (group_with p (n + m)) (slice_index_or hs m []))
    → Each IsReadable (pasts_from p n hs)
all-readable p valid n [] few plays = tt
all-readable p valid n (es ∷ hs) few plays =
    let g : Group = group_with p n in
    let number : n + 0 ≡ n = omega arith in
    let play : IsPlay g es = subst (λ k. IsPlay (group_with p k) es) number (plays 0 (omega arith)) in (
      record { names = names-plain g valid; group = group-small g valid (omega (arith, few)); past = play-small g es valid play },
      all-readable p valid (n + 1) hs (omega (arith, few)) later,
    )
  where
    later : (m : ℕ) → m < length hs → IsPlay (group_with p (n + 1 + m)) (slice_index_or hs m [])
    later m low =
        let number : n + suc m ≡ n + 1 + m = omega arith in
        subst (λ k. IsPlay (group_with p k) (slice_index_or hs m [])) number (plays (suc m) (omega (arith, low)))

pub events_are_read : EventsAreRead
events_are_read p hs valid played =
    text-read (pasts_from p 0 hs)
    (flat-events IsReadable (λ (x : Group × Past). text.group_events x.0 x.1) (λ (x : Group × Past). group_events x.0 x.1)
    (λ x h. all-events x.0 h.names h.group x.1 h.past) (pasts_from p 0 hs)
    (all-readable p valid 0 hs (omega (arith, played.count, groups-few p valid)) at_number))
  where
    at_number : (m : ℕ) → m < length hs → IsPlay (group_with p (0 + m)) (slice_index_or hs m [])
    at_number m low =
        let number : m ≡ 0 + m = omega arith in
        subst (λ k. IsPlay (group_with p k) (slice_index_or hs m [])) number (played.plays m low)
