-- Worked sets under SRP: a job that a critical section delays before it begins, and one that is kept back while a job of lower base key
-- begins.
use Rattle.std.specs.Prelude.{◌≡◌, true, false, List, [], ◌∷◌, refl}
use Rattle.rt_task.specs.Validity.{IsValid}
use Rattle.rt_task.specs.declared.PluginKind.TheVariants as plugins
use Rattle.rt_task.specs.declared.Protocol.TheVariants.{Srp}
use Rattle.rt_task.specs.declared.Step.{Step}
use Rattle.rt_rules.specs.Numbers.{has}
use Rattle.rt_model.specs.BaseKeys.{above}
use Rattle.rt_model.specs.worked.Computed.{computed}
use Rattle.rt_model.specs.Group.{Group, home, tasks}
use Rattle.rt_model.specs.Histories.{past_by}
use Rattle.rt_model.specs.Past.{Past}
use Rattle.rt_model.specs.worked.Samples.{arrive, cluster_with, group_of, irq, lock, periodic, sporadic, step_of, unlock, using}
use Rattle.rt_laws.specs.BlockedOnce.{is_linked, takes_interrupts}
use Rattle.rt_laws.specs.worked.EdgeCases.{named, rules_computed, shared}
use Rattle.srp_laws.specs.Sections.{awaits_start, delays, entered, is_inside, is_lower, is_no_higher, reaches, was_delayed}

-- a proof that computes with critical sections under SRP says `unfolding sections_computed`
unfoldable pub sections_computed : Unit {0}
unfolding awaits_start delays entered is_inside is_linked is_lower is_no_higher reaches takes_interrupts was_delayed
sections_computed = tt

-- the users of one semaphore have the relative deadlines 100 and 50, and a third task, which declares none, has 20
abbrev pub three_levels : Group
three_levels =
    group_of plugins.PsnEdf (cluster_with 1 0 ∷ []) (shared Srp ∷ []) [] (
    named 97 (using (1 ∷ []) (periodic 1 1 1000 100)) ∷
    named 98 (using (1 ∷ []) (sporadic 2 1 1000 50)) ∷
    named 99 (sporadic 3 1 1000 20) ∷
    [])

-- the first locks, and the second arrives
abbrev pub delayed_steps : List Step
delayed_steps = step_of 0 0 irq ∷ step_of 0 0 (lock 1) ∷ step_of 0 1 (arrive 2) ∷ []

abbrev pub delayed_past : Past
delayed_past = past_by three_levels [] delayed_steps

-- the third arrives while the second is kept back, with a later deadline
abbrev pub overtaken_steps : List Step
overtaken_steps = step_of 0 0 irq ∷ step_of 0 0 (lock 1) ∷ step_of 0 1 (arrive 2) ∷ step_of 0 40 (arrive 3) ∷ []

abbrev pub overtaken_past : Past
overtaken_past = past_by three_levels [] overtaken_steps

-- once the section is over, the second begins, and is in no stretch any more
abbrev pub begun_steps : List Step
begun_steps = step_of 0 0 irq ∷ step_of 0 0 (lock 1) ∷ step_of 0 1 (arrive 2) ∷ step_of 0 2 (unlock 1) ∷ step_of 0 2 irq ∷ []

abbrev pub begun_past : Past
begun_past = past_by three_levels [] begun_steps

pub three_levels-valid : IsValid three_levels.setup
unfolding rules_computed
three_levels-valid = refl

pub member : has 2 (tasks three_levels) ≡ true
unfolding computed
member = refl

pub delayed-prompt : takes_interrupts three_levels delayed_past ≡ true
unfolding computed sections_computed
delayed-prompt = refl

pub delayed-waits : awaits_start three_levels 2 delayed_past ≡ true
unfolding computed sections_computed
delayed-waits = refl

-- the section began with entry 1
pub delayed-delays : delays three_levels 2 1 delayed_past ≡ true
unfolding computed sections_computed
delayed-delays = refl

pub delayed-was : was_delayed three_levels 2 1 1 delayed_past ≡ true
unfolding computed sections_computed
delayed-was = refl

pub delayed-once : was_delayed three_levels 2 1 0 delayed_past ≡ false
unfolding computed sections_computed
delayed-once = refl

-- a task of a higher level is not delayed
pub higher_passes : reaches three_levels 3 1 delayed_past ≡ false
unfolding computed sections_computed
higher_passes = refl

pub begun-ends : was_delayed three_levels 2 1 1 begun_past ≡ false
unfolding computed sections_computed
begun-ends = refl

pub overtaken-prompt : takes_interrupts three_levels overtaken_past ≡ true
unfolding computed sections_computed
overtaken-prompt = refl

pub overtaken-waits : awaits_start three_levels 2 overtaken_past ≡ true
unfolding computed sections_computed
overtaken-waits = refl

pub overtaken-lower : above three_levels overtaken_past 2 3 ≡ true
unfolding computed
overtaken-lower = refl

pub overtaken-inside : is_inside three_levels 3 overtaken_past ≡ false
unfolding computed sections_computed
overtaken-inside = refl

pub overtaken-linked : is_linked three_levels (home three_levels 2) 3 overtaken_past ≡ true
unfolding computed sections_computed
overtaken-linked = refl
