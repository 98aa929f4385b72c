-- What holds after each entry of the histories of a set: of links, of holders and waits, and of the requests.
use Rattle.std.specs.Prelude.{◌≡◌, ◌≢◌, ℕ, ◌<◌, ◌≤◌, true, false, List, [], ◌∷◌, ◌++◌, Some, All, length, get_or, take}
use Rattle.rt_task.specs.declared.Parts.{Parts}
use Rattle.rt_rules.specs.declared.history.Entry.{Entry}
use Rattle.rt_rules.specs.Pcp.{TaskSem, passes}
use Rattle.rt_model.specs.Blocking.{is_blocked}
use Rattle.rt_model.specs.Ceilings.{above_ceiling, is_pcp, pcp}
use Rattle.rt_model.specs.Group.{Group, home, protocol}
use Rattle.rt_model.specs.Histories.{past_of}
use Rattle.rt_model.specs.Holders.{awaits}
use Rattle.rt_model.specs.Past.{Past}
use Rattle.rt_laws.specs.HolderIsLinked.{HasLinkedHolder, is_global}
use Rattle.rt_laws.specs.PriorityCeiling.{WalkEnds}
use Rattle.rt_laws.specs.SemaphoreLaws.{HasOneGrant}
use Rattle.rt_laws.specs.StackPolicy.{FollowsStack}
use Rattle.resv_core.specs.Tables.{FollowsTables}
use Rattle.rt_changes.specs.OpenLaws.{IsWithin}
use Rattle.rt_changes.specs.Tallies.{tallies}
use Rattle.set_input.specs.LinksOf.{LinksAreTheTopOf}

-- it holds of each group n, after the first k entries of its history
abbrev pub AfterEach : (Group → Past → Type 0) → Parts → List (List Entry) → Type 0
AfterEach Holds p hs =
    (n k : ℕ) → n < length hs → k ≤ length (get_or hs n []) →
    let g : Group = record { setup = p; number = n } in Holds g (past_of g (take k (get_or hs n [])))

-- no semaphore has two holders
abbrev pub HaveOneHolder : Group → Past → Type 0
HaveOneHolder g past = (s : ℕ) → HasOneGrant g s past

-- under GSN-EDF and C-EDF the holder that a priority-blocked task waits for is linked
abbrev pub BlockersAreLinked : Group → Past → Type 0
BlockersAreLinked g past =
    (t s : ℕ) → is_global g.setup.plugin ≡ true → awaits g t past ≡ Some s → is_blocked g t past ≡ true → HasLinkedHolder g s past

-- no chain of waits comes back to its start: it ends at a task that does not wait
abbrev pub WaitsEnd : Group → Past → Type 0
WaitsEnd g past = (t : ℕ) → WalkEnds g t past

-- each task that waits for a PCP semaphore does not pass
abbrev pub WaitersDoNotPass : Group → Past → Type 0
WaitersDoNotPass g past =
    (t s : ℕ) → is_pcp (protocol g s) ≡ true → awaits g t past ≡ Some s → passes (above_ceiling g) (pcp g (home g t) past).held t ≡ false

-- of two held PCP semaphores of different holders, the later holder's base key is above the earlier one's ceiling
abbrev pub LaterIsAbove : Group → Past → Type 0
LaterIsAbove g past =
    (c : ℕ) (newest between oldest : List TaskSem) (later earlier : TaskSem) →
    (pcp g c past).held ≡ newest ++ later ∷ (between ++ earlier ∷ oldest) → later.task ≢ earlier.task →
    above_ceiling g later.task earlier.sem ≡ true

-- no OMLP request has seen more than 2m - 1, no FMLP request more than n - 1, other critical sections end while its task was
-- priority-blocked, under FMLP while it waited at all
abbrev pub RequestsAreBounded : Group → Past → Type 0
RequestsAreBounded g past = All (IsWithin g) (tallies g past)

-- all of these, after each entry
pub record HoldsThroughout (p : Parts) (hs : List (List Entry)) : Type 0 where
  pub links : LinksAreTheTopOf p hs
  pub one_holder : AfterEach HaveOneHolder p hs
  pub blockers_linked : AfterEach BlockersAreLinked p hs
  pub waits_end : AfterEach WaitsEnd p hs
  pub waiters_stay : AfterEach WaitersDoNotPass p hs
  pub later_above : AfterEach LaterIsAbove p hs
  pub bounds : AfterEach RequestsAreBounded p hs
  pub tables : AfterEach FollowsTables p hs
  pub stack : AfterEach FollowsStack p hs
