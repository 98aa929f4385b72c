-- Links and runs of one cluster, and what an interrupt does.
use Rattle.std.specs.Prelude.{◌≡◌, ◌↔◌, ℕ, ◌+◌, ◌-◌, ◌<◌, ◌≤◌, ◌==◌, Bool, true, false, not, ◌&&◌, List, [], ◌∷◌, Option, None, Some}
use Rattle.std.specs.Prelude.{is_some}
use Rattle.std.specs.Prelude.{if◌then◌else◌, length, slice_set, replicate}
use Rattle.rt_rules.specs.declared.history.Reply.{Reply}
use Rattle.rt_rules.specs.declared.history.Reply.TheVariants.{Quiet, Deferred, Runs, Idles}
use Rattle.rt_rules.specs.Numbers.{has, is, same}
use Rattle.rt_rules.specs.Distinct.{IsDistinct}
use Rattle.rt_rules.specs.Placing.{tasks_in, link_at, placed}
use Rattle.ready_queue.specs.Exchanges.{IsExchanged}

-- the first processor of a cluster, what each one runs, and the task that each one is linked to
pub record Linked : Type 0 where
  pub first : ℕ
  pub runs : List (Option ℕ)
  pub links : List (Option ℕ)

-- a cluster of processors that run nothing and are linked to none
abbrev pub unlinked : ℕ → ℕ → Linked
unlinked first cpus = record { first = first; runs = replicate cpus None; links = replicate cpus None }

-- the processor is of the cluster
abbrev pub IsOfCluster : Linked → ℕ → Type 0
IsOfCluster l q = (l.first ≤ q) × (q < l.first + length l.runs)

abbrev pub link_of : Linked → ℕ → Option ℕ
link_of l q = link_at l.links (q - l.first)

abbrev pub runs_on : Linked → ℕ → Option ℕ
runs_on l q = link_at l.runs (q - l.first)

-- an interrupt is pending where what a processor runs is not its link
abbrev pub is_pending : Linked → ℕ → Bool
is_pending l q = not (same (link_of l q) (runs_on l q))

-- what runs on the processor is non-preemptive, where np says so of what runs
abbrev pub is_deferred : Linked → ℕ → Bool → Bool
is_deferred l q np = is_some (runs_on l q) && np

abbrev pub link_reply : Option ℕ → Reply
link_reply None = Idles
link_reply (Some t) = Runs (record { 0 = t })

-- what an interrupt of the processor is answered
abbrev pub irq_reply : Linked → ℕ → Bool → Reply
irq_reply l q np = if is_pending l q then (if is_deferred l q np then Deferred else link_reply (link_of l q)) else Quiet

-- the processor runs this from now on
abbrev pub with_run : Linked → ℕ → Option ℕ → Linked
with_run l q o = record l { runs = slice_set l.runs (q - l.first) o }

-- an interrupt that is pending and not deferred makes the processor run its link
abbrev pub after_irq : Linked → ℕ → Bool → Linked
after_irq l q np = if is_pending l q && not (is_deferred l q np) then with_run l q (link_of l q) else l

-- no task runs on two processors or is linked to two, and one that is linked runs on no other
pub record IsSound (l : Linked) : Type 0 where
  pub same_length : length l.runs ≡ length l.links
  pub runs_once : IsDistinct (tasks_in l.runs)
  pub linked_once : IsDistinct (tasks_in l.links)
  pub one_link : (t i j : ℕ) → is t (link_at l.links i) ≡ true → is t (link_at l.runs j) ≡ true → i ≡ j

-- these tasks alone run on the cluster's processors or are linked to them
pub record IsAmong (ts : List ℕ) (l : Linked) : Type 0 where
  pub runs : (t : ℕ) → has t (tasks_in l.runs) ≡ true → has t ts ≡ true
  pub links : (t : ℕ) → has t (tasks_in l.links) ≡ true → has t ts ≡ true

-- where these tasks alone ran or were linked, they alone do so after
abbrev pub StaysAmong : Linked → Linked → Type 0
StaysAmong old new = (ts : List ℕ) → IsAmong ts old → IsAmong ts new

-- and where the top is of these tasks too
abbrev pub StaysAmongWith : List ℕ → Linked → Linked → Type 0
StaysAmongWith top old new = (ts : List ℕ) → ((t : ℕ) → has t top ≡ true → has t ts ≡ true) → IsAmong ts old → IsAmong ts new

-- placing this top again changes no link
abbrev pub IsPlaced : List ℕ → Linked → Type 0
IsPlaced top l = placed top l.runs l.links ≡ l.links

-- that stays so as a processor takes an interrupt, and as it comes to run nothing
abbrev pub PlacedLinksStay : Type 0
PlacedLinksStay = (l : Linked) (top : List ℕ) (q : ℕ) (np : Bool) → IsSound l → IsOfCluster l q → IsDistinct top
    → length top ≤ length l.runs → IsPlaced top l → IsPlaced top (after_irq l q np) × IsPlaced top (with_run l q None)

-- and it is so of each other top of the same tasks
abbrev pub LinkedTopStays : Type 0
LinkedTopStays = (l : Linked) (top other : List ℕ) → IsSound l → IsDistinct top → length top ≤ length l.runs
    → ((t : ℕ) → has t top ≡ has t other) → IsPlaced top l → IsPlaced other l

-- a task stands among the links exactly where some processor of the cluster is linked to it
abbrev pub LinksAreOfProcessors : Type 0
LinksAreOfProcessors = (l : Linked) (t : ℕ) → IsSound l → (has t (tasks_in l.links) ≡ true) ↔ (q : ℕ) × IsOfCluster l q ×
    (is t (link_of l q) ≡ true)

-- a task stands among what runs exactly where some processor of the cluster runs it
abbrev pub RunsAreOfProcessors : Type 0
RunsAreOfProcessors = (l : Linked) (t : ℕ) → (has t (tasks_in l.runs) ≡ true) ↔ (q : ℕ) × IsOfCluster l q × (is t (runs_on l q) ≡ true)

-- the first processor that is left takes the task
abbrev pub first_taken : ℕ → List (Option ℕ) → List (Option ℕ)
first_taken t [] = []
first_taken t (None ∷ ls) = Some t ∷ ls
first_taken t (Some u ∷ ls) = Some u ∷ first_taken t ls

-- the first processor that is left takes the task, if there is one
abbrev pub first_taken_by : Option ℕ → List (Option ℕ) → List (Option ℕ)
first_taken_by None ls = ls
first_taken_by (Some t) ls = first_taken t ls

-- the processor that is linked to the task, if any, is linked to none
abbrev pub without_link : Option ℕ → List (Option ℕ) → List (Option ℕ)
without_link None ls = ls
without_link (Some t) [] = []
without_link (Some t) (None ∷ ls) = None ∷ without_link (Some t) ls
without_link (Some t) (Some u ∷ ls) = if t == u then None ∷ ls else (Some u ∷ without_link (Some t) ls)

-- the task that left loses its link, and the one that came takes the first processor that is left then
abbrev pub exchanged : Option ℕ → Option ℕ → List (Option ℕ) → List (Option ℕ)
exchanged left came ls = first_taken_by came (without_link left ls)

-- the links are placed for this top, which has each task once and no more than there are processors
pub record IsPlacedFor (top : List ℕ) (l : Linked) : Type 0 where
  pub once : IsDistinct top
  pub fits : length top ≤ length l.runs
  pub placed : IsPlaced top l

-- the links are placed for some top, and there is one for it without the task that left and with the one that came, which runs nowhere
pub record CanExchange (l : Linked) (left came : Option ℕ) : Type 0 where
  pub old : List ℕ
  pub new : List ℕ
  pub exchanged : IsExchanged old new left came
  pub placed : IsPlacedFor old l
  pub once : IsDistinct new
  pub fits : length new ≤ length l.runs
  pub idle : (t : ℕ) → is t came ≡ true → has t (tasks_in l.runs) ≡ false
