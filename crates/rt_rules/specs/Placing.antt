-- Links of one cluster, processor by processor: which of the top tasks goes where.
use Rattle.std.specs.Prelude.{ℕ, zero, suc, Bool, false, not, ◌&&◌, List, [], ◌∷◌, Option, None, Some, if◌then◌else◌, filter}
use Rattle.std.specs.List.{filter_map}
use Rattle.rt_rules.specs.Numbers.{has}

abbrev pub is_of : List ℕ → Option ℕ → Bool
is_of ts None = false
is_of ts (Some t) = has t ts

-- the tasks that stand in a list of links
abbrev pub tasks_in : List (Option ℕ) → List ℕ
tasks_in ls = filter_map (λ o. o) ls

-- a processor that runs one of the top keeps it; else it keeps its link to one of the top that runs nowhere
abbrev pub kept_link : List ℕ → List ℕ → Option ℕ → Option ℕ → Option ℕ
kept_link top running runs link = if is_of top runs then runs else (if is_of top link && not (is_of running link) then link else None)

abbrev pub kept : List ℕ → List ℕ → List (Option ℕ) → List (Option ℕ) → List (Option ℕ)
kept top running (r ∷ rs) (l ∷ ls) = kept_link top running r l ∷ kept top running rs ls
kept top running _ _ = []

-- the other tasks of the top, highest first, take the processors that are left, lowest number first
abbrev pub filled : List (Option ℕ) → List ℕ → List (Option ℕ)
filled [] ts = []
filled (Some u ∷ ls) ts = Some u ∷ filled ls ts
filled (None ∷ ls) [] = None ∷ filled ls []
filled (None ∷ ls) (t ∷ ts) = Some t ∷ filled ls ts

abbrev pub filled_with : List ℕ → List (Option ℕ) → List (Option ℕ)
filled_with top ls = filled ls (filter (λ t. not (has t (tasks_in ls))) top)

-- the links that follow from the top, what runs, and the links before
abbrev pub placed : List ℕ → List (Option ℕ) → List (Option ℕ) → List (Option ℕ)
placed top runs links = filled_with top (kept top (tasks_in runs) runs links)

-- the link at a position
abbrev pub link_at : List (Option ℕ) → ℕ → Option ℕ
link_at [] k = None
link_at (l ∷ ls) zero = l
link_at (l ∷ ls) (suc k) = link_at ls k
