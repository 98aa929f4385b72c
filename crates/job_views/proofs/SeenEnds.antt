-- Sums over the positions of requests, position by position.
use Rattle.std.proofs.Common.{◌≡◌, ◌∙◌, ℕ, ◌+◌, ◌<◌, List, length, take, get_or, ap}
use Rattle.std.specs.Prelude.{All, None, sum_by, slice_index_or}
use Rattle.std.proofs.lemmas.List.{get_or-map}
use Rattle.std.proofs.lemmas.List.Elements.{All-get_or}
use Rattle.std.proofs.lemmas.List.Sums.{sum_by_more}
use Rattle.rt_changes.specs.Tallies.{Tally}
use Rattle.block_counts.specs.declared.seen.Seen.{Seen}
use Rattle.block_counts.specs.SeenWords.{tallies_of, tally_of}
use Rattle.job_facts.specs.Rows.{no_request}

pub sum-next : (f : Tally → ℕ) (requests : List Seen) (d : Seen) (positions : List ℕ) (i : ℕ) → i < length positions → All (λ p. p < length requests) positions
    → sum_by (λ p. f (slice_index_or (tallies_of requests) p no_request)) (take (i + 1) positions)
    ≡ sum_by (λ p. f (slice_index_or (tallies_of requests) p no_request)) (take i positions) + f (tally_of (get_or requests (get_or positions i 0) d))
sum-next f requests d positions i low placed =
    let at : ℕ → ℕ = λ p. f (slice_index_or (tallies_of requests) p no_request) in
    let here : get_or positions i 0 < length requests = All-get_or (λ p. p < length requests) positions i 0 low placed in
    sum_by_more at positions i 0 low ∙ ap (λ (x : Tally). sum_by at (take i positions) + f x) (get_or-map tally_of requests (get_or positions i 0) d no_request here)

-- what no request is read as
abbrev pub none_seen : Seen
none_seen = record { no = 0; task = record { 0 = 0 }; sem = record { 0 = 0 }; ends = 0; ends_all = 0; bound = None }
