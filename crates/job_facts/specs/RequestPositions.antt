-- The positions of requests among all requests.
use Rattle.std.specs.Prelude.{ℕ, List, [], ◌∷◌, ◌++◌, length, if◌then◌else◌}
use Rattle.rt_model.specs.Blocking.{requests}
use Rattle.rt_model.specs.Past.{Past}
use Rattle.trace_views.specs.JobCounts.{asks_now}
use Rattle.trace_views.specs.JobMoves.{in_job}

-- the positions of the requests of a task's job k among all requests, from 0, in order of asking
unfoldable pub request_positions : ℕ → ℕ → Past → List ℕ
request_positions t k [] = []
request_positions t k (e ∷ past) =
    if in_job t k (asks_now t) e past then request_positions t k past ++ length (requests past) ∷ [] else request_positions t k past
