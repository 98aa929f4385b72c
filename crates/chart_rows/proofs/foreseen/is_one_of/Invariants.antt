use Rattle.std.proofs.Common.{◌≡◌, drop, map}
use Rattle.rt_rules.specs.Numbers.{has}
use Rattle.chart_rows.specs.Rows.{ResvKept}
use Rattle.chart_rows.proofs.foreseen.is_one_of.Given as goal

-- the rest answers as the whole
abbrev pub invariant-loop-row : goal.invariant-loop-row
invariant-loop-row l = has l.resv.0 (map (λ (k : ResvKept). k.resv) (drop l.row-index l.rows)) ≡ has l.resv.0 (map (λ (k : ResvKept). k.resv) l.rows)
