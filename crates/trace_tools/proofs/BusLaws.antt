-- A bus keeps its tools, each as it was fed up to the entry after which it ended.
use Rattle.std.proofs.Common.{◌≡◌, ◌∙◌, Bool, true, false, List, [], ◌∷◌, map, cond, refl, sym, ap}
use Rattle.trace_lines.specs.Lines.{Line}
use Rattle.trace_tools.specs.declared.shown.Shown.{Shown}
use Rattle.trace_tools.specs.Tools.{Tool, after, fed, has_ended, line_of, totals, when_shown}
use Rattle.trace_tools.specs.Counters.{Counter, counting, counted, fed_counter, counter_after, counter_line, counter_of, counters_after, closed}

counter_line-of : (t : Tool) → counter_line (counter_of t) ≡ line_of t
counter_line-of t = by_case (has_ended t)
  where
    by_case : (b : Bool) → counter_line (cond b (counted t.rules.name (totals t)) (counting t)) ≡ line_of t
    by_case true = refl
    by_case false = refl

counter_after-of : (e : Shown) (t : Tool) → counter_after e (counter_of t) ≡ counter_of (when_shown e t)
counter_after-of e t = by_case (has_ended t) refl
  where
    by_case : (b : Bool) → has_ended t ≡ b → closed (fed_counter e (cond b (counted t.rules.name (totals t)) (counting t))) ≡ counter_of (cond b t (fed e t))
    by_case true ended = sym (ap (λ (v : Bool). cond v (counted t.rules.name (totals t)) (counting t)) ended)
    by_case false goes_on = refl

counters-of : (e : Shown) (ts : List Tool) → map (counter_after e) (map counter_of ts) ≡ map counter_of (map (when_shown e) ts)
counters-of e [] = refl
counters-of e (t ∷ ts) = ap (λ (s : Counter). s ∷ map (counter_after e) (map counter_of ts)) (counter_after-of e t) ∙ ap (λ (ss : List Counter). counter_of (when_shown e t) ∷ ss) (counters-of e ts)

lines-now : (ts : List Tool) → map counter_line (map counter_of ts) ≡ map (λ (t : Tool). line_of t) ts
lines-now [] = refl
lines-now (t ∷ ts) = ap (λ (l : Line). l ∷ map counter_line (map counter_of ts)) (counter_line-of t) ∙ ap (λ (ls : List Line). line_of t ∷ ls) (lines-now ts)

lines-shown : (e : Shown) (es : List Shown) (ts : List Tool) → map (λ (t : Tool). line_of (after es t)) (map (when_shown e) ts) ≡ map (λ (t : Tool). line_of (after (e ∷ es) t)) ts
lines-shown e es [] = refl
lines-shown e es (t ∷ ts) = ap (λ (ls : List Line). line_of (after es (when_shown e t)) ∷ ls) (lines-shown e es ts)

pub lines-after : (es : List Shown) (ts : List Tool) → map counter_line (counters_after es (map counter_of ts)) ≡ map (λ (t : Tool). line_of (after es t)) ts
lines-after [] ts = lines-now ts
lines-after (e ∷ es) ts =
    ap (λ (ss : List Counter). map counter_line (counters_after es ss)) (counters-of e ts) ∙ lines-after es (map (when_shown e) ts) ∙ lines-shown e es ts
