-- Spans fill their rows, and what stands in one span is equal.
use Rattle.std.proofs.Common.{◌≡◌, ◌∙◌, ℕ, ◌+◌, ◌-◌, ◌*◌, ◌<◌, Bool, true, false, List, [], ◌∷◌, length, refl, sym, ap, subst, arith, eqb-true}
use Rattle.std.specs.Prelude.{Option, None, Some, ◌==◌}
use Rattle.rt_rules.specs.Numbers.{same}
use Rattle.rt_rules.proofs.BoolLaws.{both}
use Rattle.rt_rules.proofs.MemberLaws.{is-some}
use Rattle.trace_views.specs.Cells.{Doing, Playing}
use Rattle.trace_views.specs.Cells as cells
use Rattle.trace_views.specs.Spans.{AreSideBySide, Span, spans}
use Rattle.trace_views.proofs.Spans.{side_by_side}
use Rattle.svg_texts.specs.LaneLaws.{AreDrawnFrom, LanesFillRows, LanesTellApart}
use Rattle.svg_texts.specs.Parts.{Part, held, job, left, link, playing, raised, same_bool, same_doing, same_list, same_part, same_playing, section}

fills : (edge i n : ℕ) (ss : List (Span Part)) → AreSideBySide same_part i n ss → AreDrawnFrom edge (edge + 20 * i) (edge + 20 * n) ss
fills edge i n [] h = ap (λ m. edge + 20 * m) h
fills edge i n (s ∷ ss) h =
    let begins : edge + 20 * s.from ≡ edge + 20 * i = ap (λ m. edge + 20 * m) h.0 in
    let some : 0 < 20 * (s.to - s.from) = omega (arith, h.1) in
    let next : edge + 20 * s.to ≡ edge + 20 * i + 20 * (s.to - s.from) = omega (arith, h.0, h.1) in
    (begins, some, subst (λ x. AreDrawnFrom edge x (edge + 20 * n) ss) next (fills edge s.to n ss h.3))

pub lanes_fill_rows_lem : LanesFillRows
lanes_fill_rows_lem edge xs =
    let first : edge + 20 * 0 ≡ edge = omega arith in
    let all : 0 + length xs ≡ length xs = omega arith in
    let sides : AreSideBySide same_part 0 (length xs) (spans same_part xs) = subst (λ n. AreSideBySide same_part 0 n (spans same_part xs)) all (side_by_side Part same_part 0 xs) in
    subst (λ x. AreDrawnFrom edge x (edge + 20 * length xs) (spans same_part xs)) first (fills edge 0 (length xs) (spans same_part xs) sides)

lists-equal : (xs ys : List ℕ) → same_list xs ys ≡ true → xs ≡ ys
lists-equal [] [] h = refl
lists-equal [] (y ∷ ys) h = cc
lists-equal (x ∷ xs) [] h = cc
lists-equal (x ∷ xs) (y ∷ ys) h =
    let k = both (x == y) (same_list xs ys) h in
    ap (λ z. z ∷ xs) (eqb-true x y k.0) ∙ ap (λ zs. y ∷ zs) (lists-equal xs ys k.1)

flags-equal : (a b : Bool) → same_bool a b ≡ true → a ≡ b
flags-equal true b h = sym h
flags-equal false true h = cc
flags-equal false false h = refl

doings-equal : (a b : Doing) → same_doing a b ≡ true → a ≡ b
doings-equal (cells.works qs) (cells.works rs) h = ap (λ xs. cells.works xs) (lists-equal qs rs h)
doings-equal (cells.running qs) (cells.running rs) h = ap (λ xs. cells.running xs) (lists-equal qs rs h)
doings-equal (cells.waits s) (cells.waits r) h = ap (λ x. cells.waits x) (eqb-true s r h)
doings-equal (cells.blocked s) (cells.blocked r) h = ap (λ x. cells.blocked x) (eqb-true s r h)
doings-equal cells.sleeping cells.sleeping h = refl
doings-equal cells.ready cells.ready h = refl
doings-equal cells.away cells.away h = refl
doings-equal (cells.works qs) (cells.running rs) h = cc
doings-equal (cells.works qs) (cells.waits r) h = cc
doings-equal (cells.works qs) (cells.blocked r) h = cc
doings-equal (cells.works qs) cells.sleeping h = cc
doings-equal (cells.works qs) cells.ready h = cc
doings-equal (cells.works qs) cells.away h = cc
doings-equal (cells.running qs) (cells.works rs) h = cc
doings-equal (cells.running qs) (cells.waits r) h = cc
doings-equal (cells.running qs) (cells.blocked r) h = cc
doings-equal (cells.running qs) cells.sleeping h = cc
doings-equal (cells.running qs) cells.ready h = cc
doings-equal (cells.running qs) cells.away h = cc
doings-equal (cells.waits s) (cells.works rs) h = cc
doings-equal (cells.waits s) (cells.running rs) h = cc
doings-equal (cells.waits s) (cells.blocked r) h = cc
doings-equal (cells.waits s) cells.sleeping h = cc
doings-equal (cells.waits s) cells.ready h = cc
doings-equal (cells.waits s) cells.away h = cc
doings-equal (cells.blocked s) (cells.works rs) h = cc
doings-equal (cells.blocked s) (cells.running rs) h = cc
doings-equal (cells.blocked s) (cells.waits r) h = cc
doings-equal (cells.blocked s) cells.sleeping h = cc
doings-equal (cells.blocked s) cells.ready h = cc
doings-equal (cells.blocked s) cells.away h = cc
doings-equal cells.sleeping (cells.works rs) h = cc
doings-equal cells.sleeping (cells.running rs) h = cc
doings-equal cells.sleeping (cells.waits r) h = cc
doings-equal cells.sleeping (cells.blocked r) h = cc
doings-equal cells.sleeping cells.ready h = cc
doings-equal cells.sleeping cells.away h = cc
doings-equal cells.ready (cells.works rs) h = cc
doings-equal cells.ready (cells.running rs) h = cc
doings-equal cells.ready (cells.waits r) h = cc
doings-equal cells.ready (cells.blocked r) h = cc
doings-equal cells.ready cells.sleeping h = cc
doings-equal cells.ready cells.away h = cc
doings-equal cells.away (cells.works rs) h = cc
doings-equal cells.away (cells.running rs) h = cc
doings-equal cells.away (cells.waits r) h = cc
doings-equal cells.away (cells.blocked r) h = cc
doings-equal cells.away cells.sleeping h = cc
doings-equal cells.away cells.ready h = cc

tasks-equal : (a b : Playing) → same_playing a b ≡ true → a ≡ b
tasks-equal (cells.works_for t) (cells.works_for u) h = ap (λ x. cells.works_for x) (eqb-true t u h)
tasks-equal (cells.runs_task t) (cells.runs_task u) h = ap (λ x. cells.runs_task x) (eqb-true t u h)
tasks-equal cells.idle cells.idle h = refl
tasks-equal (cells.works_for t) (cells.runs_task u) h = cc
tasks-equal (cells.works_for t) cells.idle h = cc
tasks-equal (cells.runs_task t) (cells.works_for u) h = cc
tasks-equal (cells.runs_task t) cells.idle h = cc
tasks-equal cells.idle (cells.works_for u) h = cc
tasks-equal cells.idle (cells.runs_task u) h = cc

links-equal : (a b : Option ℕ) → same a b ≡ true → a ≡ b
links-equal None None h = refl
links-equal None (Some y) h = cc
links-equal (Some x) o h = sym (is-some x o h)

pub lanes_tell_apart_lem : LanesTellApart
unfolding same_part
lanes_tell_apart_lem (job a i) (job b k) h =
    let e = both (same_doing a b) (i == k) h in
    ap (λ d. job d i) (doings-equal a b e.0) ∙ ap (λ n. job b n) (eqb-true i k e.1)
lanes_tell_apart_lem (held a) (held b) h = ap held (lists-equal a b h)
lanes_tell_apart_lem (section a) (section b) h = ap section (flags-equal a b h)
lanes_tell_apart_lem (raised a) (raised b) h = ap raised (flags-equal a b h)
lanes_tell_apart_lem (playing a) (playing b) h = ap playing (tasks-equal a b h)
lanes_tell_apart_lem (link a) (link b) h = ap link (links-equal a b h)
lanes_tell_apart_lem (left a) (left b) h = ap left (eqb-true a b h)
lanes_tell_apart_lem (job a i) (held b) h = cc
lanes_tell_apart_lem (job a i) (section b) h = cc
lanes_tell_apart_lem (job a i) (raised b) h = cc
lanes_tell_apart_lem (job a i) (playing b) h = cc
lanes_tell_apart_lem (job a i) (link b) h = cc
lanes_tell_apart_lem (job a i) (left b) h = cc
lanes_tell_apart_lem (held a) (job b k) h = cc
lanes_tell_apart_lem (held a) (section b) h = cc
lanes_tell_apart_lem (held a) (raised b) h = cc
lanes_tell_apart_lem (held a) (playing b) h = cc
lanes_tell_apart_lem (held a) (link b) h = cc
lanes_tell_apart_lem (held a) (left b) h = cc
lanes_tell_apart_lem (section a) (job b k) h = cc
lanes_tell_apart_lem (section a) (held b) h = cc
lanes_tell_apart_lem (section a) (raised b) h = cc
lanes_tell_apart_lem (section a) (playing b) h = cc
lanes_tell_apart_lem (section a) (link b) h = cc
lanes_tell_apart_lem (section a) (left b) h = cc
lanes_tell_apart_lem (raised a) (job b k) h = cc
lanes_tell_apart_lem (raised a) (held b) h = cc
lanes_tell_apart_lem (raised a) (section b) h = cc
lanes_tell_apart_lem (raised a) (playing b) h = cc
lanes_tell_apart_lem (raised a) (link b) h = cc
lanes_tell_apart_lem (raised a) (left b) h = cc
lanes_tell_apart_lem (playing a) (job b k) h = cc
lanes_tell_apart_lem (playing a) (held b) h = cc
lanes_tell_apart_lem (playing a) (section b) h = cc
lanes_tell_apart_lem (playing a) (raised b) h = cc
lanes_tell_apart_lem (playing a) (link b) h = cc
lanes_tell_apart_lem (playing a) (left b) h = cc
lanes_tell_apart_lem (link a) (job b k) h = cc
lanes_tell_apart_lem (link a) (held b) h = cc
lanes_tell_apart_lem (link a) (section b) h = cc
lanes_tell_apart_lem (link a) (raised b) h = cc
lanes_tell_apart_lem (link a) (playing b) h = cc
lanes_tell_apart_lem (link a) (left b) h = cc
lanes_tell_apart_lem (left a) (job b k) h = cc
lanes_tell_apart_lem (left a) (held b) h = cc
lanes_tell_apart_lem (left a) (section b) h = cc
lanes_tell_apart_lem (left a) (raised b) h = cc
lanes_tell_apart_lem (left a) (playing b) h = cc
lanes_tell_apart_lem (left a) (link b) h = cc
