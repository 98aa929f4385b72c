use Rattle.std.proofs.Common.{◌+◌, List, Bool, not, ◌&&◌, ◌-◌, cond, Some, None, length, drop, map, ap, sym, ◌∙◌}
use Rattle.rt_base.specs.declared.SemNo.{SemNo}
use Rattle.rt_task.specs.declared.draft.Piece.{Piece}
use Rattle.rt_task.specs.declared.draft.Piece.TheVariants.{Works, Once}
use Rattle.rt_task.specs.Bodies.{Holding, goes_on}
use Rattle.std.proofs.lemmas.Bool.{eq-eqb, ne_eqb}
use Rattle.rt_task.specs.RuleWords.{is_empty}
use Rattle.rt_task.specs.Lookups.{is_stacked_sem}
use Rattle.set_rules.proofs.BodyLaws.{goes_on-refused, goes_on-works, goes_on-op, goes_on-end, goes_on-nothing}
use Rattle.set_rules.proofs.rules.bodies.is_well_formed.Goals as goal
use Rattle.set_rules.proofs.rules.bodies.is_well_formed.Goals.{in-Once+else-is_end+in_ok-goes_on_by+else-not-branch, in_default, then-i-pieces, else-i-pieces}

pub returns-then-is_end : goal.returns-then-is_end
returns-then-is_end c =
    let ns = map (λ (s : SemNo). s.0) c.args.uses.now in
    let end = c.in-Once.is ∙ ap Once (c.is_end.ensures.end c.if-is_end.true) in
    let free : Bool = not c.loop-i.h.np && is_empty c.loop-i.h.held in
    let all = sym (goes_on-end ns (is_stacked_sem c.args.d.now) c.args.pieces.now c.loop-i.i (Works 0) c.loop-i-test.true c.loop-i.h end) ∙ c.loop-i.invariant in
    elim c.if-i-pieces.branch [
      | then-i-pieces w ↦ w.result-is ∙ w.is_free.ensures ∙ sym (ap (λ b. b && free) (eq-eqb c.loop-i.i (length c.args.pieces.now - 1) w.if-i-pieces.true)) ∙ all
      | else-i-pieces w ↦ w.result-is ∙ ne_eqb c.loop-i.i (length c.args.pieces.now - 1) w.if-i-pieces.false ∙ sym (ap (λ b. b && free) (ne_eqb c.loop-i.i (length c.args.pieces.now - 1) w.if-i-pieces.false)) ∙ all
    ]

pub returns-then-not-branch : goal.returns-then-not-branch
returns-then-not-branch c =
    let ns = map (λ (s : SemNo). s.0) c.args.uses.now in
    let pcp = is_stacked_sem c.args.d.now in
    let rest = drop (c.loop-i.i + 1) c.args.pieces.now in
    let refused = c.in_ok-goes_on_by.ensures ns c.in_ok-declared.ensures ∙ ap (λ (b : Bool). cond b (Some c.goes_on_by.new.h) None) c.if-not-branch.true in
    let all = goes_on-op ns pcp c.args.pieces.now c.loop-i.i (Works 0) c.loop-i-test.true c.loop-i.h c.in-Once.op c.in-Once.is (c.is_end.ensures.other c.if-is_end.false) ∙ c.loop-i.invariant in
    sym (ap (goes_on ns pcp rest) refused ∙ goes_on-refused ns pcp rest) ∙ all

pub loop-i-preserved : goal.loop-i-preserved
loop-i-preserved c =
    let ns = map (λ (s : SemNo). s.0) c.args.uses.now in
    let pcp = is_stacked_sem c.args.d.now in
    let ps : List Piece = c.args.pieces.now in
    let i = c.loop-i.i in
    let rest = drop (i + 1) ps in
    elim c.match-piece.branch [
      | in-Once+else-is_end+in_ok-goes_on_by+else-not-branch w ↦ (
          let passed = w.in_ok-goes_on_by.ensures ns c.in_ok-declared.ensures ∙ ap (λ (b : Bool). cond b (Some w.goes_on_by.new.h) None) w.if-not-branch.false in
          ap (λ (h : Holding). goes_on ns pcp rest (Some h)) w.h-is
          ∙ ap (goes_on ns pcp rest) (sym passed)
          ∙ goes_on-op ns pcp ps i (Works 0) c.loop-i-test.true c.loop-i.h w.in-Once.op w.in-Once.is (w.is_end.ensures.other w.if-is_end.false)
          ∙ c.loop-i.invariant)
      | in_default w ↦ (
          ap (λ (h : Holding). goes_on ns pcp rest (Some h)) w.h-is
          ∙ goes_on-works ns pcp ps i (Works 0) c.loop-i-test.true c.loop-i.h w.in_default.field-0 w.in_default.is
          ∙ c.loop-i.invariant)
    ]

pub returns : goal.returns
returns c =
    let ns = map (λ (s : SemNo). s.0) c.args.uses.now in
    sym (goes_on-nothing ns (is_stacked_sem c.args.d.now) c.args.pieces.now c.loop-i.i c.loop-i.h c.loop-i-test.false) ∙ c.loop-i.invariant
