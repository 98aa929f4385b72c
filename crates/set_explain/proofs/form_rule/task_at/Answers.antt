use Rattle.std.proofs.Common.{◌≡◌, ◌<◌, ◌≤◌, IfOk, List, length, ap, ltb-true, subst, sym}
use Rattle.std.proofs.lemmas.Bool.{ltb-false}
use Rattle.serde_json.specs.Data.{Data}
use Rattle.serde_json.specs.View.{view}
use Rattle.set_read.specs.Document.{has_horizon, names_of}
use Rattle.set_read.specs.Seen.{play_seen, whole_seen}
use Rattle.set_explain.specs.Rules.{Test, broken}
use Rattle.set_explain.specs.ShapeRules.{task_shape}
use Rattle.set_explain.specs.Shown.{shown}
use Rattle.set_explain.proofs.PlaceLaws.{tests_past, tests_there}
use Rattle.set_explain.proofs.form_rule.task_at.Goals as goal

pub returns-in-Some-clause-rule : goal.returns-in-Some-clause-rule
returns-in-Some-clause-rule c =
    let tests : Data → List Test = task_shape (names_of (whole_seen c.args.whole.now)) (has_horizon (play_seen c.args.whole.now.play)) in
    let low : c.args.i < length c.args.items.now = ltb-true _ _ (sym c.in-Some.ensures.lookup.0) in
    let is = tests_there tests view c.args.items.now c.args.i c.in-Some.v.now low c.in-Some.ensures.lookup.1 in
    subst (λ (ts : List Test). IfOk c.task_rule.result (λ r. shown r ≡ broken ts)) (sym is) c.task_rule.ensures.rule

pub returns-in-None-clause-rule : goal.returns-in-None-clause-rule
returns-in-None-clause-rule c =
    let tests : Data → List Test = task_shape (names_of (whole_seen c.args.whole.now)) (has_horizon (play_seen c.args.whole.now.play)) in
    let past : length c.args.items.now ≤ c.args.i = ltb-false _ _ (sym c.in-None.ensures.lookup.0) in
    ap broken (sym (tests_past tests view c.args.items.now c.args.i past))
