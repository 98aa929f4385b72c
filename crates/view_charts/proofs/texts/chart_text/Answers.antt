use Rattle.std.proofs.Common.{◌≡◌, ◌∙◌, ap, sym}
use Rattle.std.proofs.lemmas.Result.{IfOk-weaker}
use Rattle.trace_text.specs.Groups.{histories}
use Rattle.chart_texts.specs.Windows as windows
use Rattle.view_charts.specs.Texts.{drawn, drawn_in}
use Rattle.view_charts.proofs.Drawn.{whole-drawn}
use Rattle.view_charts.proofs.texts.chart_text.Goals as goal
use Rattle.view_charts.proofs.texts.chart_text.Goals.{in-Some, in-None}

pub returns : goal.returns
returns c =
    IfOk-weaker c.text_in.result _ _ (λ text is.
    let f = c.args.form in
    let axis = c.args.axis in
    let p = c.args.setup.now in
    let hs = histories c.args.groups.now in
    let same : drawn_in f axis c.match-window.window p hs ≡ drawn f axis c.args.window p hs = elim c.match-window.branch [
      | in-Some w ↦ ap (λ x. drawn_in f axis x p hs) w.window-is ∙ ap (λ o. drawn f axis o p hs) (sym w.in-Some.is)
      | in-None w ↦
          ap (λ x. drawn_in f axis x p hs) (w.window-is ∙ w.whole-window.ensures ∙ ap windows.whole (w.longest.ensures p c.requires.groups))
          ∙ whole-drawn f axis p hs ∙ ap (λ o. drawn f axis o p hs) (sym w.in-None.is)
    ] in
    is ∙ same) c.text_in.ensures
