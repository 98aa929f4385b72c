-- What is drawn of a chart is the text that is defined.
use Rattle.std.proofs.Common.{◌≡◌, ◌∙◌, ℕ, suc, ◌+◌, List, [], ◌∷◌, length, refl, sym, ap}
use Rattle.std.specs.Prelude.{None}
use Rattle.std.proofs.lemmas.List.{length-map}
use Rattle.rt_task.specs.declared.Parts.{Parts}
use Rattle.rt_rules.specs.declared.history.Entry.{Entry}
use Rattle.rt_model.specs.Group.{Group}
use Rattle.rt_model.specs.Past.{Past}
use Rattle.rt_plays.specs.Groups.{GroupHistory}
use Rattle.trace_text.specs.Groups.{histories}
use Rattle.chart_texts.specs.declared.window.Axis.{Axis}
use Rattle.chart_texts.specs.declared.window.Window.{Window}
use Rattle.chart_texts.specs.ChartText.{chart_text, text_of, whole_text}
use Rattle.chart_texts.specs.Charts.{Panel, chart_of, longest_on, pasts_from}
use Rattle.chart_texts.specs.Windows.{whole}
use Rattle.svg_texts.specs.SvgText.{svg_of, svg_text, whole_svg}
use Rattle.view_charts.specs.declared.texts.Form.{Form}
use Rattle.view_charts.specs.declared.texts.Form.TheVariants.{Svg, Text}
use Rattle.view_charts.specs.Texts.{drawn, drawn_in, panel_in, panels_in}

module _ (axis : Axis) (w : Window) (p : Parts) (hs : List (List Entry)) (n : ℕ) (ps : List Panel) (long : n ≡ longest_on axis (pasts_from p 0 hs)) (shown : ps ≡ panels_in axis w (pasts_from p 0 hs)) where
  charted : record { length = n; panels = ps } ≡ chart_of axis w (pasts_from p 0 hs)
  unfolding chart_of
  charted = λ i. record { length = long i; panels = shown i }

  pub text-drawn : (parts : Parts) (form : Form) → parts ≡ p → form ≡ Text → text_of parts axis w (record { length = n; panels = ps }) ≡ drawn_in form axis w p hs
  unfolding chart_text
  text-drawn parts form is by = ap (λ (q : Parts). text_of q axis w (record { length = n; panels = ps })) is ∙ ap (text_of p axis w) charted ∙ ap (λ (f : Form). drawn_in f axis w p hs) (sym by)

  pub svg-drawn : (parts : Parts) (form : Form) → parts ≡ p → form ≡ Svg → svg_of parts axis w (record { length = n; panels = ps }) ≡ drawn_in form axis w p hs
  unfolding svg_text
  svg-drawn parts form is by = ap (λ (q : Parts). svg_of q axis w (record { length = n; panels = ps })) is ∙ ap (svg_of p axis w) charted ∙ ap (λ (f : Form). drawn_in f axis w p hs) (sym by)

-- ---- where no window is asked for

pub whole-drawn : (form : Form) (axis : Axis) (p : Parts) (hs : List (List Entry)) → drawn_in form axis (whole (longest_on axis (pasts_from p 0 hs))) p hs ≡ drawn form axis None p hs
unfolding whole_text whole_svg
whole-drawn Text axis p hs = refl
whole-drawn Svg axis p hs = refl

-- ---- how many groups there are

pasts-long : (p : Parts) (n : ℕ) (hs : List (List Entry)) → length (pasts_from p n hs) ≡ length hs
pasts-long p n [] = refl
pasts-long p n (h ∷ hs) = ap suc (pasts-long p (n + 1) hs)

pub panels-long : (axis : Axis) (w : Window) (p : Parts) (hs : List GroupHistory) → length (panels_in axis w (pasts_from p 0 (histories hs))) ≡ length hs
panels-long axis w p hs =
    length-map (pasts_from p 0 (histories hs)) (λ (x : Group × Past). panel_in axis w x.0 x.1) ∙ pasts-long p 0 (histories hs) ∙ length-map hs (λ (h : GroupHistory). h.entries)
