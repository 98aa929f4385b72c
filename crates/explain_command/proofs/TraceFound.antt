-- A trace comes to one outcome.
use Rattle.std.proofs.Common.{◌≡◌, ℕ, ◌+◌, ◌≤◌, List, refl, sym, ap, ◌∙◌, subst, arith}
use Rattle.std.specs.Prelude.{Ok, Err, ◌⊎◌}
use Rattle.std.proofs.Common.{inl, inr}
use Rattle.rt_task.specs.declared.Parts.{Parts}
use Rattle.rt_task.specs.declared.bad_set.BadSet.{BadSet}
use Rattle.rt_task.specs.declared.bad_set.SetKind.TheVariants.{NotTrace}
use Rattle.rt_task.specs.declared.bad_set.Part.TheVariants.{Line}
use Rattle.set_read.specs.Sets.{set}
use Rattle.trace_lines.specs.declared.format.Version.{Version}
use Rattle.trace_tools.specs.Tools.{Tool}
use Rattle.trace_read.specs.Reads.{HasBadSet, HasHead, LacksFirstLine, LacksSetLine}
use Rattle.trace_laws.proofs.Heads.{head-unique}
use Rattle.trace_laws.proofs.Heads as heads
use Rattle.trace_laws.specs.ValidTexts.{IsValidText}
use Rattle.trace_check.specs.Verdicts.{IsInvalid}
use Rattle.sim_commands.specs.Check.{SaysSet, TraceIsRefused}
use Rattle.sim_commands.proofs.CheckLaws.{headless-refused, says-unique, says-unrefused, version-unique}
use Rattle.explain_command.specs.declared.outcome.Outcome.{Outcome}
use Rattle.explain_command.specs.declared.outcome.Outcome.TheVariants.{Fine, Wrong, Refused}
use Rattle.explain_command.specs.Explaining.{TraceIsExplained}

pub record IsFine (tools : List Tool) (bytes : List ℕ) : Type 0 where
  pub version : Version
  pub setup : Parts
  pub entries : ℕ
  pub says : SaysSet bytes version setup
  pub valid : IsValidText tools version setup bytes entries

pub record IsWrong (tools : List Tool) (bytes : List ℕ) (line : ℕ) : Type 0 where
  pub version : Version
  pub setup : Parts
  pub says : SaysSet bytes version setup
  pub wrong : IsInvalid tools version setup bytes line

-- what a text comes to as a trace
abbrev pub Found : List Tool → List ℕ → Outcome → Type 0
Found tools bytes Fine = IsFine tools bytes
Found tools bytes (Wrong line) = IsWrong tools bytes line
Found tools bytes (Refused b) = TraceIsRefused bytes b

pub found-explained : (tools : List Tool) (bytes : List ℕ) (o : Outcome) (text : List ℕ) → TraceIsExplained tools bytes o text → Found tools bytes o
found-explained tools bytes Fine text h = record { version = h.version; setup = h.setup; entries = h.entries; says = h.says; valid = h.valid }
found-explained tools bytes (Wrong line) text h = record { version = h.version; setup = h.setup; says = h.says; wrong = h.wrong }
found-explained tools bytes (Refused b) text (inl head) = headless-refused bytes head.line b head.lacks head.refusal
found-explained tools bytes (Refused b) text (inr says) = inr (inr says.bad_set)

-- ---- of one refusal

one-bad_set : (bytes : List ℕ) (a b : BadSet) → HasBadSet bytes a → HasBadSet bytes b → a ≡ b
one-bad_set bytes a b g h =
    let same : g.set_text ≡ h.set_text = (head-unique g.version h.version bytes _ _ _ _ g.head h.head).set_text in
    let mine : set h.set_text ≡ Err a = ap set (sym same) ∙ g.refused in
    let other : set h.set_text ≡ Err b = h.refused in
    cc

no_set-apart : (bytes : List ℕ) (b : BadSet) → LacksSetLine bytes → HasBadSet bytes b → ⊥
no_set-apart bytes b lack has =
    let same : has.version ≡ lack.version = heads.version-unique has.version lack.version _ _ (sym has.head.bytes_are ∙ lack.begins) in
    lack.no_set _ _ (subst (λ (u : Version). HasHead u bytes has.set_text has.rest) same has.head)

one-refusal : (bytes : List ℕ) (a b : BadSet) → TraceIsRefused bytes a → TraceIsRefused bytes b → a ≡ b
one-refusal bytes a b (inl g) (inl h) = g.0 ∙ sym h.0
one-refusal bytes a b (inl g) (inr (inl h)) = absurd (g.1 h.1.version h.1.rest h.1.begins)
one-refusal bytes a b (inl g) (inr (inr h)) = absurd (g.1 h.version _ h.head.bytes_are)
one-refusal bytes a b (inr (inl g)) (inl h) = absurd (h.1 g.1.version g.1.rest g.1.begins)
one-refusal bytes a b (inr (inl g)) (inr (inl h)) = g.0 ∙ sym h.0
one-refusal bytes a b (inr (inl g)) (inr (inr h)) = absurd (no_set-apart bytes b g.1 h)
one-refusal bytes a b (inr (inr g)) (inl h) = absurd (h.1 g.version _ g.head.bytes_are)
one-refusal bytes a b (inr (inr g)) (inr (inl h)) = absurd (no_set-apart bytes a h.1 g)
one-refusal bytes a b (inr (inr g)) (inr (inr h)) = one-bad_set bytes a b g h

-- ---- of one line

module _ (tools : List Tool) (bytes : List ℕ) where
  -- one text says one set in one format, so what is wrong of it is wrong of the same
  same-set : (v w : Version) (p q : Parts) (line : ℕ) → SaysSet bytes v p → SaysSet bytes w q → IsInvalid tools w q bytes line → IsInvalid tools v p bytes line
  same-set v w p q line says also wrong =
      subst (λ (u : Version). IsInvalid tools u p bytes line) (version-unique bytes w v q p also says)
      (subst (λ (r : Parts). IsInvalid tools w r bytes line) (says-unique bytes w v q p also says) wrong)

  one-line : (v : Version) (p : Parts) (m n : ℕ) → IsInvalid tools v p bytes m → IsInvalid tools v p bytes n → m ≡ n
  one-line v p m n g h = omega (arith, g.line_is, h.line_is, g.most h.right h.begun, h.most g.right g.begun)

  fine-not_wrong : (line : ℕ) → IsFine tools bytes → IsWrong tools bytes line → ⊥
  fine-not_wrong line g h = (same-set g.version h.version g.setup h.setup line g.says h.says h.wrong).not_valid g.entries g.valid

  -- it comes to one
  pub found-once : (a b : Outcome) → Found tools bytes a → Found tools bytes b → a ≡ b
  found-once Fine Fine g h = refl
  found-once Fine (Wrong n) g h = absurd (fine-not_wrong n g h)
  found-once Fine (Refused b) g h = absurd (says-unrefused bytes g.version g.setup b g.says h)
  found-once (Wrong m) Fine g h = absurd (fine-not_wrong m h g)
  found-once (Wrong m) (Wrong n) g h = ap Wrong (one-line g.version g.setup m n g.wrong (same-set g.version h.version g.setup h.setup n g.says h.says h.wrong))
  found-once (Wrong m) (Refused b) g h = absurd (says-unrefused bytes g.version g.setup b g.says h)
  found-once (Refused a) Fine g h = absurd (says-unrefused bytes h.version h.setup a h.says g)
  found-once (Refused a) (Wrong n) g h = absurd (says-unrefused bytes h.version h.setup a h.says g)
  found-once (Refused a) (Refused b) g h = ap Refused (one-refusal bytes a b g h)
