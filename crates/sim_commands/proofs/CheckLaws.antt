-- Why a text is refused as a trace, and what a run of `check` cannot answer where a valid trace is to come.
use Rattle.std.proofs.Common.{◌≡◌, ℕ, List, refl, sym, ap, ◌∙◌, subst, inl, inr}
use Rattle.std.specs.Prelude.{Option, None, Some, Ok, Err}
use Rattle.rt_base.specs.declared.TheConstants.{MOST_TRACE_BYTES}
use Rattle.rt_task.specs.declared.Parts.{Parts}
use Rattle.rt_task.specs.declared.bad_set.BadSet.{BadSet}
use Rattle.rt_task.specs.declared.bad_set.SetKind.TheVariants.{NotTrace}
use Rattle.rt_task.specs.declared.bad_set.Part.TheVariants.{Line}
use Rattle.rt_task.specs.Refusals.{bad}
use Rattle.set_read.specs.Sets.{set}
use Rattle.trace_lines.specs.declared.format.Version.{Version}
use Rattle.trace_read.specs.Reads.{HasHead, IsRefused}
use Rattle.trace_read.specs.declared.fault.TraceFault.TheVariants as faults
use Rattle.trace_tools.specs.Tools.{Tool}
use Rattle.trace_laws.specs.ValidTexts.{IsValidText}
use Rattle.trace_laws.proofs.Heads.{head-unique}
use Rattle.trace_laws.proofs.Heads as heads
use Rattle.trace_check.specs.Verdicts.{IsInvalid}
use Rattle.rt_fault.specs.Reading.{TakesAll}
use Rattle.set_input.specs.Ends.{Reading}
use Rattle.sim_commands.specs.Check.{SaysSet, TraceIsRefused, WasTrace, WasNoTrace, IsValidTrace, CanCheck}
use Rattle.set_input.proofs.EndLaws.{IsToldWithin}

-- what has no head is refused at the line that it lacks
pub headless-refused : (bytes : List ℕ) (line : ℕ) (b : BadSet) → IsRefused bytes (faults.NotTrace line) → b ≡ bad NotTrace Line line → TraceIsRefused bytes b
headless-refused bytes line b (inl lack) same = inl (same ∙ ap (bad NotTrace Line) lack.0, lack.1)
headless-refused bytes line b (inr lack) same = inr (inl (same ∙ ap (bad NotTrace Line) lack.0, lack.1))

-- a text names one format
pub version-unique : (bytes : List ℕ) (v w : Version) (p q : Parts) → SaysSet bytes v p → SaysSet bytes w q → v ≡ w
version-unique bytes v w p q says also = (head-unique v w bytes _ _ _ _ says.head also.head).version

-- a text says one set
pub says-unique : (bytes : List ℕ) (v w : Version) (p q : Parts) → SaysSet bytes v p → SaysSet bytes w q → p ≡ q
says-unique bytes v w p q says also =
    let same : says.set_text ≡ also.set_text = (head-unique v w bytes _ _ _ _ says.head also.head).set_text in
    let mine : set also.set_text ≡ Ok p = ap set (sym same) ∙ says.set_is in
    let other : set also.set_text ≡ Ok q = also.set_is in
    cc

-- what says a set is not refused
pub says-unrefused : (bytes : List ℕ) (v : Version) (p : Parts) (b : BadSet) → SaysSet bytes v p → TraceIsRefused bytes b → ⊥
says-unrefused bytes v p b says (inl lack) = lack.1 v _ says.head.bytes_are
says-unrefused bytes v p b says (inr (inl lack)) =
    let same : v ≡ lack.1.version = heads.version-unique v lack.1.version _ _ (sym says.head.bytes_are ∙ lack.1.begins) in
    lack.1.no_set _ _ (subst (λ (u : Version). HasHead u bytes says.set_text says.rest) same says.head)
says-unrefused bytes v p b says (inr (inr other)) =
    let same : says.set_text ≡ other.set_text = (head-unique v other.version bytes _ _ _ _ says.head other.head).set_text in
    let read : set other.set_text ≡ Ok p = ap set (sym same) ∙ says.set_is in
    let refused : set other.set_text ≡ Err b = other.refused in
    cc

-- ---- a trace that can be checked

pub can_check-told : (tools : List Tool) (left : Option (List ℕ)) → CanCheck tools left → IsToldWithin MOST_TRACE_BYTES left
can_check-told tools None can = absurd can
can_check-told tools (Some xs) can = record { bytes = xs; left_is = refl; within = can.0 }

pub can_check-unrefused : (tools : List Tool) (source : Reading) (b : BadSet) → CanCheck tools source.old.left → WasNoTrace source b → ⊥
can_check-unrefused tools source b can lack = by_left source.old.left can lack.all
  where
    by_left : (left : Option (List ℕ)) → CanCheck tools left → TakesAll left source.new.left lack.bytes → ⊥
    by_left None able all = able
    by_left (Some xs) able all = says-unrefused xs able.1.version able.1.setup b able.1.says (subst (λ (bytes : List ℕ). TraceIsRefused bytes b) all.0 lack.refused)

pub can_check-valid : (tools : List Tool) (source : Reading) (bytes : List ℕ) (v : Version) (p : Parts) (line : ℕ) → CanCheck tools source.old.left → WasTrace source bytes v p → IsInvalid tools v p bytes line → ⊥
can_check-valid tools source bytes v p line can was wrong = by_left source.old.left can was.all
  where
    by_left : (left : Option (List ℕ)) → CanCheck tools left → TakesAll left source.new.left bytes → ⊥
    by_left None able all = able
    by_left (Some xs) able all =
        let valid : IsValidTrace tools bytes = subst (IsValidTrace tools) (sym all.0) able.1 in
        let version : valid.version ≡ v = version-unique bytes valid.version v valid.setup p valid.says was.says in
        let same : valid.setup ≡ p = says-unique bytes valid.version v valid.setup p valid.says was.says in
        wrong.not_valid valid.entries
        (subst (λ (u : Version). IsValidText tools u p bytes valid.entries) version (subst (λ (q : Parts). IsValidText tools valid.version q bytes valid.entries) same valid.valid))
