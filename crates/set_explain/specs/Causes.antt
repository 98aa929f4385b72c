-- Why a set is refused: it breaks a rule, or its bytes are no JSON value, from a place on that the reader tells.
use Rattle.std.specs.Prelude.{◌≡◌, ℕ, List, Option, None, Some}
use Rattle.rt_task.specs.declared.bad_set.BadSet.{BadSet}
use Rattle.set_read.specs.Sets.{value_of}
use Rattle.set_explain.specs.Broken.{broken_rule}
use Rattle.set_explain.specs.Rules.{Rule}

pub data Cause : Type 0 where
  broken : Rule → Cause
  not_json : (line column : ℕ) → Cause
  unnamed : Cause

abbrev pub named : Option Rule → Cause
named (Some rule) = broken rule
named None = unnamed

-- the cause of this refusal of the set in these bytes
abbrev pub IsCause : List ℕ → BadSet → Cause → Type 0
IsCause bytes b (not_json line column) = value_of bytes ≡ None
IsCause bytes b c = c ≡ named (broken_rule bytes b)
