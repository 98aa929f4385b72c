-- A rule is named for each refusal but that of bytes that are no JSON value.
use Rattle.std.specs.Prelude.{◌≡◌, ◌≢◌, ℕ, true, List, is_some, Err}
use Rattle.rt_task.specs.declared.bad_set.BadSet.{BadSet}
use Rattle.rt_task.specs.declared.bad_set.SetKind.TheVariants.{NotJson}
use Rattle.set_read.specs.Sets.{set}
use Rattle.set_explain.specs.Broken.{broken_rule}

abbrev pub RefusalsHaveRules : Type 0
RefusalsHaveRules = (bytes : List ℕ) (b : BadSet) → set bytes ≡ Err b → b.kind ≢ NotJson → is_some (broken_rule bytes b) ≡ true
