-- How the reading of an input ends, and that no fault, no refusal and no byte too many leaves an answer that is well.
use Rattle.std.proofs.Common.{◌≡◌, ℕ, ◌+◌, ◌≤◌, List, ◌++◌, length, refl, ap, subst, arith, length-append}
use Rattle.std.specs.Prelude.{◌⊎◌, Option, None, Some, Result, Ok, Err, IsErrAnd}
use Rattle.rt_task.specs.declared.bad_set.BadSet.{BadSet}
use Rattle.rt_task.specs.declared.bad_set.SetStop.{SetStop}
use Rattle.rt_task.specs.declared.bad_set.SetStop.TheVariants as sets
use Rattle.rt_fault.specs.Faults.{HasRisen}
use Rattle.rt_fault.specs.Held.{Extends, ExtendsByPrefix}
use Rattle.rt_fault.specs.Reading.{TakesAtMost, TakesOneMoreThan}
use Rattle.rt_fault.specs.Stops.{unread, unmade}
use Rattle.rt_fault.specs.declared.reading.ReadStop.{ReadStop}
use Rattle.rt_fault.specs.declared.reading.ReadStop.TheVariants as reads
use Rattle.rt_fault.specs.declared.status.Status.{Status}
use Rattle.rt_fault.specs.declared.status.Status.TheVariants as ends
use Rattle.set_input.specs.Ends.{Reading, Writing}
use Rattle.set_input.specs.Answers.{IsWell}
use Rattle.set_input.specs.Stopped.{EndsReading}

-- what is still to come is told, and is within the limit
pub record IsToldWithin (limit : ℕ) (left : Option (List ℕ)) : Type 0 where
  pub bytes : List ℕ
  pub left_is : left ≡ Some bytes
  pub within : length bytes ≤ limit

pub within-no_more : (limit : ℕ) (xs : List ℕ) (left' : Option (List ℕ)) → length xs ≤ limit → TakesOneMoreThan limit (Some xs) left' → ⊥
within-no_more limit xs None within more = more.2
within-no_more limit xs (Some ys) within more =
    let same : xs ≡ more.0 ++ ys = more.2 in
    let longer : length xs ≡ length (more.0 ++ ys) = ap length same in
    let sum : length (more.0 ++ ys) ≡ length more.0 + length ys = length-append more.0 ys in
    omega (arith, more.1, within, longer, sum)

module _ (source : Reading) (limit : ℕ) (refused : BadSet → Type 0) where
  abbrev pub IsQuiet : Type 0
  IsQuiet = source.new.faults ≡ source.old.faults

  abbrev pub IsFew : Type 0
  IsFew = TakesAtMost limit source.old.left source.new.left

  -- what each answer says
  abbrev pub Cause : Status → Type 0
  Cause (ends.BadInput b) = refused b × IsQuiet × IsFew
  Cause ends.ReadFault = HasRisen source.old.faults source.new.faults × IsFew
  Cause ends.TooLong = TakesOneMoreThan limit source.old.left source.new.left × IsQuiet
  Cause ends.NoMemory = IsQuiet × IsFew
  Cause _ = ⊥

  pub ends-ok : {T : Type 0} (x : T) → IsQuiet → IsFew → EndsReading {T = T} source limit refused (Ok x)
  ends-ok x quiet few = record {
    bad_input = λ b is. cc;
    read_fault = λ is. cc;
    no_read_fault = λ _. quiet;
    too_long = λ is. cc;
    not_too_long = λ _. few;
    not_ok = λ is. cc;
    not_invalid = λ line is. cc;
    not_usage = λ is. cc;
    not_write_fault = λ is. cc;
  }

  ends-at : (T : Type 0) (answer : Status) → Cause answer → EndsReading {T = T} source limit refused (Err answer)
  ends-at T (ends.BadInput b) (lacks, quiet, few) = record {
    bad_input = λ other is. let same : b ≡ other = cc in subst refused same lacks;
    read_fault = λ is. cc;
    no_read_fault = λ _. quiet;
    too_long = λ is. cc;
    not_too_long = λ _. few;
    not_ok = λ is. cc;
    not_invalid = λ line is. cc;
    not_usage = λ is. cc;
    not_write_fault = λ is. cc;
  }
  ends-at T ends.ReadFault (risen, few) = record {
    bad_input = λ b is. cc;
    read_fault = λ _. risen;
    no_read_fault = λ other. absurd (other refl);
    too_long = λ is. cc;
    not_too_long = λ _. few;
    not_ok = λ is. cc;
    not_invalid = λ line is. cc;
    not_usage = λ is. cc;
    not_write_fault = λ is. cc;
  }
  ends-at T ends.TooLong (more, quiet) = record {
    bad_input = λ b is. cc;
    read_fault = λ is. cc;
    no_read_fault = λ _. quiet;
    too_long = λ _. more;
    not_too_long = λ other. absurd (other refl);
    not_ok = λ is. cc;
    not_invalid = λ line is. cc;
    not_usage = λ is. cc;
    not_write_fault = λ is. cc;
  }
  ends-at T ends.NoMemory (quiet, few) = record {
    bad_input = λ b is. cc;
    read_fault = λ is. cc;
    no_read_fault = λ _. quiet;
    too_long = λ is. cc;
    not_too_long = λ _. few;
    not_ok = λ is. cc;
    not_invalid = λ line is. cc;
    not_usage = λ is. cc;
    not_write_fault = λ is. cc;
  }
  ends-at T ends.Ok cause = absurd cause
  ends-at T (ends.Invalid line) cause = absurd cause
  ends-at T ends.Usage cause = absurd cause
  ends-at T ends.WriteFault cause = absurd cause

  pub ends-with : {T : Type 0} (answer end : Status) → answer ≡ end → Cause end → EndsReading {T = T} source limit refused (Err answer)
  ends-with {T} answer end same cause = rw same (ends-at T end cause)

  -- the same of an end that is handed on
  pub ends-handed : {T : Type 0} (r : Result T Status) (end : Status) → IsErrAnd r (λ x. x ≡ end) → Cause end → EndsReading source limit refused r
  ends-handed (Ok x) end is cause = absurd is
  ends-handed (Err answer) end is cause = ends-with answer end is cause

  -- no input was read whole
  pub unread-cause :
      {T : Type 0} (stop : ReadStop)
      → (◌≡◌ {A = Result T ReadStop} (Err stop) (Err reads.Fault) → HasRisen source.old.faults source.new.faults) → (¬ (◌≡◌ {A = Result T ReadStop} (Err stop) (Err reads.Fault)) → IsQuiet)
      → (◌≡◌ {A = Result T ReadStop} (Err stop) (Err reads.TooLong) → TakesOneMoreThan limit source.old.left source.new.left) → (¬ (◌≡◌ {A = Result T ReadStop} (Err stop) (Err reads.TooLong)) → IsFew)
      → Cause (unread stop)
  unread-cause reads.Fault fault unfailed too_long not_too_long = (fault refl, not_too_long (λ is. cc))
  unread-cause reads.TooLong fault unfailed too_long not_too_long = (too_long refl, unfailed (λ is. cc))
  unread-cause reads.NoMemory fault unfailed too_long not_too_long = (unfailed (λ is. cc), not_too_long (λ is. cc))

  -- no set was made of it
  pub unmade-cause : (stop : SetStop) → ((b : BadSet) → unmade stop ≡ ends.BadInput b → refused b) → IsQuiet → IsFew → Cause (unmade stop)
  unmade-cause (sets.Bad b) lacks quiet few = (lacks b refl, quiet, few)
  unmade-cause sets.NoMemory lacks quiet few = (quiet, few)

  -- an end without fault, refusal or a byte too many is well
  pub ended-well :
      {T : Type 0} (answer : Status) → EndsReading {T = T} source limit refused (Err answer) → IsToldWithin limit source.old.left
      → ¬ (HasRisen source.old.faults source.new.faults) → ((b : BadSet) → refused b → ⊥) → IsWell answer
  ended-well ends.Ok e told sure none = tt
  ended-well ends.NoMemory e told sure none = tt
  ended-well (ends.Invalid line) e told sure none = e.not_invalid line refl
  ended-well ends.Usage e told sure none = e.not_usage refl
  ended-well ends.WriteFault e told sure none = e.not_write_fault refl
  ended-well (ends.BadInput b) e told sure none = none b (e.bad_input b refl)
  ended-well ends.ReadFault e told sure none = sure (e.read_fault refl)
  ended-well ends.TooLong e told sure none =
      within-no_more limit told.bytes source.new.left told.within
      (subst (λ (o : Option (List ℕ)). TakesOneMoreThan limit o source.new.left) told.left_is (e.too_long refl))

-- ---- writing

-- a text was written, or a first part of it
abbrev pub Wrote : Writing → List ℕ → Status → Type 0
Wrote sink text ends.Ok = Extends sink.old.held sink.new.held text
Wrote sink text ends.WriteFault = ExtendsByPrefix sink.old.held sink.new.held text × HasRisen sink.old.faults sink.new.faults
Wrote sink text ends.NoMemory = (sink.new ≡ sink.old) ⊎ ExtendsByPrefix sink.old.held sink.new.held text
Wrote sink text _ = ⊥
