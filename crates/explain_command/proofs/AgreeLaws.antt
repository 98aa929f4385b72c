-- Of bytes that both look at, `explain` answers what `check` or `sim` answers.
use Rattle.std.proofs.Common.{◌≡◌, ℕ, Bool, true, false, List, refl, sym, ap, ◌∙◌, subst}
use Rattle.std.specs.Prelude.{Option, Some, Result, Ok, Err}
use Rattle.rt_task.specs.declared.Parts.{Parts}
use Rattle.rt_task.specs.declared.bad_set.BadSet.{BadSet}
use Rattle.rt_fault.specs.Reading.{TakesAll}
use Rattle.rt_fault.specs.declared.status.Status.{Status}
use Rattle.rt_fault.specs.declared.status.Status.TheVariants as ends
use Rattle.set_read.specs.Sets.{set}
use Rattle.trace_tools.specs.Tools.{Tool}
use Rattle.set_input.specs.Ends.{Reading, Writing}
use Rattle.sim_commands.specs.CheckAnswers.{CheckAnswers}
use Rattle.sim_commands.specs.SimAnswers.{SimAnswers}
use Rattle.explain_command.specs.declared.outcome.Outcome.{Outcome}
use Rattle.explain_command.specs.declared.outcome.Outcome.TheVariants.{Fine, Wrong, Refused}
use Rattle.explain_command.specs.Explaining.{IsExplained, IsExplainedAs, begins_as_trace}
use Rattle.explain_command.specs.ExplainAnswers.{ExplainAnswers, WasExplained}
use Rattle.explain_command.specs.Laws.{AgreesWithCheck, AgreesWithSim, IsFound}
use Rattle.explain_command.proofs.TraceFound.{Found, found-explained, found-once}

-- all that was told was taken
taken : (left new : Option (List ℕ)) (bytes got : List ℕ) → left ≡ Some bytes → TakesAll left new got → got ≡ bytes
taken left new bytes got told all =
    let h : TakesAll (Some bytes) new got = subst (λ (o : Option (List ℕ)). TakesAll o new got) told all in
    h.0

-- what an outcome is answered with
abbrev said_as : Outcome → Status
said_as Fine = ends.Ok
said_as (Wrong line) = ends.Invalid line
said_as (Refused b) = ends.BadInput b

-- the outcome that an answer says
record Saying (P : Outcome → Type 0) (answer : Status) : Type 0 where
  outcome : Outcome
  holds : P outcome
  is : answer ≡ said_as outcome

module _ (tools : List Tool) (bytes : List ℕ) where
  explained-as : (kind : Bool) (one : Reading) (sink : Writing) (o : Outcome) → begins_as_trace bytes ≡ kind → one.old.left ≡ Some bytes → WasExplained tools one sink o
      → (text : List ℕ) × IsExplainedAs kind tools bytes o text
  explained-as kind one sink o begins told was =
      let same : was.bytes ≡ bytes = taken one.old.left one.new.left bytes was.bytes told was.read.all in
      let mine : IsExplained tools bytes o was.text = subst (λ (xs : List ℕ). IsExplained tools xs o was.text) same was.explained in
      (was.text, subst (λ (b : Bool). IsExplainedAs b tools bytes o was.text) begins mine)

  explain-says : (kind : Bool) (one : Reading) (sink : Writing) (answer : Status) → begins_as_trace bytes ≡ kind → one.old.left ≡ Some bytes → ExplainAnswers tools one sink answer → IsFound answer
      → Saying (λ o. (text : List ℕ) × IsExplainedAs kind tools bytes o text) answer
  explain-says kind one sink ends.Ok begins told e found = record { outcome = Fine; holds = explained-as kind one sink Fine begins told (e.ok refl); is = refl }
  explain-says kind one sink (ends.Invalid line) begins told e found = record { outcome = Wrong line; holds = explained-as kind one sink (Wrong line) begins told (e.invalid line refl); is = refl }
  explain-says kind one sink (ends.BadInput b) begins told e found = record { outcome = Refused b; holds = explained-as kind one sink (Refused b) begins told (e.bad_input b refl); is = refl }
  explain-says kind one sink ends.Usage begins told e found = absurd found
  explain-says kind one sink ends.ReadFault begins told e found = absurd found
  explain-says kind one sink ends.WriteFault begins told e found = absurd found
  explain-says kind one sink ends.TooLong begins told e found = absurd found
  explain-says kind one sink ends.NoMemory begins told e found = absurd found

  check-says : (other : Reading) (sink : Writing) (said : Status) → other.old.left ≡ Some bytes → CheckAnswers tools other sink said → IsFound said → Saying (Found tools bytes) said
  check-says other sink ends.Ok told a found =
      let was = (a.ok refl).1 in
      let same : was.bytes ≡ bytes = taken other.old.left other.new.left bytes was.bytes told was.read.all in
      let mine : Found tools was.bytes Fine = record { version = was.version; setup = was.setup; entries = (a.ok refl).0; says = was.read.says; valid = was.verdict } in
      record { outcome = Fine; holds = subst (λ (xs : List ℕ). Found tools xs Fine) same mine; is = refl }
  check-says other sink (ends.Invalid line) told a found =
      let was = a.invalid line refl in
      let same : was.bytes ≡ bytes = taken other.old.left other.new.left bytes was.bytes told was.read.all in
      let mine : Found tools was.bytes (Wrong line) = record { version = was.version; setup = was.setup; says = was.read.says; wrong = was.verdict } in
      record { outcome = Wrong line; holds = subst (λ (xs : List ℕ). Found tools xs (Wrong line)) same mine; is = refl }
  check-says other sink (ends.BadInput b) told a found =
      let was = a.bad_input b refl in
      let same : was.bytes ≡ bytes = taken other.old.left other.new.left bytes was.bytes told was.all in
      record { outcome = Refused b; holds = subst (λ (xs : List ℕ). Found tools xs (Refused b)) same was.refused; is = refl }
  check-says other sink ends.Usage told a found = absurd found
  check-says other sink ends.ReadFault told a found = absurd found
  check-says other sink ends.WriteFault told a found = absurd found
  check-says other sink ends.TooLong told a found = absurd found
  check-says other sink ends.NoMemory told a found = absurd found

  -- what bytes come to as a set
  abbrev AsSet : Outcome → Type 0
  AsSet Fine = (p : Parts) × (set bytes ≡ Ok p)
  AsSet (Wrong line) = ⊥
  AsSet (Refused b) = set bytes ≡ Err b

  set-found : (o : Outcome) → (text : List ℕ) × IsExplainedAs false tools bytes o text → AsSet o
  set-found Fine h = (h.1.1.setup, h.1.1.reads)
  set-found (Wrong line) h = absurd h.1.1
  set-found (Refused b) h = h.1.1.refused

  set-once : (a b : Outcome) → AsSet a → AsSet b → a ≡ b
  set-once Fine Fine g h = refl
  set-once Fine (Wrong n) g h = absurd h
  set-once Fine (Refused b) g h = let ok : set bytes ≡ Ok g.0 = g.1 in cc
  set-once (Wrong m) b g h = absurd g
  set-once (Refused a) Fine g h = let ok : set bytes ≡ Ok h.0 = h.1 in cc
  set-once (Refused a) (Wrong n) g h = absurd h
  set-once (Refused a) (Refused b) g h = let same : a ≡ b = cc in ap Refused same

  sim-says : (other : Reading) (sink : Writing) (said : Status) → other.old.left ≡ Some bytes → SimAnswers tools other sink said → IsFound said → Saying AsSet said
  sim-says other sink ends.Ok told a found =
      let was = a.ok refl in
      let same : was.read.bytes ≡ bytes = taken other.old.left other.new.left bytes was.read.bytes told was.read.all in
      record { outcome = Fine; holds = (was.setup, ap set (sym same) ∙ was.read.reads); is = refl }
  sim-says other sink (ends.Invalid line) told a found = absurd (a.not_invalid line refl)
  sim-says other sink (ends.BadInput b) told a found =
      let was = a.bad_input b refl in
      let same : was.bytes ≡ bytes = taken other.old.left other.new.left bytes was.bytes told was.all in
      record { outcome = Refused b; holds = ap set (sym same) ∙ was.refused; is = refl }
  sim-says other sink ends.Usage told a found = absurd found
  sim-says other sink ends.ReadFault told a found = absurd found
  sim-says other sink ends.WriteFault told a found = absurd found
  sim-says other sink ends.TooLong told a found = absurd found
  sim-says other sink ends.NoMemory told a found = absurd found

pub agrees-check : AgreesWithCheck
agrees-check tools bytes one other sink other_sink answer said begins told e found a looked =
    let mine = explain-says tools bytes true one sink answer begins told.one_left e found in
    let theirs = check-says tools bytes other other_sink said told.other_left a looked in
    let same : mine.outcome ≡ theirs.outcome = found-once tools bytes mine.outcome theirs.outcome (found-explained tools bytes mine.outcome mine.holds.0 mine.holds.1) theirs.holds in
    mine.is ∙ ap said_as same ∙ sym theirs.is

pub agrees-sim : AgreesWithSim
agrees-sim tools bytes one other sink other_sink answer said begins told e found a looked =
    let mine = explain-says tools bytes false one sink answer begins told.one_left e found in
    let theirs = sim-says tools bytes other other_sink said told.other_left a looked in
    let same : mine.outcome ≡ theirs.outcome = set-once tools bytes mine.outcome theirs.outcome (set-found tools bytes mine.outcome mine.holds) theirs.holds in
    mine.is ∙ ap said_as same ∙ sym theirs.is
