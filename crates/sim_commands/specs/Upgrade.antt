-- What a run of `upgrade` reads and writes, where these tools count.
use Rattle.std.specs.Prelude.{◌≡◌, ℕ, ◌⊎◌, List}
use Rattle.rt_task.specs.declared.Parts.{Parts}
use Rattle.rt_fault.specs.Faults.{HasRisen}
use Rattle.rt_fault.specs.Held.{Extends, ExtendsByPrefix}
use Rattle.rt_fault.specs.declared.status.Status.{Status}
use Rattle.rt_fault.specs.declared.status.Status.TheVariants.{Ok, Invalid, WriteFault, NoMemory}
use Rattle.trace_lines.specs.declared.format.Version.{Version}
use Rattle.trace_tools.specs.Tools.{Tool}
use Rattle.trace_laws.specs.Upgrades.{IsUpgradeOf}
use Rattle.trace_check.specs.Verdicts.{IsInvalid}
use Rattle.set_input.specs.Ends.{Reading, Writing}
use Rattle.sim_commands.specs.Check.{WasTrace}

-- how the writing of a text ends: with all of it, or with a first part of it
abbrev pub HasWritten : List ℕ → Writing → Status → Type 0
HasWritten text sink Ok = Extends sink.old.held sink.new.held text
HasWritten text sink WriteFault = ExtendsByPrefix sink.old.held sink.new.held text × HasRisen sink.old.faults sink.new.faults
HasWritten text sink NoMemory = (sink.new ≡ sink.old) ⊎ ExtendsByPrefix sink.old.held sink.new.held text
HasWritten text sink _ = ⊥

-- the upgrade of the bytes was written, to this end
pub record HasWrittenUpgrade (tools : List Tool) (bytes : List ℕ) (sink : Writing) (answer : Status) : Type 0 where
  pub upgraded : List ℕ
  pub is_upgrade : IsUpgradeOf tools bytes upgraded
  pub written : HasWritten upgraded sink answer

-- what comes of the bytes of a trace: its upgrade is written, or it has a first wrong line, and nothing is written
abbrev pub HasUpgraded : List Tool → Version → Parts → List ℕ → Writing → Status → Type 0
HasUpgraded tools version p bytes sink (Invalid line) = IsInvalid tools version p bytes line × (sink.new ≡ sink.old)
HasUpgraded tools version p bytes sink NoMemory = (sink.new ≡ sink.old) ⊎ HasWrittenUpgrade tools bytes sink NoMemory
HasUpgraded tools version p bytes sink answer = HasWrittenUpgrade tools bytes sink answer

-- a trace was read, and its whole upgrade came
pub record WasUpgraded (tools : List Tool) (source : Reading) (sink : Writing) : Type 0 where
  pub bytes : List ℕ
  pub version : Version
  pub setup : Parts
  pub upgraded : List ℕ
  pub read : WasTrace source bytes version setup
  pub is_upgrade : IsUpgradeOf tools bytes upgraded
  pub written : Extends sink.old.held sink.new.held upgraded

-- a trace was read, and a first part of its upgrade came
pub record UpgradeWasCut (tools : List Tool) (source : Reading) (sink : Writing) : Type 0 where
  pub bytes : List ℕ
  pub version : Version
  pub setup : Parts
  pub upgraded : List ℕ
  pub read : WasTrace source bytes version setup
  pub is_upgrade : IsUpgradeOf tools bytes upgraded
  pub written : ExtendsByPrefix sink.old.held sink.new.held upgraded

-- a trace was read, this line is the first that is wrong, and nothing was written
pub record WasWrong (tools : List Tool) (source : Reading) (sink : Writing) (line : ℕ) : Type 0 where
  pub bytes : List ℕ
  pub version : Version
  pub setup : Parts
  pub read : WasTrace source bytes version setup
  pub wrong : IsInvalid tools version setup bytes line
  pub unwritten : sink.new ≡ sink.old
