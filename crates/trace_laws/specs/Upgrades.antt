-- Upgrades: the text in format 2 of what a valid text of either format says, with the count lines of the tools.
use Rattle.std.specs.Prelude.{◌≡◌, ℕ, true, List}
use Rattle.rt_task.specs.declared.Parts.{Parts}
use Rattle.rt_task.specs.Validity.{IsValid}
use Rattle.rt_rules.specs.declared.history.Entry.{Entry}
use Rattle.trace_lines.specs.declared.format.Version.{Version}
use Rattle.trace_lines.specs.declared.format.Version.TheVariants.{Two}
use Rattle.trace_tools.specs.Tools.{Tool}
use Rattle.trace_text.specs.CountLines.{counted_text}
use Rattle.trace_laws.specs.TraceLaws.{ArePlayed}
use Rattle.trace_laws.specs.ValidTexts.{IsTextOf, IsValidText}

-- the second text says in format 2 what the first says in its format, and all the tools count behind it
pub record IsUpgradeOf (tools : List Tool) (text upgraded : List ℕ) : Type 0 where
  pub version : Version
  pub setup : Parts
  pub histories : List (List Entry)
  pub played : ArePlayed setup histories
  pub text_is : IsTextOf tools version setup histories text
  pub upgraded_is : upgraded ≡ counted_text Two tools setup histories

-- the text is a valid one of a valid set
pub record IsValidOf (tools : List Tool) (version : Version) (p : Parts) (text : List ℕ) (entries : ℕ) : Type 0 where
  pub valid : IsValid p
  pub is_text : IsValidText tools version p text entries

-- a valid text of either format has exactly one upgrade
abbrev pub UpgradeIsThere : Type 0
UpgradeIsThere =
    (tools : List Tool) (version : Version) (p : Parts) (text : List ℕ) (entries : ℕ) → IsValidOf tools version p text entries
    → (upgraded : List ℕ) × (IsUpgradeOf tools text upgraded × ((other : List ℕ) → IsUpgradeOf tools text other → other ≡ upgraded))

-- which is a valid text of the same set in format 2, with the same number of entries
abbrev pub UpgradeIsValid : Type 0
UpgradeIsValid =
    (tools : List Tool) (version : Version) (p : Parts) (text upgraded : List ℕ) (entries : ℕ)
    → IsValidOf tools version p text entries → IsUpgradeOf tools text upgraded → IsValidText tools Two p upgraded entries

-- and is its own upgrade
abbrev pub UpgradeIsKept : Type 0
UpgradeIsKept = (tools : List Tool) (text upgraded again : List ℕ)
    → IsUpgradeOf tools text upgraded → IsUpgradeOf tools upgraded again → again ≡ upgraded
