-- A tool that is one of five.
use Rattle.trace_tools.specs.declared.misses.Misses.{Misses}
use Rattle.trace_tools.specs.declared.switches.Switches.{Switches}
use Rattle.trace_tools.specs.declared.migrations.Migrations.{Migrations}
use Rattle.trace_tools.specs.declared.occupancy.Occupancy.{Occupancy}
use Rattle.trace_tools.specs.declared.first_miss.FirstMiss.{FirstMiss}
use Rattle.trace_tools.specs.declared.shipped.ShippedTool.{ShippedTool}
use Rattle.trace_tools.specs.declared.shipped.ShippedTool.TheVariants as kinds
use Rattle.trace_tools.specs.Tools.{Tool}

-- what it is to contracts, by what each of the five is
abbrev pub tool_by : (Misses → Tool) → (Switches → Tool) → (Migrations → Tool) → (Occupancy → Tool) → (FirstMiss → Tool)
    → ShippedTool → Tool
tool_by m s g o f (kinds.Misses t) = m t
tool_by m s g o f (kinds.Switches t) = s t
tool_by m s g o f (kinds.Migrations t) = g t
tool_by m s g o f (kinds.Occupancy t) = o t
tool_by m s g o f (kinds.FirstMiss t) = f t
