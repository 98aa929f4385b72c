-- What the private fields of a bus stand for.
use Rattle.std.specs.Prelude.{ℕ, List, map, take, Option, None, Some}
use Rattle.trace_tools.specs.declared.tool_counter.ToolCounter.{ToolCounter}
use Rattle.trace_tools.specs.declared.bus.Bus.{Bus}
use Rattle.trace_tools.specs.Tools.{Tool}
use Rattle.trace_tools.specs.Counters.{Counter, counting, counted}

abbrev pub counter_by : {T : Type 0} → (T → Tool) → Option T → ℕ → List ℕ → Counter
counter_by tool None name numbers = counted name numbers
counter_by tool (Some t) name numbers = counting (tool t)

-- a counter, where a tool of the type stands for what its trait says
abbrev pub counter : {T : Type 0} → (T → Tool) → ToolCounter T → Counter
counter tool p = counter_by tool p.tool p.name (take p.count p.totals)

-- the counters of a bus, in order
abbrev pub counters : {T : Type 0} → (T → Tool) → Bus T → List Counter
counters tool b = map (counter tool) b.counters.items
