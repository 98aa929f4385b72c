use Rattle.std.proofs.Common.{◌≡◌, ◌∙◌, Bool, ℕ, List, ap, slice_index, slice_set, take, rules}
use Rattle.trace_tools.specs.Entries.{is_work}
use Rattle.trace_tools.specs.Rules.{occupancy_rules, occupy, raised}
use Rattle.trace_tools.proofs.OccupancyLaws.{occupy-taken}
use Rattle.trace_tools.proofs.occupancy.OccupancyTraceTool.feed.Goals as goal

pub returns-then-cpu-lt-CPUS : goal.returns-then-cpu-lt-CPUS
returns-then-cpu-lt-CPUS c =
    let s = c.args.self.now in
    let e = c.args.e.now in
    let state : take c.max-self.result (slice_set s.works e.entry.step.cpu.0 c.raised.result) ≡ occupy e.entry.step.cpu.0 (is_work e.entry.step.act e.entry.reply) (take s.shown s.works) = occupy-taken s.works s.shown e.entry.step.cpu.0 c.max-self.result c.raised.result (is_work e.entry.step.act e.entry.reply) (search rules) c.if-cpu-lt-CPUS.true c.max-self.ensures (c.raised.ensures ∙ ap (λ (b : Bool). raised b (slice_index s.works e.entry.step.cpu.0)) c.is_accepted_work-works.ensures) s.rest in
    ap (λ (xs : List ℕ). record { rules = occupancy_rules; state = xs }) state
