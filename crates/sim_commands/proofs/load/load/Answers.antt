use Rattle.std.proofs.Common.{◌≡◌, ℕ, List, map, Ok, Err, subst}
use Rattle.rt_task.specs.declared.Parts.{Parts}
use Rattle.rt_fault.specs.declared.status.Status.TheVariants as ends
use Rattle.load_set.specs.Load.{load_of}
use Rattle.trace_lines.specs.declared.format.Version.TheVariants.{Two}
use Rattle.trace_lines.specs.Known.{known_of}
use Rattle.trace_tools.specs.BusCounters.{counters}
use Rattle.trace_writer.proofs.CameLaws.{CameFrom}
use Rattle.trace_writer.specs.declared.stop.WriteStop.TheVariants as stops
use Rattle.set_input.specs.Ends.{writing}
use Rattle.sim_commands.specs.Load.{load_text}
use Rattle.sim_commands.proofs.LoadLaws.{came-wrote, load-text, load-wrote}
use Rattle.sim_commands.proofs.load.load.Goals as goal

pub returns-in-Ok-write_load-clause-answers : goal.returns-in-Ok-write_load-clause-answers
returns-in-Ok-write_load-clause-answers g c =
    let p : Parts = c.in-Ok.setup in
    let made : p ≡ load_of c.args.n = c.in-Ok.ensures.set in
    let text = load-text g.T.TraceTool.tool c.args.tools.items c.args.n p c.in-Ok-summarize.summary (counters g.T.TraceTool.tool c.in-Ok-open.bus) (counters g.T.TraceTool.tool c.summarize.new.bus) made
    c.in-Ok-summarize.ensures.summary c.in-Ok-open.ensures c.in-Ok-summarize.ensures.shown in
    load-wrote (map g.T.TraceTool.tool c.args.tools.items) c.args.n (writing g.K.Sink.held g.K.Sink.faults c.args.out.now c.write_load.new.out) ends.Ok c.in-Ok.ensures.valid
    (came-wrote (Ok tt) (writing g.K.Sink.held g.K.Sink.faults c.args.out.now c.write_load.new.out) (load_text (map g.T.TraceTool.tool c.args.tools.items) c.args.n)
    (subst (λ (xs : List ℕ). CameFrom (Ok tt) (g.K.Sink.held c.args.out.now) (g.K.Sink.held c.write_load.new.out) (g.K.Sink.faults c.args.out.now) (g.K.Sink.faults c.write_load.new.out) xs) text (c.in-Ok-write_load.ensures (known_of Two p))))

pub returns-in-Ok-write_load-clause-no_write_fault : goal.returns-in-Ok-write_load-clause-no_write_fault
returns-in-Ok-write_load-clause-no_write_fault g c = λ _. let p : Parts = c.in-Ok.setup in (c.in-Ok-write_load.ensures (known_of Two p)).1

pub returns-in-Err-Fault-clause-answers : goal.returns-in-Err-Fault-clause-answers
returns-in-Err-Fault-clause-answers g c =
    let p : Parts = c.in-Ok.setup in
    let made : p ≡ load_of c.args.n = c.in-Ok.ensures.set in
    let text = load-text g.T.TraceTool.tool c.args.tools.items c.args.n p c.in-Ok-summarize.summary (counters g.T.TraceTool.tool c.in-Ok-open.bus) (counters g.T.TraceTool.tool c.summarize.new.bus) made
    c.in-Ok-summarize.ensures.summary c.in-Ok-open.ensures c.in-Ok-summarize.ensures.shown in
    load-wrote (map g.T.TraceTool.tool c.args.tools.items) c.args.n (writing g.K.Sink.held g.K.Sink.faults c.args.out.now c.write_load.new.out) ends.WriteFault c.in-Ok.ensures.valid
    (came-wrote (Err stops.Fault) (writing g.K.Sink.held g.K.Sink.faults c.args.out.now c.write_load.new.out) (load_text (map g.T.TraceTool.tool c.args.tools.items) c.args.n)
    (subst (λ (xs : List ℕ). CameFrom (Err stops.Fault) (g.K.Sink.held c.args.out.now) (g.K.Sink.held c.write_load.new.out) (g.K.Sink.faults c.args.out.now) (g.K.Sink.faults c.write_load.new.out) xs) text (rw c.in-Err-Fault.field-0-is at c.in-Err-Fault.ensures (known_of Two p))))

pub returns-in-Err-Fault-clause-write_fault : goal.returns-in-Err-Fault-clause-write_fault
returns-in-Err-Fault-clause-write_fault g c = λ _. let p : Parts = c.in-Ok.setup in let came = rw c.in-Err-Fault.field-0-is at c.in-Err-Fault.ensures (known_of Two p) in came.2

pub returns-clause-answers : goal.returns-clause-answers
returns-clause-answers g c =
    let p : Parts = c.in-Ok.setup in
    let made : p ≡ load_of c.args.n = c.in-Ok.ensures.set in
    let text = load-text g.T.TraceTool.tool c.args.tools.items c.args.n p c.in-Ok-summarize.summary (counters g.T.TraceTool.tool c.in-Ok-open.bus) (counters g.T.TraceTool.tool c.summarize.new.bus) made
    c.in-Ok-summarize.ensures.summary c.in-Ok-open.ensures c.in-Ok-summarize.ensures.shown in
    load-wrote (map g.T.TraceTool.tool c.args.tools.items) c.args.n (writing g.K.Sink.held g.K.Sink.faults c.args.out.now c.write_load.new.out) ends.NoMemory c.in-Ok.ensures.valid
    (came-wrote (Err stops.NoMemory) (writing g.K.Sink.held g.K.Sink.faults c.args.out.now c.write_load.new.out) (load_text (map g.T.TraceTool.tool c.args.tools.items) c.args.n)
    (subst (λ (xs : List ℕ). CameFrom (Err stops.NoMemory) (g.K.Sink.held c.args.out.now) (g.K.Sink.held c.write_load.new.out) (g.K.Sink.faults c.args.out.now) (g.K.Sink.faults c.write_load.new.out) xs) text (rw c.in-Err-NoMemory.field-0-is at c.in-Err-NoMemory.ensures (known_of Two p))))

pub returns-clause-no_write_fault : goal.returns-clause-no_write_fault
returns-clause-no_write_fault g c = λ _. let p : Parts = c.in-Ok.setup in let came = rw c.in-Err-NoMemory.field-0-is at c.in-Err-NoMemory.ensures (known_of Two p) in came.1
