use Rattle.std.proofs.Common.{◌≡◌, ℕ, List, map, refl, sym, ◌∙◌, subst}
use Rattle.std.proofs.lemmas.Simd.{map-map}
use Rattle.trace_lines.specs.declared.format.Version.TheVariants.{Two}
use Rattle.trace_text.specs.CountLines.{counted_text}
use Rattle.trace_tools.specs.BusCounters.{counters}
use Rattle.trace_tools.specs.Counters.{counter_of}
use Rattle.trace_tools.specs.Tools.{Tool}
use Rattle.trace_check.specs.Counts.{HasCounts}
use Rattle.trace_check.specs.Verdicts.{HasShown, IsVerdict}
use Rattle.trace_check.specs.declared.verdict.Verdict.{Verdict}
use Rattle.set_input.specs.Ends.{writing}
use Rattle.sim_commands.specs.Upgrade.{HasWritten}
use Rattle.sim_commands.proofs.UpgradeLaws.{head-tells, own-upgrade, text-upgrade, written-read, written-right, written-upgraded}
use Rattle.sim_commands.proofs.upgrade.upgrade_valid.Goals as goal

pub returns-in-Invalid-clause-upgraded : goal.returns-in-Invalid-clause-upgraded
returns-in-Invalid-clause-upgraded g c =
    let h = c.args.head.now in
    let tools : List Tool = map g.T.TraceTool.tool c.args.tools.items in
    let opened : counters g.T.TraceTool.tool c.in-Ok.bus ≡ map counter_of tools = c.in-Ok.ensures ∙ sym (map-map counter_of g.T.TraceTool.tool c.args.tools.items) in
    (subst (IsVerdict tools h.version h.setup c.args.bytes.now) c.in-Invalid.is (c.in-Ok-check_counted.ensures.verdict tools opened), refl)

pub returns-then-is_upgraded : goal.returns-then-is_upgraded
returns-then-is_upgraded g c =
    let h = c.args.head.now in
    let bytes = c.args.bytes.now in
    let checked = c.in-Ok-check_counted.checked in
    let entries = c.in-Valid.field-0 in
    let tools : List Tool = map g.T.TraceTool.tool c.args.tools.items in
    let opened : counters g.T.TraceTool.tool c.in-Ok.bus ≡ map counter_of tools = c.in-Ok.ensures ∙ sym (map-map counter_of g.T.TraceTool.tool c.args.tools.items) in
    let is = subst (IsVerdict tools h.version h.setup bytes) c.in-Valid.is (c.in-Ok-check_counted.ensures.verdict tools opened) in
    let counts = subst (λ (v : Verdict). HasCounts tools h.version h.setup bytes v checked.counted) c.in-Valid.is (c.in-Ok-check_counted.ensures.counted tools opened) in
    let same = own-upgrade tools bytes h.version h.setup entries c.requires.valid is checked.counted counts (c.is_upgraded.ensures c.if-is_upgraded.true) in
    let sink = writing g.K.Sink.held g.K.Sink.faults c.args.out.now c.write_same.new.out in
    let text = counted_text Two tools h.setup is.histories in
    let written : HasWritten text sink c.write_same.result = subst (λ (t : List ℕ). HasWritten t sink c.write_same.result) same c.write_same.ensures.written in
    record {
      upgraded = written-upgraded tools h.version h.setup bytes text sink c.write_same.result (text-upgrade tools bytes h.version h.setup entries c.requires.valid is) written;
      wrong_unwritten = λ line wrong. absurd (written-right text sink c.write_same.result line written wrong);
      read = written-read text sink c.write_same.result written;
      write_fault = c.write_same.ensures.write_fault;
      no_write_fault = c.write_same.ensures.no_write_fault;
    }

pub write_upgrade-requires-clause-says : goal.write_upgrade-requires-clause-says
write_upgrade-requires-clause-says g c =
    let h = c.args.head.now in
    let tools : List Tool = map g.T.TraceTool.tool c.args.tools.items in
    let opened : counters g.T.TraceTool.tool c.in-Ok.bus ≡ map counter_of tools = c.in-Ok.ensures ∙ sym (map-map counter_of g.T.TraceTool.tool c.args.tools.items) in
    let is = subst (IsVerdict tools h.version h.setup c.args.bytes.now) c.in-Valid.is (c.in-Ok-check_counted.ensures.verdict tools opened) in
    (is.histories, head-tells tools c.args.bytes.now h c.in-Valid.field-0 c.requires.valid is)

pub returns : goal.returns
returns g c =
    let h = c.args.head.now in
    let bytes = c.args.bytes.now in
    let entries = c.in-Valid.field-0 in
    let tools : List Tool = map g.T.TraceTool.tool c.args.tools.items in
    let opened : counters g.T.TraceTool.tool c.in-Ok.bus ≡ map counter_of tools = c.in-Ok.ensures ∙ sym (map-map counter_of g.T.TraceTool.tool c.args.tools.items) in
    let is = subst (IsVerdict tools h.version h.setup bytes) c.in-Valid.is (c.in-Ok-check_counted.ensures.verdict tools opened) in
    let shown = subst (HasShown tools h.version h.setup bytes (counters g.T.TraceTool.tool c.check_counted.new.bus)) c.in-Valid.is (c.in-Ok-check_counted.ensures.shown tools opened) in
    let text = counted_text Two tools h.setup is.histories in
    let sink = writing g.K.Sink.held g.K.Sink.faults c.args.out.now c.write_upgrade.new.out in
    let written = c.write_upgrade.ensures.written is.histories tools (head-tells tools bytes h entries c.requires.valid is) (shown is) in
    record {
      upgraded = written-upgraded tools h.version h.setup bytes text sink c.write_upgrade.result (text-upgrade tools bytes h.version h.setup entries c.requires.valid is) written;
      wrong_unwritten = λ line wrong. absurd (written-right text sink c.write_upgrade.result line written wrong);
      read = written-read text sink c.write_upgrade.result written;
      write_fault = c.write_upgrade.ensures.write_fault;
      no_write_fault = c.write_upgrade.ensures.no_write_fault;
    }
