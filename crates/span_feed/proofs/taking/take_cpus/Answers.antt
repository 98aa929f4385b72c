use Rattle.std.proofs.Common.{◌≡◌, ◌∙◌, ◌<◌, length, map, sym, arith}
use Rattle.std.proofs.lemmas.List.{length-map}
use Rattle.chart_rows.proofs.Changed.{changed-all, changed-at, changed-more}
use Rattle.event_lines.specs.Shown.{cpu_track_shown}
use Rattle.span_feed.specs.Spanned.{cpu_cleared, cpu_more}
use Rattle.span_feed.proofs.Pairs.{paired-all, paired-more}
use Rattle.span_feed.proofs.taking.take_cpus.Goals as goal

pub loop-i-preserved : goal.loop-i-preserved
loop-i-preserved c =
    let read = changed-at cpu_cleared c.args.rows.now c.loop-i.rows c.loop-i.i c.index-rows-i.result c.loop-i-test.true c.loop-i.invariant.0 c.index-rows-i.is in
    let below : c.loop-i.i < length c.loop-i.tracks = omega (arith, c.loop-i-test.true, c.requires, c.loop-i.auto.tracks) in
    let long : length (map cpu_track_shown c.args.tracks.now) ≡ length c.loop-i.tracks = length-map c.args.tracks.now cpu_track_shown ∙ sym c.loop-i.auto.tracks in
    let made = c.in_ok-take_cpu.ensures.track ∙ (λ j. cpu_more c.args.from c.args.to (sym c.index-rows-i.is j) (cpu_track_shown (sym c.index-tracks-i.is j))) in (
      changed-more cpu_cleared c.args.rows.now c.loop-i.rows c.loop-i.i c.index-rows-i.result c.take_cpu.new.row c.loop-i-test.true c.loop-i.invariant.0 c.index-rows-i.is c.in_ok-take_cpu.ensures.row,
      paired-more (cpu_more c.args.from c.args.to) cpu_track_shown c.loop-i.i c.args.rows.now (map cpu_track_shown c.args.tracks.now) c.loop-i.tracks c.index-rows-i.result c.index-tracks-i.result c.take_cpu.new.track
          c.loop-i-test.true below long c.loop-i.invariant.1 read c.index-tracks-i.is made,
    )

pub returns-clause-rows : goal.returns-clause-rows
returns-clause-rows c = c.loop-i.invariant.0 ∙ changed-all cpu_cleared c.args.rows.now c.loop-i.i c.loop-i-test.false

pub returns-clause-tracks : goal.returns-clause-tracks
returns-clause-tracks c = c.loop-i.invariant.1 ∙ paired-all (cpu_more c.args.from c.args.to) c.loop-i.i c.args.rows.now (map cpu_track_shown c.args.tracks.now) c.loop-i-test.false
