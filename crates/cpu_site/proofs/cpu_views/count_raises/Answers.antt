use Rattle.std.proofs.Common.{◌≡◌, ◌<◌, ◌≤◌, length, get_or, sym, ap, ◌∙◌, subst, arith}
use Rattle.std.proofs.lemmas.Grind.{get_or_default_zero}
use Rattle.rt_plays.specs.Groups.{group_of, past}
use Rattle.cpu_site.specs.Raises.{cpu_count, is_raised, IsCpuView}
use Rattle.cpu_site.proofs.Numbering.{cpu-listed, cpu-read, cpus-read}
use Rattle.cpu_site.proofs.CpuViewLaws.{counted-none, counted-one}
use Rattle.cpu_site.proofs.cpu_views.count_raises.Goals.{then-is_raised, else-is_raised}
use Rattle.cpu_site.proofs.cpu_views.count_raises.Goals as goal

pub cpu_view_of-now-requires : goal.cpu_view_of-now-requires
cpu_view_of-now-requires c = cpu-listed (group_of c.args.player.now) c.args.cpus.now c.loop-i.i (record { 0 = 0 }) c.requires.cpus c.loop-i-test.true

pub overflow_add-index_mut : goal.overflow_add-index_mut
overflow_add-index_mut c =
    let here : c.loop-i.i < length c.loop-i.counts.items = omega (arith, c.loop-i-test.true, c.requires.counts, c.loop-i.invariant.all) in
    let value : c.index_mut.result.now ≡ get_or c.loop-i.counts.items c.loop-i.i 0 = c.index_mut.ensures.value ∙ get_or_default_zero c.loop-i.counts.items c.loop-i.i c.index_mut.result.now here in
    let same = c.loop-i.invariant.rest c.loop-i.i (omega arith) in
    let few = c.requires.few c.loop-i.i 0 (omega (arith, c.loop-i-test.true, c.requires.counts)) in
    let small : c.index_mut.result.now ≤ 4294967296 = omega (arith, value, same, few) in
    search (arith, small)

pub loop-i-preserved : goal.loop-i-preserved
loop-i-preserved c =
    let all : length c.args.cpu_views.now.items ≡ cpu_count (group_of c.args.player.now) = c.requires.cpu_views ∙ cpus-read (group_of c.args.player.now) c.args.cpus.now c.requires.cpus in
    let same : length c.args.counts.now.items ≡ length c.args.cpu_views.now.items = c.requires.counts ∙ sym c.requires.cpu_views in
    let low : c.loop-i.i < cpu_count (group_of c.args.player.now) = omega (arith, c.loop-i-test.true, c.requires.cpu_views, all) in
    let this = subst (λ q. IsCpuView (group_of c.args.player.now) q (past c.args.player.now) c.cpu_view_of-now.result) (sym (cpu-read (group_of c.args.player.now) c.args.cpus.now c.loop-i.i (record { 0 = 0 }) c.requires.cpus c.loop-i-test.true)) c.cpu_view_of-now.ensures in
    let read : is_raised c.cpu_view_of-now.result (get_or c.loop-i.cpu_views.items c.loop-i.i c.index.result.now) ≡ c.is_raised.result = ap (is_raised c.cpu_view_of-now.result) (sym c.index.ensures) ∙ sym c.is_raised.ensures in
    elim c.if-is_raised.branch [
      | then-is_raised w ↦
          let here : c.loop-i.i < length c.loop-i.counts.items = omega (arith, c.loop-i-test.true, c.requires.counts, c.loop-i.invariant.all) in
          let value : w.index_mut.result.now ≡ get_or c.loop-i.counts.items c.loop-i.i 0 = w.index_mut.ensures.value ∙ get_or_default_zero c.loop-i.counts.items c.loop-i.i _ here in
          let one = counted-one (group_of c.args.player.now) (past c.args.player.now) c.args.cpu_views.now.items c.loop-i.cpu_views.items c.args.counts.now.items c.loop-i.counts.items c.loop-i.i c.loop-i.invariant all same low c.cpu_view_of-now.result this c.index.result.now (read ∙ w.if-is_raised.true) in
          rw (w.counts-is, value) one
      | else-is_raised w ↦
          let none = counted-none (group_of c.args.player.now) (past c.args.player.now) c.args.cpu_views.now.items c.loop-i.cpu_views.items c.args.counts.now.items c.loop-i.counts.items c.loop-i.i c.loop-i.invariant all same low c.cpu_view_of-now.result this c.index.result.now (read ∙ w.if-is_raised.false) in
          rw w.counts-is none
    ]
