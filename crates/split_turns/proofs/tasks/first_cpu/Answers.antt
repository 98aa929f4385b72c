use Rattle.std.proofs.Common.{◌+◌, ◌≤◌, length, get_or, sym, ap, ◌∙◌, arith}
use Rattle.rt_task.specs.declared.Cluster.{Cluster}
use Rattle.split_turns.proofs.ListLaws.{first-more, first-none, first-past, first-within}
use Rattle.split_turns.proofs.tasks.first_cpu.Goals as goal

pub loop-c-init : goal.loop-c-init
loop-c-init c = record { first = sym (first-none c.args.rows.now); early = omega arith }

pub overflow_add-first : goal.overflow_add-first
overflow_add-first c =
    let d : Cluster = record { cpus = 0; group = record { 0 = 0 } } in
    let within = first-within c.args.rows.now c.loop-c.c d c.loop-c-test.true in
    omega (arith, within, c.loop-c.invariant.first, c.requires)

pub loop-c-preserved : goal.loop-c-preserved
loop-c-preserved c =
    let d : Cluster = record { cpus = 0; group = record { 0 = 0 } } in
    let early = c.loop-c.invariant.early in
    let other = c.if-c-cluster.false in
    record {
      first = sym (first-more c.args.rows.now c.loop-c.c d c.loop-c-test.true ∙ ap (λ m. m + (get_or c.args.rows.now c.loop-c.c d).cpus) (sym c.loop-c.invariant.first));
      early = omega (arith, early, other);
    }

pub returns-after-loop-c : goal.returns-after-loop-c
returns-after-loop-c c =
    let past : length c.args.rows.now ≤ c.loop-c.c = omega (arith, c.loop-c-test.false) in
    let early = c.loop-c.invariant.early in
    c.loop-c.invariant.first ∙ first-past c.args.rows.now c.loop-c.c c.args.cluster past (omega (arith, past, early))
