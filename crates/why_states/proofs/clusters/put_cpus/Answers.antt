use Rattle.std.proofs.Common.{◌≡◌, ◌∙◌, ℕ, ◌+◌, ◌-◌, ◌++◌, append-nil, sym, ap, arith}
use Rattle.std.specs.Prelude.{flat_map}
use Rattle.rt_rules.specs.Numbers.{numbers_from}
use Rattle.rt_rules.proofs.NumberLaws.{numbers_from-has}
use Rattle.why_texts.specs.ClusterLines.{cpu_line}
use Rattle.why_states.proofs.Rows.{number-next}
use Rattle.why_states.specs.States.{IsAt, group_of}
use Rattle.why_states.proofs.clusters.put_cpus.Goals as goal

pub loop-q-init : goal.loop-q-init
loop-q-init c = λ past is.
    let none : c.args.first - c.args.first ≡ 0 = omega arith in
    sym (append-nil c.args.out.now.items) ∙ ap (λ n. c.args.out.now.items ++ flat_map (λ q. cpu_line (group_of c.args.state.now) q past) (numbers_from c.args.first n)) (sym none)

pub put_cpu-requires-clause-cpu : goal.put_cpu-requires-clause-cpu
put_cpu-requires-clause-cpu c = c.requires.cpus c.loop-q.q (numbers_from-has c.args.first c.args.count c.loop-q.q c.loop-q.auto.q c.loop-q-test.true)

pub loop-q-preserved : goal.loop-q-preserved
loop-q-preserved c = λ past is.
    let first = c.args.first in
    let q = c.loop-q.q in
    let line = λ (n : ℕ). cpu_line (group_of c.args.state.now) n past in
    let here : first + (q - first) ≡ q = omega (arith, c.loop-q.auto.q) in
    let more : q - first + 1 ≡ q + 1 - first = omega (arith, c.loop-q.auto.q) in
    number-next first (q - first) line c.args.out.now.items c.loop-q.out.items c.put_cpu.new.out.items (c.loop-q.invariant past is) (c.in_ok-put_cpu.ensures past is ∙ ap (λ n. c.loop-q.out.items ++ line n) (sym here))
    ∙ ap (λ n. c.args.out.now.items ++ flat_map line (numbers_from first n)) more

pub returns : goal.returns
returns c = λ past is.
    let all : c.loop-q.q - c.args.first ≡ c.args.count = omega (arith, c.loop-q-test.false, c.loop-q.auto.q, c.loop-q.auto.q-end) in
    c.loop-q.invariant past is ∙ ap (λ n. c.args.out.now.items ++ flat_map (λ q. cpu_line (group_of c.args.state.now) q past) (numbers_from c.args.first n)) all
