use Rattle.std.proofs.Common.{◌≡◌, ℕ, ◌≤◌, length, ap, ◌∙◌, refl, arith}
use Rattle.std.specs.Prelude.{Option, None, replicate}
use Rattle.rt_base.specs.TaskNos.{numbers_of_tasks}
use Rattle.rt_base.specs.declared.TheConstants.{MOST_RESVS}
use Rattle.rt_task.specs.declared.Parts.{Parts}
use Rattle.rt_plays.proofs.SetLimits.{sets_are_in_limits}
use Rattle.resv_core.specs.Served.{Served}
use Rattle.group_resvs.proofs.NobodyServed.{numbers-nobody, opened-count}
use Rattle.group_resvs.proofs.TouchedLaws.{settled_but-many}
use Rattle.group_resvs.proofs.GroupResvs.open.Goals as goal

pub invariant_of-result : goal.invariant_of-result
invariant_of-result c =
    let servers : length c.in_ok-resvs.resvs.servers ≡ length c.args.setup.now.resvs = ap (λ (v : Served). length v.servers) c.in_ok-resvs.ensures ∙ opened-count c.args.setup.now c.args.group.0 in
    let count : length c.as_slice-count.result.now ≡ length c.args.setup.now.resvs = ap length c.as_slice-count.ensures ∙ ap (λ (p : Parts). length p.resvs) c.parts.ensures.parts in
    let few : length c.args.setup.now.resvs ≤ MOST_RESVS = (sets_are_in_limits c.args.setup.now c.parts.ensures.valid).few_resvs in (
      omega (arith, servers, few),
      omega (arith, servers, count, c.in_ok-serves.ensures.len),
      omega (arith, servers, count, c.in_ok-serves.ensures.capacity),
      omega (arith, servers, count, c.in_ok-before.ensures.capacity),
      omega (arith, servers, count, c.in_ok-changed.ensures.capacity),
      settled_but-many c.in_ok-resvs.resvs (numbers_of_tasks c.in_ok-serves.serves.items),
    )

pub returns : goal.returns
returns c =
    let count : length c.as_slice-count.result.now ≡ length c.args.setup.now.resvs = ap length c.as_slice-count.ensures ∙ ap (λ (p : Parts). length p.resvs) c.parts.ensures.parts in
    let serves : numbers_of_tasks c.in_ok-serves.serves.items ≡ replicate (length c.args.setup.now.resvs) None =
    ap numbers_of_tasks c.in_ok-serves.ensures.items ∙ numbers-nobody (length c.as_slice-count.result.now) ∙ ap (λ n. replicate {A = Option ℕ} n None) count in
    rw (c.in_ok-resvs.ensures, serves, c.in_ok-changed.ensures.items) refl
