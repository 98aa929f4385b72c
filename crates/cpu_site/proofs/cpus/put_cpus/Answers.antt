use Rattle.std.proofs.Common.{◌≡◌, ◌+◌, ◌++◌, ◌∷◌, [], ap, ◌∙◌, rules}
use Rattle.cpu_site.specs.Cpus.{cpu_numbers}
use Rattle.cpu_site.proofs.CpuLaws.{numbers_more, cpu_numbers_push}
use Rattle.cpu_site.proofs.cpus.put_cpus.Goals as goal

pub loop-q-preserved : goal.loop-q-preserved
loop-q-preserved c =
    let pushed : c.push.new.self.items ≡ c.loop-q.cpus.items ++ record { 0 = c.loop-q.q } ∷ [] = search rules in
    let numbers : cpu_numbers c.push.new.self.items ≡ cpu_numbers c.loop-q.cpus.items ++ c.loop-q.q ∷ [] = ap cpu_numbers pushed ∙ cpu_numbers_push c.loop-q.cpus.items c.loop-q.q in
    rw numbers (numbers_more (cpu_numbers c.loop-q.cpus.items) c.loop-q.q (c.args.first + c.args.count) c.loop-q-test.true ∙ c.loop-q.invariant)
