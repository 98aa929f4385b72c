use Rattle.set_laws.proofs.CanonicalLaws.{canonical-apart}
use Rattle.set_laws.proofs.canonical_tells_apart.Goals as goal

pub returns : goal.returns
returns c = λ p q h k. canonical-apart c.args.first.now c.args.second.now p q h k
