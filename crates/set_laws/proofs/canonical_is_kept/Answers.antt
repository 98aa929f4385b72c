use Rattle.set_laws.proofs.CanonicalLaws.{canonical-kept}
use Rattle.set_laws.proofs.canonical_is_kept.Goals as goal

pub returns : goal.returns
returns c = λ q h. canonical-kept c.args.setup.now q c.parts-parts.ensures.valid h
