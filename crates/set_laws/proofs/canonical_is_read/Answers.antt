use Rattle.set_laws.proofs.CanonicalLaws.{set-of-canonical}
use Rattle.set_laws.proofs.canonical_is_read.Goals as goal

pub returns : goal.returns
returns c = set-of-canonical c.args.setup.now c.parts-parts.ensures.valid
