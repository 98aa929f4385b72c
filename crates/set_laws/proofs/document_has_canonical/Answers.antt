use Rattle.set_laws.proofs.CanonicalLaws.{document-canonical}
use Rattle.set_laws.proofs.document_has_canonical.Goals as goal

pub returns : goal.returns
returns c = λ p h. document-canonical c.args.document.now p h
