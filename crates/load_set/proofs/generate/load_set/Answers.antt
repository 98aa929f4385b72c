use Rattle.load_set.proofs.LoadRules.{load_of-kept, load_of-valid}
use Rattle.load_set.proofs.generate.load_set.Goals as goal

pub returns-in_err-parts-clause-valid : goal.returns-in_err-parts-clause-valid
returns-in_err-parts-clause-valid c = load_of-valid c.args.n

pub unreachable-requires : goal.unreachable-requires
unreachable-requires c = load_of-kept c.args.n c.in_ok-parts.parts c.in-Err-Bad.field-0-0 c.in_ok-parts.ensures (rw c.in-Err-Bad.field-0-is at c.in-Err-Bad.ensures)

pub returns-in-Err-NoMemory-clause-valid : goal.returns-in-Err-NoMemory-clause-valid
returns-in-Err-NoMemory-clause-valid c = load_of-valid c.args.n
