use Rattle.explain_command.proofs.AgreeLaws.{agrees-check, agrees-sim}
use Rattle.explain_command.proofs.refuses_as_they_do.Goals as goal

pub returns : goal.returns
returns c = record { check = agrees-check; sim = agrees-sim }
