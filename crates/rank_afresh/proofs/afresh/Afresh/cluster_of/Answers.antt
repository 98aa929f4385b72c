use Rattle.std.proofs.Common.{◌∙◌}
use Rattle.rank_afresh.specs.Standing.{group_of}
use Rattle.rank_afresh.proofs.Standings.{home-is}
use Rattle.rank_afresh.proofs.afresh.Afresh.cluster_of.Goals as goal

pub returns-clause-cluster : goal.returns-clause-cluster
returns-clause-cluster c = c.home.ensures.home ∙ home-is (group_of c.args.self.now) c.args.cpu.0
