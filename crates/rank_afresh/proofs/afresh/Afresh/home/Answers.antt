use Rattle.std.proofs.Common.{◌≡◌, ℕ, ◌<◌, ◌≤◌, List, length, get_or, sym, ap, ◌∙◌, subst, arith}
use Rattle.rt_base.specs.declared.TheConstants.{MOST_CLUSTERS}
use Rattle.rt_plays.proofs.SetLimits.{sets_are_in_limits}
use Rattle.rt_plays.specs.Homes.{IsProcessorOf}
use Rattle.rank_afresh.specs.contracts.afresh.Afresh.{the_view}
use Rattle.rank_afresh.specs.Facts.{home_of}
use Rattle.rank_afresh.specs.Homes.{homes_from}
use Rattle.rank_afresh.specs.Standing.{Standing, group_of}
use Rattle.rank_afresh.proofs.Homes.{home-at, length-homes}
use Rattle.rank_afresh.proofs.Standings.{cpu-low, home-inside}
use Rattle.rank_afresh.proofs.afresh.Afresh.home.Goals as goal

pub index-requires : goal.index-requires
index-requires c =
    let of = subst (λ (v : Standing). IsProcessorOf (group_of v) c.args.cpu.0) (sym c.self.view_is) c.requires in
    let low = cpu-low (the_view c.self.inside) _ c.self.invariant.0 c.args.cpu.0 of in
    omega (arith, low, ap length c.self.invariant.1, length-homes 0 c.self.inside.setup.clusters, c.self.inside.homes.ok.0)

pub returns-clause-home : goal.returns-clause-home
returns-clause-home c =
    let of = subst (λ (v : Standing). IsProcessorOf (group_of v) c.args.cpu.0) (sym c.self.view_is) c.requires in
    let low = cpu-low (the_view c.self.inside) _ c.self.invariant.0 c.args.cpu.0 of in
    let d : ℕ = c.index.result.now in
    let at : get_or (homes_from 0 c.self.inside.setup.clusters) c.args.cpu.0 d ≡ home_of c.self.inside.setup c.args.cpu.0 =
    home-at 0 c.self.inside.setup.clusters c.args.cpu.0 d low ∙ omega arith in
    c.index.ensures ∙ ap (λ (hs : List ℕ). get_or hs c.args.cpu.0 d) c.self.invariant.1 ∙ at ∙ ap (λ (v : Standing). home_of v.setup c.args.cpu.0) c.self.view_is

pub returns-clause-inside : goal.returns-clause-inside
returns-clause-inside c =
    let of = subst (λ (v : Standing). IsProcessorOf (group_of v) c.args.cpu.0) (sym c.self.view_is) c.requires in
    let low = home-inside (the_view c.self.inside) _ c.self.invariant.0 c.args.cpu.0 of in
    let d : ℕ = c.index.result.now in
    let at : get_or (homes_from 0 c.self.inside.setup.clusters) c.args.cpu.0 d ≡ home_of c.self.inside.setup c.args.cpu.0 =
    home-at 0 c.self.inside.setup.clusters c.args.cpu.0 d (cpu-low (the_view c.self.inside) _ c.self.invariant.0 c.args.cpu.0 of) ∙ omega arith in
    subst (λ (v : Standing). d < length v.setup.clusters) c.self.view_is
    (subst (λ n. n < length c.self.inside.setup.clusters) (sym (c.index.ensures ∙ ap (λ (hs : List ℕ). get_or hs c.args.cpu.0 d) c.self.invariant.1 ∙ at)) low)

pub returns-clause-few : goal.returns-clause-few
returns-clause-few c =
    subst (λ (v : Standing). length v.setup.clusters ≤ MOST_CLUSTERS) c.self.view_is (sets_are_in_limits c.self.inside.setup c.self.invariant.0.core_fit.valid).few_clusters
