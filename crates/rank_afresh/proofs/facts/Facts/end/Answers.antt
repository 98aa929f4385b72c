use Rattle.std.proofs.Common.{◌≡◌, Bool, List, sym, ap, ◌∙◌, subst}
use Rattle.rt_base.specs.TaskNos.{numbers}
use Rattle.rt_base.specs.declared.TaskNo.{TaskNo}
use Rattle.rt_task.specs.declared.Parts.{Parts}
use Rattle.group_resvs.specs.GroupResvs.{GroupResvs, IsSettled}
use Rattle.group_core.specs.Facts as core
use Rattle.group_core.specs.Facts.{told_all}
use Rattle.rank_afresh.specs.Facts.{AreMarked, CanEnd, Facts, HasEnded, WithRoom}
use Rattle.rank_afresh.specs.Clusters.{ClusterFacts}
use Rattle.rank_afresh.specs.Ranks.{AreTasks}
use Rattle.rank_afresh.proofs.Moving.{ended-of, task-of}
use Rattle.rank_afresh.proofs.facts.Facts.end.Goals as goal

pub tell_all-requires : goal.tell_all-requires
tell_all-requires c =
    let can : CanEnd c.args.parts.now _ = subst (λ (w : WithRoom). CanEnd c.args.parts.now w.facts) (sym c.self.view_is) c.requires.can in
    λ t h. task-of c.args.parts.now c.self.inside.core.facts.kept t can.renew.read (can.looked_are t (rw c.as_slice.ensures.value at h))

pub keep_moments-requires-clause-looked : goal.keep_moments-requires-clause-looked
keep_moments-requires-clause-looked c =
    let can : CanEnd c.args.parts.now _ = subst (λ (w : WithRoom). CanEnd c.args.parts.now w.facts) (sym c.self.view_is) c.requires.can in
    subst (AreTasks c.args.parts.now) (sym (ap (λ (w : WithRoom). w.facts.looked) c.renew_clusters.ensures.rest)) can.looked_are

pub returns-clause-ended : goal.returns-clause-ended
returns-clause-ended c =
    let p : Parts = c.args.parts.now in
    let x : core.Facts = c.self.inside.core.facts in
    let f : Facts = record {
      kept = x.kept;
      sems = x.sems;
      resvs = x.resvs;
      clusters = c.self.inside.clusters.items;
      moments = c.self.inside.moments;
      looked = numbers c.self.inside.looked.items;
    } in
    let told : c.tell_all.new.self.facts.resvs ≡ (told_all p f.looked x).resvs = ap (λ (w : core.WithRoom). w.facts.resvs) c.tell_all.ensures ∙ ap (λ (us : List TaskNo). (told_all p (numbers us) x).resvs) c.as_slice.ensures.value in
    let ended : HasEnded p f c.keep_moments.new.self.facts =
    ended-of p f c.settle.new.self.facts c.settle.new.self.room c.renew_clusters.new.self c.keep_moments.new.self
    (c.settle.ensures.kept ∙ ap (λ (w : core.WithRoom). w.facts.kept) c.tell_all.ensures)
    (c.settle.ensures.sems ∙ ap (λ (w : core.WithRoom). w.facts.sems) c.tell_all.ensures)
    (subst (λ (w : GroupResvs). IsSettled w c.settle.new.self.facts.resvs) told c.settle.ensures.settled)
    c.renew_clusters.ensures.clusters c.renew_clusters.ensures.count c.renew_clusters.ensures.rest c.keep_moments.ensures in
    subst (λ (w : WithRoom). HasEnded p w.facts c.keep_moments.new.self.facts) c.self.view_is ended

pub returns-clause-marked : goal.returns-clause-marked
returns-clause-marked c =
    let marks : List Bool = c.args.placed.now in
    let marks' : List Bool = c.renew_clusters.new.placed in
    let same = ap (λ (w : WithRoom). w.facts.clusters) c.keep_moments.ensures in
    subst (λ (w : WithRoom). AreMarked w.facts.clusters c.keep_moments.new.self.facts.clusters marks marks') c.self.view_is
    (subst (λ (cs : List ClusterFacts). AreMarked c.self.inside.clusters.items cs marks marks') (sym same) c.renew_clusters.ensures.marked)
