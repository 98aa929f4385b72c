-- Only placing changes links: neither looking at tasks nor what a processor comes to run does.
use Rattle.std.proofs.Common.{◌≡◌, ◌≢◌, ℕ, ◌-◌, ◌⊎◌, inl, inr, Bool, true, false, not, ◌&&◌, List, [], ◌∷◌, ◌++◌, refl, sym, ap, ◌∙◌}
use Rattle.std.specs.Prelude.{None, Option, Some, if◌then◌else◌, option_map, slice_index}
use Rattle.std.proofs.lemmas.Bool.{cases_eq}
use Rattle.std.proofs.lemmas.List.{same_from_push}
use Rattle.rt_base.specs.declared.ClusterNo.{ClusterNo}
use Rattle.rt_rules.specs.declared.history.Entry.{Entry}
use Rattle.rt_rules.specs.declared.history.Reply.{Reply}
use Rattle.rt_task.specs.declared.Act.{Act}
use Rattle.rt_task.specs.declared.Act.TheVariants as acts
use Rattle.rt_task.specs.declared.Parts.{Parts}
use Rattle.rt_rules.specs.Placing.{link_at}
use Rattle.rt_model.specs.Group.{Group, cluster_with, first_cpu}
use Rattle.rt_model.specs.Histories.{past_of}
use Rattle.rt_model.specs.Links.{linked, links}
use Rattle.rt_model.specs.Past.{Past, accepted}
use Rattle.rt_plays.specs.Homes.{IsProcessorOf}
use Rattle.rt_plays.proofs.AtHomeLaws.{processors_are_at_home}
use Rattle.link_table.specs.Linked.{Linked, after_irq, is_deferred, is_pending, link_of, with_run}
use Rattle.cluster_table.specs.Clusters.{KeptCluster, after_take, left_by, with_key}
use Rattle.cluster_table.specs.Marks.{IsUnmarked, Marks, has_any, only_one}
use Rattle.cluster_table.specs.Table.{Table, changed_at, cluster_at}
use Rattle.cluster_table.proofs.Marking.{unmarked-apart, unmarked-none}
use Rattle.cluster_table.proofs.RowLaws.{at-changed, at-changed_other}
use Rattle.group_engine.specs.declared.state.GroupState.{GroupState}
use Rattle.group_engine.specs.Links.{AreMarked, StayLinked, links_in}
use Rattle.group_engine.specs.State.{HasClusterAt, IsAt}
use Rattle.group_engine.specs.inside.Touching.{all_updated, all_requeued, updated, home_in, key_now, requeued, run_updated}

-- one cluster is changed, and not its links
links-changed : (home c : ℕ) (change : KeptCluster → KeptCluster) (t : Table) → ((k : KeptCluster) → (change k).linked.links ≡ k.linked.links)
    → links_in (changed_at home change t) c ≡ links_in t c
links-changed home c change t keeps = by_number (cases_eq c home)
  where
    by_kept : (o : Option KeptCluster) → option_map (λ (k : KeptCluster). k.linked.links) (option_map change o) ≡ option_map (λ (k : KeptCluster). k.linked.links) o
    by_kept None = refl
    by_kept (Some k) = ap {B = Option (List (Option ℕ))} (λ ls. Some ls) (keeps k)

    by_number : (c ≡ home) ⊎ (c ≢ home) → links_in (changed_at home change t) c ≡ links_in t c
    by_number (inl same) = rw same (ap (option_map (λ (k : KeptCluster). k.linked.links)) (at-changed home change t) ∙ by_kept (cluster_at t home))
    by_number (inr apart) = ap (option_map (λ (k : KeptCluster). k.linked.links)) (at-changed_other home c change t apart)

pub links-requeued : (p : Parts) (us : List ℕ) (s : GroupState) (c : ℕ) → links_in (all_requeued p us s).clusters c ≡ links_in s.clusters c
links-requeued p [] s c = refl
links-requeued p (u ∷ us) s c =
    links-requeued p us (requeued p u s) c ∙ links-changed (home_in p u) c (with_key u (key_now p s.core.facts u)) s.clusters (λ k. refl)

pub links-brought : (p : Parts) (us : List ℕ) (s : GroupState) (c : ℕ) → links_in (all_updated p us s).clusters c ≡ links_in s.clusters c
links-brought p [] s c = refl
links-brought p (u ∷ us) s c =
    links-brought p us (updated p u s) c ∙ links-changed (home_in p u) c (with_key u (key_now p s.core.facts u)) s.clusters (λ k. refl)

-- taking an interrupt changes what runs alone
if-links : (b : Bool) (l l' : Linked) → l'.links ≡ l.links → (if b then l' else l).links ≡ l.links
if-links true l l' same = same
if-links false l l' same = refl

links-taken : (l : Linked) (q : ℕ) (np : Bool) → (after_irq l q np).links ≡ l.links
links-taken l q np = if-links (is_pending l q && not (is_deferred l q np)) l (with_run l q (link_of l q)) refl

pub links-with_run : (q : ℕ) (act : Act) (reply : Reply) (o : Option ℕ) (t : Table) (c : ℕ) → links_in (run_updated q act reply o t) c ≡ links_in t c
links-with_run q acts.Tick reply o t c = refl
links-with_run q acts.Irq reply o t c = by_reply (accepted reply)
  where
    by_reply : (b : Bool) → links_in (if b then changed_at (slice_index t.homes q) (after_take q false) t else t) c ≡ links_in t c
    by_reply true = links-changed (slice_index t.homes q) c (after_take q false) t (λ k. links-taken k.linked q false)
    by_reply false = refl
links-with_run q (acts.Arrive u) reply o t c = refl
links-with_run q (acts.Do op) reply None t c = links-changed (slice_index t.homes q) c (left_by q) t (λ k. refl)
links-with_run q (acts.Do op) reply (Some u) t c = refl

-- ---- the links of two pasts

-- where a cluster has the links that it had, the definition gives both pasts the same
links-same : (g : Group) (c : ℕ) (past past' : Past) (t t' : Table) → HasClusterAt g c past t → HasClusterAt g c past' t' → links_in t' c ≡ links_in t c
    → links g c past' ≡ links g c past
links-same g c past past' t t' was is same =
    let read : Some is.cluster.linked.links ≡ Some was.cluster.linked.links =
    sym (ap (option_map (λ (k : KeptCluster). k.linked.links)) is.there) ∙ same ∙ ap (option_map (λ (k : KeptCluster). k.linked.links)) was.there in
    let equal : is.cluster.linked.links ≡ was.cluster.linked.links = cc in
    sym is.is_at.links_are ∙ equal ∙ was.is_at.links_are

-- before the first entry there is none to compare with
pub marked-first : (g : Group) (marks : Marks) → AreMarked g [] marks
marked-first g marks = λ es e same c h out. absurd (none es e same)
  where
    none : (es : List Entry) (e : Entry) → [] ≡ es ++ e ∷ [] → ⊥
    none [] e same = cc
    none (x ∷ es) e same = cc

-- an entry more, whose moves placed no links in a cluster without a mark
pub marked-entry : (g : Group) (es : List Entry) (e : Entry) (s s' : GroupState) (before marks : Marks) → IsAt g (past_of g es) s → IsAt g (past_of g (es ++ e ∷ [])) s'
    → StayLinked before marks s s' → AreMarked g (es ++ e ∷ []) marks
marked-entry g es e s s' before marks was is stay = λ fs f same c h out.
    let first : es ≡ fs = (same_from_push es fs e f same).0 in
    links-same g c (past_of g es) (past_of g (es ++ e ∷ [])) s.clusters s'.clusters (was.clusters_are c h) (is.clusters_are c h) (stay c out).1 ∙ ap (λ xs. links g c (past_of g xs)) first

-- one move after another
pub stay-both : (a b c : Marks) (s t u : GroupState) → StayLinked a b s t → StayLinked b c t u → StayLinked a c s u
stay-both a b c s t u first second = λ n h.
    let later = second n h in
    let earlier = first n later.0 in
    (earlier.0, later.1 ∙ earlier.1)

-- a processor of a cluster without a mark is linked as before the last entry
pub linked-unmarked : (g : Group) (es : List Entry) (e : Entry) (marks : Marks) → AreMarked g (es ++ e ∷ []) marks → (q : ℕ) → IsProcessorOf g q
    → IsUnmarked marks (cluster_with g q) → linked g q (past_of g (es ++ e ∷ [])) ≡ linked g q (past_of g es)
unfolding linked
linked-unmarked g es e marks marked q of out =
    ap (λ ls. link_at ls (q - first_cpu g (cluster_with g q))) (marked es e refl (cluster_with g q) (processors_are_at_home g q of).cluster_there out)

-- and so is each processor where no cluster has a mark
pub linked-none : (g : Group) (es : List Entry) (e : Entry) (marks : Marks) → AreMarked g (es ++ e ∷ []) marks → has_any marks ≡ false → (q : ℕ) → IsProcessorOf g q
    → linked g q (past_of g (es ++ e ∷ [])) ≡ linked g q (past_of g es)
linked-none g es e marks marked none q of = linked-unmarked g es e marks marked q of (unmarked-none marks none (cluster_with g q))

-- and each that is not of the only cluster with a mark
pub linked-apart : (g : Group) (es : List Entry) (e : Entry) (marks : Marks) (c : ClusterNo) → AreMarked g (es ++ e ∷ []) marks → only_one marks ≡ Some c → (q : ℕ) → IsProcessorOf g q
    → cluster_with g q ≢ c.0 → linked g q (past_of g (es ++ e ∷ [])) ≡ linked g q (past_of g es)
linked-apart g es e marks c marked only q of apart = linked-unmarked g es e marks marked q of (unmarked-apart marks c only (cluster_with g q) apart)
