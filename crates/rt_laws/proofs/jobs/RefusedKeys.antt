-- An act that is refused leaves effective keys, reservations, eligible tasks, tops and links, and the counts of blocking.
use Rattle.std.proofs.Common.{◌≡◌, ℕ, ◌+◌, ◌≤◌, Bool, true, false, ◌&&◌, ◌||◌, cond, List, [], ◌∷◌, map, refl, sym, ◌∙◌, arith}
use Rattle.std.specs.Prelude.{◌-◌, Option, None, Some, count_by, filter, is_some, nat_lt, take}
use Rattle.std.specs.List.{list_any}
use Rattle.std.proofs.lemmas.Bool.Decides.{nat_tests}
use Rattle.std.proofs.lemmas.List.Sums.{sum_by-cons}
use Rattle.rt_rules.specs.KeyOrder.{higher}
use Rattle.rt_task.specs.declared.PluginKind.{PluginKind}
use Rattle.rt_task.specs.declared.PluginKind.TheVariants as plugins
use Rattle.rt_task.specs.declared.Protocol.{Protocol}
use Rattle.rt_task.specs.declared.Protocol.TheVariants.{Fmlp, Mpcp, Omlp, Pcp, Srp}
use Rattle.rt_task.specs.declared.ResvKind.{ResvKind}
use Rattle.rt_task.specs.declared.ResvKind.TheVariants.{Polling, Sporadic, Table}
use Rattle.rt_rules.specs.Keys.{Ranked, sorted}
use Rattle.rt_rules.specs.Numbers.{first, foremost, same}
use Rattle.rt_rules.specs.Placing.{link_at, placed}
use Rattle.rt_rules.specs.Walks.{followers, inherited}
use Rattle.rt_rules.proofs.BoolLaws.{and_false}
use Rattle.rt_rules.proofs.MemberLaws.{equal_self}
use Rattle.rt_model.specs.Blockers.{blocker}
use Rattle.rt_model.specs.Blocking.{ends, ends_all, is_blocked, requests}
use Rattle.rt_model.specs.Boosts.{boost, boost_by, boost_of, granted_at}
use Rattle.rt_model.specs.EffectiveKeys.{effective_key, next_at, next_by, waits_for}
use Rattle.rt_model.specs.Group.{Group, clients, cluster_with, cpus, first_cpu, home, processors, protocol, resv, served_by, tasks, tasks_of}
use Rattle.rt_model.specs.Holders.{awaits}
use Rattle.rt_model.specs.Links.{links, linked, pending, runs_of}
use Rattle.rt_model.specs.Reachable.{IsReachable, clocked}
use Rattle.rt_model.specs.Outcomes.{past_act}
use Rattle.rt_model.specs.Past.{PastAct, Event, Acted, Past, is_work, now}
use Rattle.rt_model.specs.Histories.{after as after_step, clock_moved, reply_to}
use Rattle.rt_model.specs.Reservations.{any_ready, begins_period, earlier, first_refill, front, is_due, is_loss, is_lost, is_refill, last, last_of, left, left_by, refilled, slot_now, spent, works_for}
use Rattle.rt_model.specs.StackPolicy.{passes_srp}
use Rattle.rt_model.specs.Tops.{eligible, is_admitted, is_served, ranking, top}
use Rattle.rt_model.proofs.PastLaws.{IsSingle, length-runs_of, processor-home, single}
use Rattle.rt_model.proofs.Steps.{links-step}
use Rattle.rt_model.proofs.TopLaws.{distinct-top, length-top}
use Rattle.rt_laws.specs.Refusals.{IsSame, RefusedChangesNothing}
use Rattle.rt_laws.proofs.links.PlacedAgain.{placed-again}
use Rattle.rt_laws.proofs.jobs.RefusedJobs as jobs
use Rattle.rt_laws.proofs.jobs.RefusedJobs.{IsRefused, is_refused}
use Rattle.rt_laws.proofs.Rules.{MeetsRules}
use Rattle.rt_laws.proofs.ValidSets.{rules_of}

-- placing again changes no link
pub links-settle : (g : Group) (c : ℕ) {past : Past} → IsReachable g past → placed (top g c past) (runs_of g c past) (links g c past) ≡ links g c past
links-settle g c {past} made =
    let a : IsSingle g c past = single g c (processor-home g c) made in
    rw a.links_are (placed-again (top g c past) (runs_of g c past) a.before (distinct-top g c past) a.runs_distinct a.before_distinct (length-runs_of g c past ∙ sym a.before_length) (omega (arith, length-top g c past, length-runs_of g c past)))

same-self : (o : Option ℕ) → same o o ≡ true
same-self None = refl
same-self (Some x) = equal_self x

count-none : (ts : List ℕ) → count_by (λ t. false) ts ≡ 0
count-none [] = refl
count-none (t ∷ ts) = let c : count_by (λ u. false) (t ∷ ts) ≡ cond false 1 0 + count_by (λ u. false) ts = sum_by-cons (λ u. cond false 1 0) t ts in c ∙ rw (count-none ts)

-- a sporadic reservation is not due as soon as a move is over
not_due : (g : Group) (clock period : ℕ) → 1 ≤ period → is_due g clock period (Some clock) ≡ false
unfolding is_due
not_due g clock period h = grind (arith, nat_tests, h)

abbrev IsSettled : Group → ℕ → Past → Type 0
IsSettled g r past = any_ready g r past && is_due g (now past) (resv g r).period (refilled g r past) ≡ false

module _ (g : Group) (r : ℕ) (period : 1 ≤ (resv g r).period) (sporadic : (resv g r).kind ≡ Sporadic) where
  settled-opening : IsSettled g r []
  unfolding refilled first_refill
  settled-opening = rw sporadic (by_case (any_ready g r []))
    where
      by_case : (b : Bool) → b && is_due g 0 (resv g r).period (cond b (Some 0) None) ≡ false
      by_case true = not_due g 0 (resv g r).period period
      by_case false = refl

  refill-is : (e : Event) (past : Past) (o : Option ℕ) → is_refill g (resv g r).kind r e past o ≡ any_ready g r (e ∷ past) && is_due g (now (e ∷ past)) (resv g r).period o
  unfolding is_refill
  refill-is e past o = rw sporadic

  settled-move : (e : Event) (past : Past) → IsSettled g r (e ∷ past)
  unfolding refilled
  settled-move e past = by_case (is_refill g (resv g r).kind r e past (refilled g r past)) refl
    where
      by_case : (b : Bool) → is_refill g (resv g r).kind r e past (refilled g r past) ≡ b → any_ready g r (e ∷ past) && is_due g (now (e ∷ past)) (resv g r).period (cond b (Some (now (e ∷ past))) (refilled g r past)) ≡ false
      by_case true k = rw (not_due g (now (e ∷ past)) (resv g r).period period) (and_false (any_ready g r (e ∷ past)))
      by_case false k = sym (refill-is e past (refilled g r past)) ∙ k

  settled : (past : Past) → IsSettled g r past
  settled [] = settled-opening
  settled (e ∷ past) = settled-move e past

-- where no client of a polling reservation is ready what is left is lost already
lost-already : (g : Group) (r : ℕ) (past : Past) → is_loss g (resv g r).kind r past ≡ true → is_lost g r past ≡ true
unfolding is_lost
lost-already g r [] h = h
lost-already g r (e ∷ past) h = rw h

module _ (g : Group) (rules : MeetsRules g) (d : PastAct) (past : Past) (x : IsRefused d) where
  abbrev after : Past
  after = Acted d ∷ past

  -- ---- effective keys

  granted_at-refused : (s : ℕ) → granted_at g s after ≡ granted_at g s past
  unfolding granted_at
  granted_at-refused s = rw (jobs.holder-refused d past x g s, same-self _)

  boost-refused : (t : ℕ) → boost g t after ≡ boost g t past
  unfolding boost boost_of boost_by
  boost-refused t = rw (jobs.holds-refused d past x g t) (by_sem (first _))
    where
      by_protocol : (s : ℕ) (p : Protocol) → boost_by g p s t after ≡ boost_by g p s t past
      by_protocol s Fmlp = rw (granted_at-refused s)
      by_protocol s Omlp = refl
      by_protocol s Pcp = refl
      by_protocol s Srp = refl
      by_protocol s Mpcp = refl

      by_sem : (o : Option ℕ) → boost_of g t o after ≡ boost_of g t o past
      by_sem None = refl
      by_sem (Some s) = by_protocol s (protocol g s)

  waits_for-refused : (t : ℕ) → waits_for g t after ≡ waits_for g t past
  unfolding waits_for next_at next_by blocker
  waits_for-refused t = rw (jobs.awaits-refused d past x g t) (by_sem (awaits g t past))
    where
      by_protocol : (s : ℕ) (p : Protocol) → next_by g p s t after ≡ next_by g p s t past
      by_protocol s Pcp = rw (jobs.pcp-refused d past x g _)
      by_protocol s Fmlp = jobs.holder-refused d past x g s
      by_protocol s Omlp = jobs.holder-refused d past x g s
      by_protocol s Mpcp = jobs.holder-refused d past x g s
      by_protocol s Srp = jobs.holder-refused d past x g s

      by_sem : (o : Option ℕ) → next_at g t o after ≡ next_at g t o past
      by_sem None = refl
      by_sem (Some s) = by_protocol s (protocol g s)

  key-refused : (t : ℕ) → effective_key g t after ≡ effective_key g t past
  unfolding effective_key
  key-refused t = λ i. inherited (boost-refused t i) (λ u. jobs.base_key-refused d past x g u i) (followers (λ u. waits_for-refused u i) (tasks g) t) t

  -- ---- reservations

  any_ready-refused : (r : ℕ) → any_ready g r after ≡ any_ready g r past
  unfolding any_ready
  any_ready-refused r = λ i. list_any (λ t. jobs.ready-refused d past x g t i) (clients g r)

  earlier-refused : (t u : ℕ) → earlier g after t u ≡ earlier g past t u
  unfolding earlier
  earlier-refused t u = rw (jobs.release-refused d past x g t, jobs.release-refused d past x g u)

  front-refused : (r : ℕ) → front g r after ≡ front g r past
  unfolding front
  front-refused r = λ i. foremost (λ t u. earlier-refused t u i) (filter (λ t. jobs.ready-refused d past x g t i) (clients g r))

  works_for-refused : (r : ℕ) → works_for g r (Acted d) ≡ 0
  unfolding works_for
  works_for-refused r =
      let none : works_for g r (Acted d) ≡ count_by (λ t. false) (clients g r) = λ i. count_by (λ t. is_work (jobs.did-refused d past x t i)) (clients g r) in
      none ∙ count-none (clients g r)

  no_refill : (r : ℕ) → is_refill g (resv g r).kind r (Acted d) past (refilled g r past) ≡ false
  unfolding is_refill begins_period
  no_refill r = by_kind (resv g r).kind refl
    where
      by_kind : (k : ResvKind) → (resv g r).kind ≡ k → is_refill g k r (Acted d) past (refilled g r past) ≡ false
      by_kind Polling e = refl
      by_kind Sporadic e = rw (any_ready-refused r) (settled g r (rules.has_period r e) e past)
      by_kind Table e = refl

  refilled-refused : (r : ℕ) → refilled g r after ≡ refilled g r past
  unfolding refilled
  refilled-refused r = rw (no_refill r)

  is_loss-refused : (k : ResvKind) (r : ℕ) → is_loss g k r after ≡ is_loss g k r past
  unfolding is_loss
  is_loss-refused Polling r = rw (any_ready-refused r)
  is_loss-refused Sporadic r = refl
  is_loss-refused Table r = refl

  is_lost-refused : (r : ℕ) → is_lost g r after ≡ is_lost g r past
  unfolding is_lost
  is_lost-refused r = rw (no_refill r, is_loss-refused (resv g r).kind r) (by_case (is_loss g (resv g r).kind r past) refl)
    where
      by_case : (b : Bool) → is_loss g (resv g r).kind r past ≡ b → b || is_lost g r past ≡ is_lost g r past
      by_case true k = sym (lost-already g r past k)
      by_case false k = refl

  spent-refused : (r : ℕ) → spent g r after ≡ spent g r past
  unfolding spent
  spent-refused r = rw (no_refill r, works_for-refused r) (omega arith)

  left-refused : (r : ℕ) → left g r after ≡ left g r past
  unfolding left left_by slot_now
  left-refused r = by_kind (resv g r).kind
    where
      by_kind : (k : ResvKind) → left_by g k r after ≡ left_by g k r past
      by_kind Polling = rw (refilled-refused r, is_lost-refused r, spent-refused r)
      by_kind Sporadic = rw (refilled-refused r, is_lost-refused r, spent-refused r)
      by_kind Table = refl

  last-refused : (r : ℕ) → last g r after ≡ last g r past
  unfolding last last_of slot_now
  last-refused r = by_kind (resv g r).kind
    where
      by_kind : (k : ResvKind) → last_of g k r after ≡ last_of g k r past
      by_kind Polling = rw (refilled-refused r)
      by_kind Sporadic = rw (refilled-refused r)
      by_kind Table = refl

  -- ---- tops and links

  served-refused : (p : PluginKind) (t : ℕ) → is_served g p t after ≡ is_served g p t past
  unfolding is_served
  served-refused plugins.PRes t = rw (left-refused (served_by g t), front-refused (served_by g t))
  served-refused plugins.GsnEdf t = refl
  served-refused plugins.CEdf t = refl
  served-refused plugins.PsnEdf t = refl
  served-refused plugins.PFp t = refl

  admitted-refused : (p : PluginKind) (t : ℕ) → is_admitted g p t after ≡ is_admitted g p t past
  unfolding is_admitted passes_srp
  admitted-refused plugins.PsnEdf t = rw (jobs.under_way-refused d past x t, jobs.srp-refused d past x g (home g t))
  admitted-refused plugins.GsnEdf t = refl
  admitted-refused plugins.CEdf t = refl
  admitted-refused plugins.PFp t = refl
  admitted-refused plugins.PRes t = refl

  eligible-refused : (t : ℕ) → eligible g t after ≡ eligible g t past
  unfolding eligible
  eligible-refused t = rw (jobs.ready-refused d past x g t, jobs.awaits-refused d past x g t, served-refused g.setup.plugin t, admitted-refused g.setup.plugin t)

  top-refused : (c : ℕ) → top g c after ≡ top g c past
  unfolding top ranking
  top-refused c = λ i. take (cpus g c) (map (λ (k : Ranked). k.task) (sorted (map (λ t. record { key = key-refused t i; task = t }) (filter (λ t. eligible-refused t i) (tasks_of g c)))))

  runs_of-refused : (c : ℕ) → runs_of g c after ≡ runs_of g c past
  unfolding runs_of
  runs_of-refused c = λ i. map (λ q. jobs.runs-refused d past x q i) (processors g c)

  links-refused : IsReachable g past → (c : ℕ) → links g c after ≡ links g c past
  links-refused made c = links-step g c (Acted d) past ∙ rw (top-refused c, runs_of-refused c) (links-settle g c made)

  linked-refused : IsReachable g past → (q : ℕ) → linked g q after ≡ linked g q past
  unfolding linked
  linked-refused made q = λ i. link_at (links-refused made (cluster_with g q) i) (q - first_cpu g (cluster_with g q))

  pending-refused : IsReachable g past → (q : ℕ) → pending g q after ≡ pending g q past
  unfolding pending
  pending-refused made q = rw (linked-refused made q, jobs.runs-refused d past x q)

  -- ---- blocking

  blocked-refused : (t : ℕ) → is_blocked g t after ≡ is_blocked g t past
  unfolding is_blocked
  blocked-refused t = λ i. is_some (jobs.awaits-refused d past x g t i) && nat_lt (count_by (λ u. jobs.exists-refused d past x g u i && higher (jobs.base_key-refused d past x g u i) (jobs.base_key-refused d past x g t i)) (tasks_of g (home g t))) (cpus g (home g t))

  requests-refused : requests after ≡ requests past
  unfolding requests
  requests-refused = rw (jobs.sem_act-refused d past x)

  ends-refused : (r t s : ℕ) → ends g r t s after ≡ ends g r t s past
  unfolding ends
  ends-refused r t s = rw (jobs.sem_act-refused d past x)

  ends_all-refused : (r t s : ℕ) → ends_all g r t s after ≡ ends_all g r t s past
  unfolding ends_all
  ends_all-refused r t s = rw (jobs.sem_act-refused d past x)

  pub same-refused : IsReachable g past → IsSame g past after
  same-refused made = record {
    now_same = refl;
    done_same = jobs.done-refused d past x;
    used_same = jobs.used-refused d past x;
    position_same = jobs.position-refused d past x;
    arrivals_same = jobs.arrivals-refused d past x;
    release_same = jobs.release-refused d past x g;
    exists_same = jobs.exists-refused d past x g;
    sleeps_same = jobs.sleeps-refused d past x;
    non_preemptive_same = jobs.np-refused d past x;
    base_key_same = jobs.base_key-refused d past x g;
    effective_key_same = key-refused;
    holds_same = jobs.holds-refused d past x g;
    awaits_same = jobs.awaits-refused d past x g;
    eligible_same = eligible-refused;
    sem_state_same = jobs.sem_state-refused d past x g;
    pcp_same = jobs.pcp-refused d past x g;
    srp_same = jobs.srp-refused d past x g;
    under_way_same = jobs.under_way-refused d past x;
    top_same = top-refused;
    links_same = links-refused made;
    linked_same = linked-refused made;
    runs_same = jobs.runs-refused d past x;
    pending_same = pending-refused made;
    last_work_same = jobs.last_work-refused d past x;
    front_same = front-refused;
    left_same = left-refused;
    last_same = last-refused;
    blocked_same = blocked-refused;
    requests_same = requests-refused;
    ends_same = ends-refused;
    ends_all_same = ends_all-refused;
  }

pub refused_changes_nothing : RefusedChangesNothing
unfolding after_step reply_to
refused_changes_nothing g past valid made step h =
    let d : PastAct = past_act g step.cpu.0 step.act (clock_moved step past) in
    same-refused g (rules_of g valid) d (clock_moved step past) (is_refused g step.cpu.0 step.act (clock_moved step past) h) (clocked step.tick.0 made)
