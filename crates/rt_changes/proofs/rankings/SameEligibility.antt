-- A task is eligible as before where it is ready as before and waits as before.
use Rattle.std.proofs.Common.{◌≡◌, ℕ, Bool, true, false, not, ◌||◌, ◌∙◌, ◌∷◌, refl, sym}
use Rattle.std.specs.Prelude.{find}
use Rattle.rt_task.specs.declared.PluginKind.{PluginKind}
use Rattle.rt_task.specs.declared.PluginKind.TheVariants as plugins
use Rattle.rt_task.specs.declared.Protocol.{Protocol}
use Rattle.rt_task.specs.declared.Protocol.TheVariants.{Fmlp, Mpcp, Omlp, Pcp, Srp}
use Rattle.rt_task.specs.RuleWords.{is_p_res}
use Rattle.rt_rules.specs.Numbers.{has}
use Rattle.rt_rules.specs.SemState.{Neither}
use Rattle.rt_model.specs.Ceilings.{pcp, at_cluster}
use Rattle.rt_model.specs.Group.{Group, home, protocol, sems}
use Rattle.rt_model.specs.Holders.{sem_state, sem_state_by, awaits}
use Rattle.rt_model.specs.Outcomes.{past_act}
use Rattle.rt_model.specs.Past.{Event, Clock, Acted, Past, sem_act}
use Rattle.rt_model.specs.Semaphores.{fmlp, omlp, mpcp}
use Rattle.rt_model.specs.Tops.{is_admitted, is_served, eligible}
use Rattle.rt_model.specs.StackPolicy.{has_srp, passes_srp, srp, srp_at}
use Rattle.rt_model.specs.UnderWay.{starts, under_way}
use Rattle.rt_model.specs.Reachable.{IsReachable}
use Rattle.rt_rules.proofs.BoolLaws.{or_true}
use Rattle.rt_laws.proofs.Moves.{IsMove, clock_moves, cpu_acts}
use Rattle.rt_laws.proofs.srp.SrpState.{eligible-is, start-is}
use Rattle.rt_changes.specs.Touched.{SameReady}
use Rattle.rt_changes.specs.Eligibility.{QuietKeepsSems, EligibleAfterAct, EligibleAfterClock}
use Rattle.rt_changes.proofs.rankings.TouchedTasks.{IsNone, acts_touch_few, clock-none, clock_touches_due, touched-none}

-- ---- semaphores

pub pcp-quiet : (g : Group) (c : ℕ) (e : Event) (past : Past) → sem_act e ≡ Neither → pcp g c (e ∷ past) ≡ pcp g c past
unfolding pcp at_cluster
pcp-quiet g c e past h = rw h

pub srp-quiet : (g : Group) (c : ℕ) (e : Event) (past : Past) → sem_act e ≡ Neither → srp g c (e ∷ past) ≡ srp g c past
unfolding srp srp_at
srp-quiet g c e past h = rw h

pub sem_state-quiet : (g : Group) (s : ℕ) (e : Event) (past : Past) → sem_act e ≡ Neither → sem_state g s (e ∷ past) ≡ sem_state g s past
unfolding sem_state sem_state_by fmlp omlp mpcp
sem_state-quiet g s e past h = by_protocol (protocol g s)
  where
    by_protocol : (p : Protocol) → sem_state_by g p s (e ∷ past) ≡ sem_state_by g p s past
    by_protocol Fmlp = rw h
    by_protocol Omlp = rw h
    by_protocol Mpcp = rw h
    by_protocol Pcp = rw (pcp-quiet g _ e past h)
    by_protocol Srp = rw (srp-quiet g _ e past h)

pub awaits-quiet : (g : Group) (t : ℕ) (e : Event) (past : Past) → sem_act e ≡ Neither → awaits g t (e ∷ past) ≡ awaits g t past
unfolding awaits
awaits-quiet g t e past h = λ i. find (λ s. has t (sem_state-quiet g s e past h i).waiting) (sems g)

pub quiet_keeps_sems : QuietKeepsSems
quiet_keeps_sems g e past valid made h = (λ s. sem_state-quiet g s e past h, λ t. awaits-quiet g t e past h, λ c. srp-quiet g c e past h)

-- ---- eligibility

served-always : (g : Group) (p : PluginKind) → is_p_res p ≡ false → (t : ℕ) (past : Past) → is_served g p t past ≡ true
unfolding is_served
served-always g plugins.PRes h t past = cc
served-always g plugins.GsnEdf h t past = refl
served-always g plugins.CEdf h t past = refl
served-always g plugins.PsnEdf h t past = refl
served-always g plugins.PFp h t past = refl

pub eligible-same : (g : Group) → is_p_res g.setup.plugin ≡ false → (t : ℕ) (past past' : Past) → SameReady g t past past' → awaits g t past' ≡ awaits g t past → is_admitted g g.setup.plugin t past' ≡ is_admitted g g.setup.plugin t past → eligible g t past' ≡ eligible g t past
unfolding eligible
eligible-same g none t past past' r a d = rw (r.ready_same, a, served-always g g.setup.plugin none t past, served-always g g.setup.plugin none t past', d)

-- who is under way as before, where the same is held, is admitted as before
admitted-same : (g : Group) (p : PluginKind) (t : ℕ) (past past' : Past) → under_way t past' ≡ under_way t past → srp g (home g t) past' ≡ srp g (home g t) past → is_admitted g p t past' ≡ is_admitted g p t past
unfolding is_admitted passes_srp
admitted-same g plugins.PsnEdf t past past' w s = rw (w, s)
admitted-same g plugins.PRes t past past' w s = refl
admitted-same g plugins.GsnEdf t past past' w s = refl
admitted-same g plugins.CEdf t past past' w s = refl
admitted-same g plugins.PFp t past past' w s = refl

-- who is under way is admitted
admitted-way : (g : Group) (p : PluginKind) (t : ℕ) (past : Past) → under_way t past ≡ true → is_admitted g p t past ≡ true
unfolding is_admitted
admitted-way g plugins.PsnEdf t past w = rw w (or_true (not (has_srp g (home g t))))
admitted-way g plugins.PRes t past w = refl
admitted-way g plugins.GsnEdf t past w = refl
admitted-way g plugins.CEdf t past w = refl
admitted-way g plugins.PFp t past w = refl

-- an event that is none of a task can start it, and else leaves whether it is under way
way-none : (t : ℕ) (e : Event) (past : Past) → IsNone t e past → under_way t (e ∷ past) ≡ starts t e || under_way t past
unfolding under_way
way-none t e past n = rw (n.goes_on, n.did_none)

-- a task that starts was admitted, since it was linked
admitted-event : (g : Group) (t : ℕ) {past : Past} {e : Event} → IsReachable g past → IsMove g past e → IsNone t e past → srp g (home g t) (e ∷ past) ≡ srp g (home g t) past → is_admitted g g.setup.plugin t (e ∷ past) ≡ is_admitted g g.setup.plugin t past
admitted-event g t {past} {e} made move n s = by_start (starts t e) refl
  where
    by_start : (b : Bool) → starts t e ≡ b → is_admitted g g.setup.plugin t (e ∷ past) ≡ is_admitted g g.setup.plugin t past
    by_start true k =
        let way : under_way t (e ∷ past) ≡ true = way-none t e past n ∙ rw k in
        let was = eligible-is g t past (start-is g made move t k).is_linked.was_eligible in
        admitted-way g g.setup.plugin t (e ∷ past) way ∙ sym was.2
    by_start false k = admitted-same g g.setup.plugin t past (e ∷ past) (way-none t e past n ∙ rw k) s

pub eligible_after_act : EligibleAfterAct
eligible_after_act g past valid made none q act t h a s = eligible-same g none t past (Acted (past_act g q act past) ∷ past) (acts_touch_few g past valid made q act t h).same_ready a (admitted-event g t made (cpu_acts q act) (touched-none g q act past t h) s)

pub eligible_after_clock : EligibleAfterClock
eligible_after_clock g past valid made none tick t h = eligible-same g none t past (Clock tick ∷ past) (clock_touches_due g past valid made tick t h) (awaits-quiet g t (Clock tick) past refl) (admitted-event g t made (clock_moves tick) (clock-none tick t past) (srp-quiet g (home g t) (Clock tick) past refl))
