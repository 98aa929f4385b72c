-- Values that pass the tests of their forms have them.
use Rattle.std.proofs.Common.{◌≡◌, ℕ, ◌+◌, List, [], ◌∷◌, Bool, true, false, not, ◌&&◌, ◌||◌, map, Option, Some, None, refl, ap, sym, subst, ◌∙◌}
use Rattle.std.specs.Prelude.{⊤, codes, is_some, option_map, slice_get, unwrap_or}
use Rattle.std.proofs.lemmas.Bool.{and_parts}
use Rattle.std.proofs.lemmas.Option.{slice_get-map}
use Rattle.rt_base.specs.declared.TheConstants.{MOST_PRIO}
use Rattle.rt_base.specs.declared.ResvNo.{ResvNo}
use Rattle.rt_base.specs.declared.SemNo.{SemNo}
use Rattle.rt_task.specs.declared.PluginKind.{PluginKind}
use Rattle.rt_task.specs.declared.Protocol.{Protocol}
use Rattle.rt_task.specs.declared.Slot.{Slot}
use Rattle.rt_task.specs.declared.Kind.{Kind}
use Rattle.rt_task.specs.declared.Kind.TheVariants.{Periodic}
use Rattle.rt_task.specs.declared.draft.Piece.{Piece}
use Rattle.rt_task.specs.declared.ResvKind.{ResvKind}
use Rattle.rt_task.specs.RuleWords.{is_empty, is_periodic}
use Rattle.serde_json.specs.Data.{Data}
use Rattle.serde_json.specs.Find.{get}
use Rattle.set_read.specs.Document.{Names, Play, cluster_form, piece_form, play_of, plugins, protocols, release_kinds, reservation_form, reservation_kinds, reservation_members, resv_form, sem_form, semaphore_form, shaped, slots_form, step_form, task_form, task_members, whole_members, whole_of}
use Rattle.set_read.specs.Forms.{natural, text, truth, one_of, or_null, items, list_of, object_of, optional, required, form_or}
use Rattle.set_explain.specs.Rules.{Test, all_hold}
use Rattle.set_explain.specs.ShapeRules.{cluster_shape, has_slots, resv_shape, sem_shape, step_shape, task_shape, whole_shape}

pub value-of : {A : Type 0} (o : Option A) → is_some o ≡ true → (x : A) × (o ≡ Some x)
value-of (Some x) h = (x, refl)
value-of None h = absurd cc

-- another default does not matter for the form
default-is_some : {A : Type 0} (form : Data → Option A) (x y : A) (o : Option Data) → is_some (form_or form x o) ≡ is_some (form_or form y o)
default-is_some form x y None = refl
default-is_some form x y (Some d) = refl

defaulted : {A : Type 0} (form : Data → Option A) (x y : A) (key : List ℕ) (d : Data) → is_some (optional form x key d) ≡ true → is_some (optional form y key d) ≡ true
defaulted form x y key d h = sym (default-is_some form x y (get key d)) ∙ h

cluster-made : (d : Data) (members : ⊤) (cpus : ℕ) (group : ℕ)
    → object_of (codes "cpus" ∷ codes "group" ∷ []) d ≡ Some members
    → required natural (codes "cpus") d ≡ Some cpus
    → optional natural 0 (codes "group") d ≡ Some group → is_some (cluster_form d) ≡ true
unfolding cluster_form
cluster-made d members cpus group e0 e1 e2 = rw (e0, e1, e2) refl

pub cluster-formed : (d : Data) → all_hold (cluster_shape d) ≡ true → is_some (cluster_form d) ≡ true
cluster-formed d h =
    let a = and_parts _ _ h in
    let b = and_parts _ _ a.1 in
    let members = value-of (object_of (codes "cpus" ∷ codes "group" ∷ []) d) a.0 in
    let cpus = value-of (required natural (codes "cpus") d) b.0 in
    let group = value-of (optional natural 0 (codes "group") d) b.1 in
    cluster-made d members.0 cpus.0 group.0 members.1 cpus.1 group.1

sem-made : (d : Data) (members : ⊤) (name : List ℕ) (protocol : Protocol)
    → object_of (codes "name" ∷ codes "protocol" ∷ []) d ≡ Some members
    → required text (codes "name") d ≡ Some name
    → required (one_of protocols) (codes "protocol") d ≡ Some protocol → is_some (semaphore_form d) ≡ true
unfolding semaphore_form
sem-made d members name protocol e0 e1 e2 = rw (e0, e1, e2) refl

pub sem-formed : (d : Data) → all_hold (sem_shape d) ≡ true → is_some (semaphore_form d) ≡ true
sem-formed d h =
    let a = and_parts _ _ h in
    let b = and_parts _ _ a.1 in
    let members = value-of (object_of (codes "name" ∷ codes "protocol" ∷ []) d) a.0 in
    let name = value-of (required text (codes "name") d) b.0 in
    let protocol = value-of (required (one_of protocols) (codes "protocol") d) b.1 in
    sem-made d members.0 name.0 protocol.0 members.1 name.1 protocol.1

resv-made : (d : Data) (members : ⊤) (name : List ℕ) (cluster : ℕ) (kind : ResvKind) (budget : ℕ) (period : ℕ) (prio : ℕ) (slots : List Slot)
    → object_of reservation_members d ≡ Some members
    → required text (codes "name") d ≡ Some name
    → optional natural 0 (codes "cluster") d ≡ Some cluster
    → required (one_of reservation_kinds) (codes "kind") d ≡ Some kind
    → required natural (codes "budget") d ≡ Some budget
    → required natural (codes "period") d ≡ Some period
    → optional natural MOST_PRIO (codes "prio") d ≡ Some prio
    → slots_form kind d ≡ Some slots → is_some (reservation_form d) ≡ true
unfolding reservation_form
resv-made d members name cluster kind budget period prio slots e0 e1 e2 e3 e4 e5 e6 e7 = rw (e0, e1, e2, e3, e4, e5, e6, e7) refl

pub resv-formed : (d : Data) → all_hold (resv_shape d) ≡ true → is_some (reservation_form d) ≡ true
resv-formed d h =
    let a = and_parts _ _ h in
    let b = and_parts _ _ a.1 in
    let c = and_parts _ _ b.1 in
    let e = and_parts _ _ c.1 in
    let f = and_parts _ _ e.1 in
    let g = and_parts _ _ f.1 in
    let i = and_parts _ _ g.1 in
    let members = value-of (object_of reservation_members d) a.0 in
    let name = value-of (required text (codes "name") d) b.0 in
    let cluster = value-of (optional natural 0 (codes "cluster") d) c.0 in
    let kind = value-of (required (one_of reservation_kinds) (codes "kind") d) e.0 in
    let budget = value-of (required natural (codes "budget") d) f.0 in
    let period = value-of (required natural (codes "period") d) g.0 in
    let prio = value-of (optional natural MOST_PRIO (codes "prio") d) (defaulted natural 0 MOST_PRIO (codes "prio") d i.0) in
    let slots = value-of (slots_form kind.0 d) (subst (λ o. has_slots o d ≡ true) kind.1 i.1) in
    resv-made d members.0 name.0 cluster.0 kind.0 budget.0 period.0 prio.0 slots.0 members.1 name.1 cluster.1 kind.1 budget.1 period.1 prio.1 slots.1

whole-made : (d : Data) (members : ⊤) (plugin : PluginKind) (clusters : List Data) (sems : List Data) (resvs : List Data) (tasks : List Data) (play : Play)
    → object_of whole_members d ≡ Some members
    → required (one_of plugins) (codes "plugin") d ≡ Some plugin
    → required items (codes "clusters") d ≡ Some clusters
    → optional items [] (codes "sems") d ≡ Some sems
    → optional items [] (codes "resvs") d ≡ Some resvs
    → optional items [] (codes "tasks") d ≡ Some tasks
    → play_of (get (codes "steps") d) (get (codes "horizon") d) ≡ Some play → is_some (whole_of d) ≡ true
unfolding whole_of
whole-made d members plugin clusters sems resvs tasks play e0 e1 e2 e3 e4 e5 e6 = rw (e0, e1, e2, e3, e4, e5, e6) refl

pub whole-formed : (d : Data) → all_hold (whole_shape d) ≡ true → is_some (whole_of d) ≡ true
whole-formed d h =
    let a = and_parts _ _ h in
    let b = and_parts _ _ a.1 in
    let c = and_parts _ _ b.1 in
    let e = and_parts _ _ c.1 in
    let f = and_parts _ _ e.1 in
    let g = and_parts _ _ f.1 in
    let members = value-of (object_of whole_members d) a.0 in
    let plugin = value-of (required (one_of plugins) (codes "plugin") d) b.0 in
    let clusters = value-of (required items (codes "clusters") d) c.0 in
    let sems = value-of (optional items [] (codes "sems") d) e.0 in
    let resvs = value-of (optional items [] (codes "resvs") d) f.0 in
    let tasks = value-of (optional items [] (codes "tasks") d) g.0 in
    let play = value-of (play_of (get (codes "steps") d) (get (codes "horizon") d)) g.1 in
    whole-made d members.0 plugin.0 clusters.0 sems.0 resvs.0 tasks.0 play.0 members.1 plugin.1 clusters.1 sems.1 resvs.1 tasks.1 play.1

pub step-formed : (names : Names) (d : Data) → all_hold (step_shape names d) ≡ true → is_some (step_form names d) ≡ true
step-formed names d h = h

-- what a task needs in a set with a horizon, of its kind and its body as they were read
abbrev suits : Bool → Option Kind → Option (List Piece) → Bool
suits needs kind body = not needs || (is_periodic (unwrap_or kind Periodic) && not (is_empty (unwrap_or body [])))

task-made : (names : Names) (needs : Bool) (n : ℕ) (d : Data) (members : ⊤) (name : List ℕ) (cluster : ℕ) (cost : ℕ) (period : ℕ) (deadline : ℕ) (phase : ℕ) (kind : Kind) (prio : ℕ) (enforce : Bool) (uses : List SemNo) (resv : Option ResvNo) (body : List Piece) (early : Bool)
    → object_of task_members d ≡ Some members
    → required text (codes "name") d ≡ Some name
    → optional natural 0 (codes "cluster") d ≡ Some cluster
    → required natural (codes "cost") d ≡ Some cost
    → required natural (codes "period") d ≡ Some period
    → optional natural period (codes "deadline") d ≡ Some deadline
    → optional natural 0 (codes "phase") d ≡ Some phase
    → optional (one_of release_kinds) Periodic (codes "kind") d ≡ Some kind
    → optional natural MOST_PRIO (codes "prio") d ≡ Some prio
    → optional truth false (codes "enforce") d ≡ Some enforce
    → optional (list_of (sem_form names)) [] (codes "uses") d ≡ Some uses
    → optional (or_null (resv_form names)) None (codes "resv") d ≡ Some resv
    → optional (list_of (piece_form names)) [] (codes "body") d ≡ Some body
    → optional truth false (codes "early") d ≡ Some early
    → suits needs (Some kind) (Some body) ≡ true → is_some (shaped needs (task_form names n d)) ≡ true
unfolding task_form
task-made names needs n d members name cluster cost period deadline phase kind prio enforce uses resv body early e0 e1 e2 e3 e4 e5 e6 e7 e8 e9 e10 e11 e12 e13 fits = rw (e0, e1, e2, e3, e4, e5, e6, e7, e8, e9, e10, e11, e12, e13, fits) refl

pub task-formed : (names : Names) (needs : Bool) (n : ℕ) (d : Data) → all_hold (task_shape names needs d) ≡ true → is_some (shaped needs (task_form names n d)) ≡ true
task-formed names needs n d h =
    let a = and_parts _ _ h in
    let b = and_parts _ _ a.1 in
    let c = and_parts _ _ b.1 in
    let e = and_parts _ _ c.1 in
    let f = and_parts _ _ e.1 in
    let g = and_parts _ _ f.1 in
    let i = and_parts _ _ g.1 in
    let j = and_parts _ _ i.1 in
    let k = and_parts _ _ j.1 in
    let l = and_parts _ _ k.1 in
    let m = and_parts _ _ l.1 in
    let o = and_parts _ _ m.1 in
    let p = and_parts _ _ o.1 in
    let q = and_parts _ _ p.1 in
    let members = value-of (object_of task_members d) a.0 in
    let name = value-of (required text (codes "name") d) b.0 in
    let cluster = value-of (optional natural 0 (codes "cluster") d) c.0 in
    let cost = value-of (required natural (codes "cost") d) e.0 in
    let period = value-of (required natural (codes "period") d) f.0 in
    let deadline = value-of (optional natural period.0 (codes "deadline") d) (defaulted natural 0 period.0 (codes "deadline") d g.0) in
    let phase = value-of (optional natural 0 (codes "phase") d) i.0 in
    let kind = value-of (optional (one_of release_kinds) Periodic (codes "kind") d) j.0 in
    let prio = value-of (optional natural MOST_PRIO (codes "prio") d) (defaulted natural 0 MOST_PRIO (codes "prio") d k.0) in
    let enforce = value-of (optional truth false (codes "enforce") d) l.0 in
    let uses = value-of (optional (list_of (sem_form names)) [] (codes "uses") d) m.0 in
    let resv = value-of (optional (or_null (resv_form names)) None (codes "resv") d) o.0 in
    let body = value-of (optional (list_of (piece_form names)) [] (codes "body") d) p.0 in
    let early = value-of (optional truth false (codes "early") d) q.0 in
    let fits : suits needs (Some kind.0) (Some body.0) ≡ true =
    subst (λ o. suits needs (Some kind.0) o ≡ true) body.1
    (subst (λ o. suits needs o (optional (list_of (piece_form names)) [] (codes "body") d) ≡ true) kind.1 q.1) in
    task-made names needs n d members.0 name.0 cluster.0 cost.0 period.0 deadline.0 phase.0 kind.0 prio.0 enforce.0 uses.0 resv.0 body.0 early.0 members.1 name.1 cluster.1 cost.1 period.1 deadline.1 phase.1 kind.1 prio.1 enforce.1 uses.1 resv.1 body.1 early.1 fits
