-- A task whose body is another is the same task otherwise.
use Rattle.std.proofs.Common.{◌≡◌, ℕ, List, [], ◌∷◌, ◌++◌, Bool, true, not, ◌&&◌, cond, Option, Some, None, refl, ap, sym, ◌∙◌}
use Rattle.std.specs.Prelude.{codes, ⊤, bytes_eq, false}
use Rattle.json.specs.Json.{after_end_array}
use Rattle.json.specs.Lex.{token, fresh, after_value, tokens}
use Rattle.json.specs.Token.{Token}
use Rattle.rt_base.specs.declared.ResvNo.{ResvNo}
use Rattle.rt_base.specs.declared.SemNo.{SemNo}
use Rattle.rt_base.specs.declared.TheConstants.{MOST_PRIO}
use Rattle.rt_task.specs.RuleWords.{is_empty, is_periodic}
use Rattle.rt_task.specs.declared.Kind.{Kind}
use Rattle.rt_task.specs.declared.Kind.TheVariants.{Periodic}
use Rattle.rt_task.specs.declared.draft.DraftTask.{DraftTask}
use Rattle.rt_task.specs.declared.draft.Piece.{Piece}
use Rattle.serde_json.specs.Data.{Data, array, object, Items, no_items, Members, put}
use Rattle.serde_json.proofs.Views.{get_member-put}
use Rattle.set_read.specs.Document.{Names, task_form, task_members, piece_form, sem_form, resv_form, release_kinds, shaped}
use Rattle.set_read.specs.Forms.{◌>>=◌, every, form_or, list_of, listed, natural, object_of, one_of, optional, or_null, required, text, truth, when}
use Rattle.set_read.specs.inside.Texts.{tokens_at, BeginsWith, BeginsWithValue, OpensItems}
use Rattle.set_read.specs.inside.Tokens.{item_depth, piece_depth, task_read, SaysItems}
use Rattle.set_read.proofs.PlainLaws.{brace_token, end_of_object}
use Rattle.set_read.proofs.QuickLaws.{with_items}
use Rattle.set_read.proofs.WholeLaws.{all_among-put, unchanged}

module _ (names : Names) (n : ℕ) where
  abbrev task_of : List ℕ → ℕ → ℕ → ℕ → ℕ → ℕ → Kind → ℕ → Bool → List SemNo → Option ResvNo → List Piece → Bool → DraftTask
  task_of name cluster cost period deadline phase kind prio enforce uses resv body early = record {
    number = record { 0 = n };
    name = name;
    cluster = cluster;
    cost = cost;
    period = period;
    rel_deadline = deadline;
    phase = phase;
    kind = kind;
    prio = prio;
    enforce = enforce;
    uses = uses;
    resv = resv;
    pieces = body;
    early = early;
  }

  abbrev task_by : Option ⊤ → Option (List ℕ) → Option ℕ → Option ℕ → Option ℕ → (ℕ → Option ℕ) → Option ℕ → Option Kind → Option ℕ
      → Option Bool
      → Option (List SemNo) → Option (Option ResvNo) → Option (List Piece) → Option Bool → Option DraftTask
  task_by known name cluster cost period deadline phase kind prio enforce uses resv body early = do
    _ ← known
    name ← name
    cluster ← cluster
    cost ← cost
    period ← period
    deadline ← deadline period
    phase ← phase
    kind ← kind
    prio ← prio
    enforce ← enforce
    uses ← uses
    resv ← resv
    body ← body
    early ← early
    Some (task_of name cluster cost period deadline phase kind prio enforce uses resv body early)

  -- the task that a value says with this body
  abbrev by_parts : Data → Option (List Piece) → Option DraftTask
  by_parts d body =
      task_by (object_of task_members d) (required text (codes "name") d) (optional natural 0 (codes "cluster") d)
      (required natural (codes "cost") d) (required natural (codes "period") d) (λ period. optional natural period (codes "deadline") d)
      (optional natural 0 (codes "phase") d) (optional (one_of release_kinds) Periodic (codes "kind") d) (optional natural MOST_PRIO (codes "prio") d)
      (optional truth false (codes "enforce") d) (optional (list_of (sem_form names)) [] (codes "uses") d)
      (optional (or_null (resv_form names)) None (codes "resv") d) body (optional truth false (codes "early") d)

  module _ (found : List Piece) where
    abbrev WithBody : DraftTask → DraftTask
    WithBody t = record t { pieces = found }

    -- the body is the last but one to be read
    by_body : (make : List Piece → Bool → DraftTask) → ((ps : List Piece) (b : Bool) → make found b ≡ WithBody (make ps b))
        → (body : Option (List Piece)) (early : Option Bool) (t : DraftTask) → (body >>= λ ps. early >>= λ b. Some (make ps b)) ≡ Some t
        → (early >>= λ b. Some (make found b)) ≡ Some (WithBody t)
    by_body make same (Some ps) (Some b) t e = let is : make ps b ≡ t = cc in ap Some (same ps b ∙ ap WithBody is)
    by_body make same (Some ps) None t e = absurd cc
    by_body make same None early t e = absurd cc

    -- where a value is needed before, both need it
    after_one : {A : Type 0} (o : Option A) (was now : A → Option DraftTask) (t : DraftTask)
        → ((a : A) → was a ≡ Some t → now a ≡ Some (WithBody t)) → (o >>= was) ≡ Some t → (o >>= now) ≡ Some (WithBody t)
    after_one (Some a) was now t more e = more a e
    after_one None was now t more e = absurd cc

    other_body : (d : Data) (body : Option (List Piece)) (t : DraftTask) → by_parts d body ≡ Some t
        → by_parts d (Some found) ≡ Some (WithBody t)
    other_body d body t =
        after_one (object_of task_members d) _ _ t (λ _.
        after_one (required text (codes "name") d) _ _ t (λ name.
        after_one (optional natural 0 (codes "cluster") d) _ _ t (λ cluster.
        after_one (required natural (codes "cost") d) _ _ t (λ cost.
        after_one (required natural (codes "period") d) _ _ t (λ period.
        after_one (optional natural period (codes "deadline") d) _ _ t (λ deadline.
        after_one (optional natural 0 (codes "phase") d) _ _ t (λ phase.
        after_one (optional (one_of release_kinds) Periodic (codes "kind") d) _ _ t (λ kind.
        after_one (optional natural MOST_PRIO (codes "prio") d) _ _ t (λ prio.
        after_one (optional truth false (codes "enforce") d) _ _ t (λ enforce.
        after_one (optional (list_of (sem_form names)) [] (codes "uses") d) _ _ t (λ uses.
        after_one (optional (or_null (resv_form names)) None (codes "resv") d) _ _ t (λ resv.
        by_body (task_of name cluster cost period deadline phase kind prio enforce uses resv) (λ ps b. refl) body
        (optional truth false (codes "early") d) t))))))))))))

  -- with another body put at its name, the rest is as before
  pub task_form-body : (was now : Items) (ms : Members) (found : List Piece) (t : DraftTask)
      → every (piece_form names) (listed now) ≡ Some found
      → task_form names n (object (put (codes "body") (array was) ms)) ≡ Some t
      → task_form names n (object (put (codes "body") (array now) ms)) ≡ Some (record t { pieces = found })
  unfolding task_form
  task_form-body was now ms found t said e =
      let key = codes "body" in
      let words = all_among-put task_members key (array now) (array was) ms in
      let same = λ (k : List ℕ) (differ : bytes_eq k key ≡ false). unchanged key k (array now) (array was) ms differ in
      let name = same (codes "name") refl in
      let cluster = same (codes "cluster") refl in
      let cost = same (codes "cost") refl in
      let period = same (codes "period") refl in
      let deadline = same (codes "deadline") refl in
      let phase = same (codes "phase") refl in
      let kind = same (codes "kind") refl in
      let prio = same (codes "prio") refl in
      let enforce = same (codes "enforce") refl in
      let uses = same (codes "uses") refl in
      let resv = same (codes "resv") refl in
      let early = same (codes "early") refl in
      let d = object (put key (array was) ms) in
      (λ i. task_by (when (words i)) (name i >>= text) (form_or natural 0 (cluster i)) (cost i >>= natural) (period i >>= natural)
      (λ p. form_or natural p (deadline i)) (form_or natural 0 (phase i)) (form_or (one_of release_kinds) Periodic (kind i))
      (form_or natural MOST_PRIO (prio i)) (form_or truth false (enforce i)) (form_or (list_of (sem_form names)) [] (uses i))
      (form_or (or_null (resv_form names)) None (resv i)) (form_or (list_of (piece_form names)) [] (get_member-put key (array now) ms i))
      (form_or truth false (early i)))
      ∙ ap (by_parts d) said ∙ other_body found d _ t e

  -- a brace, members, the body, and the brace that closes the task
  pub plain_task : (bytes behind text body rest last : List ℕ) (value : Data) (found : List Piece) (t : DraftTask)
      → BeginsWith (token Token.begin_object) bytes behind → bytes ≡ text ++ 91 ∷ body → OpensItems (codes "body") item_depth text value
      → SaysItems piece_depth (every (piece_form names)) (tokens body) found (tokens_at after_value rest)
      → BeginsWith (token Token.end_object) rest last → task_form names n value ≡ Some t
      → (is_periodic t.kind && not (is_empty found)) ≡ true
      → BeginsWithValue item_depth (task_read names n) (record t { pieces = found }) bytes last
  plain_task bytes behind text body rest last value found t first is (front, leaves, written) (ds, said, are) closed formed shape p begin =
      let brace = brace_token p bytes behind begin first in
      let fresh_too : tokens_at p bytes ≡ tokens bytes = brace ∙ sym (brace_token fresh bytes behind refl first) in
      let (ms, before, read) =
      with_items (codes "body") item_depth (tokens bytes) front (tokens body) (tokens_at after_value rest)
      (tokens_at after_value last) value ds
      (rw is (leaves body)) written said (end_of_object rest last closed) in
      let task : task_form names n (object (put (codes "body") (array ds) ms)) ≡ Some (record t { pieces = found }) =
      task_form-body no_items ds ms found t are (ap (task_form names n) (sym before) ∙ formed) in (
        (
          object (put (codes "body") (array ds) ms),
          rw fresh_too read,
          ap (shaped true) task ∙ ap (λ b. cond b (Some (record t { pieces = found })) None) shape,
        ),
        ap after_end_array brace,
      )
