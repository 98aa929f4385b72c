-- Clients that are told one after the other.
use Rattle.std.proofs.Common.{◌≡◌, ◌≢◌, ℕ, Bool, true, false, ◌||◌, List, [], ◌∷◌, length, get_or, set, length-set, get_or-set_same, get_or-set_other, eqb-true, refl, sym, ap, ◌∙◌, subst, arith}
use Rattle.std.proofs.lemmas.List.{length-map}
use Rattle.std.specs.Prelude.{Option, None, Some, ◌==◌, if◌then◌else◌}
use Rattle.rt_task.specs.Validity.{IsValid}
use Rattle.rt_task.specs.declared.PluginKind.TheVariants.{PRes}
use Rattle.rt_rules.specs.Numbers.{has}
use Rattle.rt_rules.proofs.BoolLaws.{both}
use Rattle.rt_rules.proofs.MemberLaws.{equal_self, has-filter}
use Rattle.rt_model.specs.Group.{Group, clients, resv, served_by, tasks}
use Rattle.rt_laws.proofs.Moves.{last_move}
use Rattle.resv_core.specs.Served.{Served, ServerState, IsResv, is_here, opened, opened_server, release_at, server, server_of, settled}
use Rattle.resv_core.specs.Kept.{IsStateOf, ready_release, told_now}
use Rattle.resv_core.specs.Serving.{AllOpenedInAnyOrder, AreListed, ClientsAreListed, EachIsTold, NobodyIsListed, all_settled, for_task, told_each}
use Rattle.resv_core.proofs.KeptLaws.{begun-releases, client-numbered, none_there, opened-releases, opening_in_any_order}
use Rattle.resv_core.proofs.ServingLaws.{Keeps, all-begun, each-server, for_task-keeps, for_task-server, keeps-self, keeps-then, opened-clock, opened-numbers, opened-server, opened-serves, resv-kept}
use Rattle.resv_core.proofs.ValidClients.{tied}

-- a call changes the releases alone
told-releases : (o : Option ℕ) (t : ℕ) (s : ServerState) → told_now o t s ≡ record s { releases = set s.releases t o }
told-releases None t s = refl
told-releases (Some d) t s = refl

client-of : (g : Group) (t r : ℕ) → has t (clients g r) ≡ true → (has t (tasks g) ≡ true) × (served_by g t ≡ r)
unfolding clients
client-of g t r h = let two = both (has t (tasks g)) (served_by g t == r) (sym (has-filter (λ u. served_by g u == r) t (tasks g)) ∙ h) in (two.0, eqb-true (served_by g t) r two.1)

is-client : (g : Group) (t r : ℕ) → has t (tasks g) ≡ true → served_by g t ≡ r → has t (clients g r) ≡ true
unfolding clients
is-client g t r h e = has-filter (λ u. served_by g u == r) t (tasks g) ∙ rw (h, e, equal_self r) refl

-- what stays where clients are told
record OnlyTold (g : Group) (old new : Served) : Type 0 where
  keeps : Keeps old new
  each : (r : ℕ) → IsResv old r → server new r ≡ record (server old r) { releases = (server new r).releases }

module _ (g : Group) (valid : IsValid g.setup) (plugin : g.setup.plugin ≡ PRes) (after : ℕ → Option ℕ) where
  -- the releases after a task was told
  abbrev with_one : ℕ → (ℕ → Option ℕ) → ℕ → Option ℕ
  with_one u before t = if t == u then after u else before t

  one-server : (u r : ℕ) (v : Served) → has u (tasks g) ≡ true → server_of v u ≡ Some (record { 0 = served_by g u }) → IsResv v r
      → server (for_task u (told_now (after u) u) v) r ≡ (if served_by g u == r then record (server v r) { releases = set (server v r).releases u (after u) } else server v r)
  one-server u r v h serves there =
      for_task-server v u (served_by g u) r (told_now (after u) u) serves (tied g valid plugin u h).low there
      ∙ ap (λ (s : ServerState). if served_by g u == r then s else server v r) (told-releases (after u) u (server v r))

  one-told : (u : ℕ) (v : Served) → has u (tasks g) ≡ true → server_of v u ≡ Some (record { 0 = served_by g u }) → OnlyTold g v (for_task u (told_now (after u) u) v)
  one-told u v h serves = record { keeps = for_task-keeps v u (told_now (after u) u); each = λ r there. by_case r (served_by g u == r) (one-server u r v h serves there) }
    where
      by_case : (r : ℕ) (b : Bool) → server (for_task u (told_now (after u) u) v) r ≡ (if b then record (server v r) { releases = set (server v r).releases u (after u) } else server v r)
          → server (for_task u (told_now (after u) u) v) r ≡ record (server v r) { releases = (server (for_task u (told_now (after u) u) v) r).releases }
      by_case r true e = rw e refl
      by_case r false e = rw e refl

  one-listed : (u : ℕ) (before : ℕ → Option ℕ) (v : Served) → has u (tasks g) ≡ true → AreListed g before v → AreListed g (with_one u before) (for_task u (told_now (after u) u) v)
  one-listed u before v h listed = record {
    serves = λ t k. ap (λ xs. get_or xs t None) keeps.served_by ∙ listed.serves t k;
    ready_at = λ r there here t. let old = back r there in ap (λ (s : ServerState). release_at s.releases t) (one-server u r v h (listed.serves u h) old) ∙ at r old here t (served_by g u == r) refl;
    room = λ r there here t k. let old = back r there in let small = listed.room r old here t k in let long = wide r old in omega (arith, small, long);
  }
    where
      keeps : Keeps v (for_task u (told_now (after u) u) v)
      keeps = for_task-keeps v u (told_now (after u) u)

      back : (r : ℕ) → IsResv (for_task u (told_now (after u) u) v) r → IsResv v r
      back r there = let high = there.high in let same = keeps.numbers in record { low = there.low; high = omega (arith, high, same) }

      wide : (r : ℕ) → IsResv v r → length (server (for_task u (told_now (after u) u) v) r).releases ≡ length (server v r).releases
      wide r there = ap (λ (s : ServerState). length s.releases) (one-server u r v h (listed.serves u h) there) ∙ by_case (served_by g u == r)
        where
          by_case : (b : Bool) → length (if b then record (server v r) { releases = set (server v r).releases u (after u) } else server v r).releases ≡ length (server v r).releases
          by_case true = length-set (server v r).releases u (after u)
          by_case false = refl

      at : (r : ℕ) → IsResv v r → is_here g.setup g.number (resv g r) ≡ true → (t : ℕ) (b : Bool) → served_by g u == r ≡ b
          → release_at (if b then record (server v r) { releases = set (server v r).releases u (after u) } else server v r).releases t ≡ (if has t (clients g r) then with_one u before t else None)
      at r there here t true e = by_task (t == u) refl
        where
          mine : has u (clients g r) ≡ true
          mine = is-client g u r h (eqb-true (served_by g u) r e)

          by_task : (b : Bool) → t == u ≡ b → get_or (set (server v r).releases u (after u)) t None ≡ (if has t (clients g r) then (if b then after u else before t) else None)
          by_task true k =
              let same : t ≡ u = eqb-true t u k in
              let there_too : has t (clients g r) ≡ true = subst (λ x. has x (clients g r) ≡ true) (sym same) mine in
              ap (λ x. get_or (set (server v r).releases u (after u)) x None) same ∙ get_or-set_same (server v r).releases u (after u) None (listed.room r there here u mine) ∙ rw there_too refl
          by_task false k =
              let apart : t ≢ u = (λ f. let clash : true ≡ false = sym (equal_self u) ∙ ap (λ x. x == u) (sym f) ∙ k in cc) in
              get_or-set_other (server v r).releases u t (after u) None apart ∙ listed.ready_at r there here t
      at r there here t false e = listed.ready_at r there here t ∙ by_member (has t (clients g r)) refl
        where
          by_member : (b : Bool) → has t (clients g r) ≡ b → (if b then before t else None) ≡ (if b then with_one u before t else None)
          by_member true k = by_task (t == u) refl
            where
              by_task : (c : Bool) → t == u ≡ c → before t ≡ (if c then after u else before t)
              by_task true f =
                  let same : t ≡ u = eqb-true t u f in
                  let clash : true ≡ false = sym (equal_self r) ∙ ap (λ x. x == r) (sym (client-of g t r k).1 ∙ ap (served_by g) same) ∙ e in
                  cc
              by_task false f = refl
          by_member false k = refl

  -- the releases after some tasks were told
  abbrev with_all : List ℕ → (ℕ → Option ℕ) → ℕ → Option ℕ
  with_all ts before t = if has t ts then after t else before t

  same-listed : (f h : ℕ → Option ℕ) (v : Served) → ((t : ℕ) → has t (tasks g) ≡ true → f t ≡ h t) → AreListed g f v → AreListed g h v
  same-listed f h v same listed = record {
    serves = listed.serves;
    ready_at = λ r there here t. listed.ready_at r there here t ∙ by_case r t (has t (clients g r)) refl;
    room = listed.room;
  }
    where
      by_case : (r t : ℕ) (b : Bool) → has t (clients g r) ≡ b → (if b then f t else None) ≡ (if b then h t else None)
      by_case r t true e = same t (client-of g t r e).0
      by_case r t false e = refl

  all-told : (ts : List ℕ) (before : ℕ → Option ℕ) (v : Served) → ((t : ℕ) → has t ts ≡ true → has t (tasks g) ≡ true) → AreListed g before v
      → OnlyTold g v (told_each after ts v) × AreListed g (with_all ts before) (told_each after ts v)
  all-told [] before v inside listed = (record { keeps = keeps-self v; each = λ r there. refl }, listed)
  all-told (u ∷ ts) before v inside listed =
      let h : has u (tasks g) ≡ true = inside u (rw (equal_self u) refl) in
      let next : Served = for_task u (told_now (after u) u) v in
      let one = one-told u v h (listed.serves u h) in
      let more = all-told ts (with_one u before) next (λ t k. inside t (or_right (t == u) (has t ts) k)) (one-listed u before v h listed) in
      let rest = more.0 in (
        record {
          keeps = keeps-then v next (told_each after ts next) one.keeps rest.keeps;
          each = λ r there. rest.each r (resv-kept v next r one.keeps there) ∙ ap (λ (s : ServerState). record s { releases = (server (told_each after ts next) r).releases }) (one.each r there);
        },
        same-listed (with_all ts (with_one u before)) (with_all (u ∷ ts) before) (told_each after ts next) (λ t k. join t (t == u) (has t ts) refl) more.1,
      )
    where
      or_right : (a b : Bool) → b ≡ true → a || b ≡ true
      or_right true b m = refl
      or_right false b m = m

      join : (t : ℕ) (a b : Bool) → t == u ≡ a → (if b then after t else (if a then after u else before t)) ≡ (if a || b then after t else before t)
      join t true true e = refl
      join t true false e = ap after (sym (eqb-true t u e))
      join t false true e = refl
      join t false false e = refl

pub each_is_told : EachIsTold
each_is_told g before past ts v valid plugin inside others listed =
    let after : ℕ → Option ℕ = λ t. ready_release g t past in
    let new : Served = told_each after ts v in
    let done = all-told g valid plugin after ts before v inside listed in
    let only = done.0 in
    let now_listed : AreListed g after new = same-listed g valid plugin after (λ t. if has t ts then after t else before t) after new (λ t h. by_case t h (has t ts) refl) done.1 in
    record {
      clock = only.keeps.clock;
      numbers = only.keeps.numbers;
      served_by = only.keeps.served_by;
      each = λ r there here. let high = there.high in let same = only.keeps.numbers in only.each r (record { low = there.low; high = omega (arith, high, same) });
      clients_of = λ r there here. record { ready_at = now_listed.ready_at r there here; room = now_listed.room r there here };
    }
  where
    by_case : (t : ℕ) → has t (tasks g) ≡ true → (b : Bool) → has t ts ≡ b → (if b then ready_release g t past else before t) ≡ ready_release g t past
    by_case t h true e = refl
    by_case t h false e = others t h e

pub nobody_is_listed : NobodyIsListed
nobody_is_listed g valid plugin = record {
  serves = λ t h. opened-serves g t (tied g valid plugin t h);
  ready_at = λ r there here t. ap (λ (s : ServerState). release_at s.releases t) (opened-server g r there) ∙ none_there _ t ∙ sym (either_none (has t (clients g r)));
  room = λ r there here t h. let small = client-numbered g r t h in let wide = ap (λ (s : ServerState). length s.releases) (opened-server g r there) ∙ opened-releases g r here in omega (arith, small, wide);
}
  where
    nothing : Option ℕ
    nothing = None

    either_none : (b : Bool) → (if b then nothing else nothing) ≡ nothing
    either_none true = refl
    either_none false = refl

pub clients_are_listed : ClientsAreListed
clients_are_listed g e past v valid plugin reachable serving =
    let m = last_move g reachable in
    let b = all-begun g valid plugin v m.0 m.1 serving in
    record {
      serves = λ t h. ap (λ xs. get_or xs t None) b.served_by ∙ serving.serves t h;
      ready_at = λ r there here t.
          let high = there.high in let same = b.numbers in
          let old : IsResv v r = record { low = there.low; high = omega (arith, high, same) } in
          ap (λ (s : ServerState). release_at s.releases t) (b.each r old) ∙ ap (λ rs. release_at rs t) (begun-releases g r e past (server v r)) ∙ (serving.each r old here).clients_of.ready_at t;
      room = λ r there here t h.
          let high = there.high in let same = b.numbers in
          let old : IsResv v r = record { low = there.low; high = omega (arith, high, same) } in
          let small = (serving.each r old here).clients_of.room t h in
          let wide = ap (λ (s : ServerState). length s.releases) (b.each r old) ∙ ap length (begun-releases g r e past (server v r)) in
          omega (arith, small, wide);
    }

pub all_opened_in_any_order : AllOpenedInAnyOrder
all_opened_in_any_order g w valid plugin told_it =
    let first : Served = opened g.setup g.number in
    let wide : length (all_settled w).servers ≡ length w.servers = length-map w.servers (settled w.clock) in
    record {
      clock = told_it.clock ∙ opened-clock g;
      numbers = wide ∙ told_it.numbers ∙ opened-numbers g;
      serves = λ t h. ap (λ xs. get_or xs t None) told_it.served_by ∙ opened-serves g t (tied g valid plugin t h);
      each = λ r there here.
          let high = there.high in
          let last : IsResv w r = record { low = there.low; high = omega (arith, high, wide) } in
          let old : IsResv first r = record { low = there.low; high = omega (arith, high, wide, told_it.numbers) } in
          let rs = (server w r).releases in
          let is_settled : server (all_settled w) r ≡ settled 0 (record (opened_server g.setup g.number (resv g r)) { releases = rs }) =
          each-server w r (settled w.clock) last
          ∙ ap (λ c. settled c (server w r)) (told_it.clock ∙ opened-clock g)
          ∙ ap (settled 0) (told_it.each r last here ∙ ap (λ (s : ServerState). record s { releases = rs }) (opened-server g r old)) in
          subst (IsStateOf g r []) (sym is_settled) (opening_in_any_order g r rs (told_it.clients_of r last here));
    }
