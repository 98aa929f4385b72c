-- What is settled but for the reservations that are touched.
use Rattle.std.proofs.Common.{◌≡◌, ◌≢◌, ℕ, ◌+◌, ◌-◌, Bool, true, false, List, length, get_or, set, length-set, get_or-set_same, get_or-set_other, eqb-true, refl, sym, ap, ◌∙◌, subst, arith}
use Rattle.std.specs.Prelude.{◌==◌, Option, None, if◌then◌else◌}
use Rattle.std.proofs.lemmas.List.{ext_get_or, length-map}
use Rattle.rt_base.specs.declared.ResvNo.{ResvNo}
use Rattle.rt_rules.proofs.BoolLaws.{clash}
use Rattle.rt_rules.proofs.MemberLaws.{equal_self}
use Rattle.resv_core.specs.Served.{Served, ServerState, IsResv, no_server, server, settled, with_server}
use Rattle.resv_core.proofs.SettledLaws.{settled-twice}
use Rattle.resv_core.specs.Serving.{all_settled}
use Rattle.resv_core.proofs.ServingLaws.{each-server, server-set}
use Rattle.group_resvs.specs.declared.touched.Touched.{Touched}
use Rattle.group_resvs.specs.declared.touched.Touched.TheVariants.{Nothing, One, Many}
use Rattle.group_resvs.specs.GroupResvs.{AllServe, Serves, served_at}
use Rattle.group_resvs.specs.Touched.{IsSettledBut, is_touched, touched_also}

-- a number of the reservations is one where one of them changes
resv-set : (v : Served) (k n : ℕ) (s : ServerState) → IsResv (with_server v k s) n → IsResv v n
resv-set v k n s there = let high = there.high in record { low = there.low; high = omega (arith, high, length-set v.servers (k - 1) s) }

-- all may be touched
pub settled_but-many : (v : Served) (serves : List (Option ℕ)) → IsSettledBut Many v serves
settled_but-many v serves = record { within = λ r h. cc; settled_at = λ r there h. cc; serves_at = λ r there h. cc }

also-apart : (t : Touched) (r : ResvNo) (n : ℕ) → is_touched (touched_also r t) n ≡ false → (is_touched t n ≡ false) × (r.0 == n ≡ false)
also-apart Nothing r n h = (refl, h)
also-apart Many r n h = cc
also-apart (One other) r n h = by_case (other.0 == r.0) refl h
  where
    by_case : (b : Bool) → other.0 == r.0 ≡ b → is_touched (if b then One other else Many) n ≡ false → (other.0 == n ≡ false) × (r.0 == n ≡ false)
    by_case true e k = (k, ap (λ m. m == n) (sym (eqb-true other.0 r.0 e)) ∙ k)
    by_case false e k = cc

also-one : (t : Touched) (r q : ResvNo) → touched_also r t ≡ One q → r.0 ≡ q.0
also-one Nothing r q h = cc
also-one Many r q h = cc
also-one (One other) r q h = by_case (other.0 == r.0) refl h
  where
    by_case : (b : Bool) → other.0 == r.0 ≡ b → (if b then One other else Many) ≡ One q → r.0 ≡ q.0
    by_case true e k = let same : other.0 ≡ r.0 = eqb-true other.0 r.0 e in cc
    by_case false e k = cc

-- a reservation that is touched may change
pub settled_but-also : (t u : Touched) (v w : Served) (serves : List (Option ℕ)) (r : ResvNo) (s : ServerState) → IsResv v r.0
    → u ≡ touched_also r t → w ≡ with_server v r.0 s → IsSettledBut t v serves → IsSettledBut u w serves
settled_but-also t u v w serves r s here also changed but = rw (also, changed) (record {
  within = λ q h. let number : r.0 ≡ q.0 = also-one t r q h in subst (IsResv (with_server v r.0 s)) number (record { low = here.low; high = omega (arith, wide, here.high) });
  settled_at = λ n there h. let apart = also-apart t r n h in let old = resv-set v r.0 n s there in rw (same n there h) (but.settled_at n old apart.0);
  serves_at = λ n there h. let apart = also-apart t r n h in let old = resv-set v r.0 n s there in rw (same n there h) (but.serves_at n old apart.0);
})
  where
    wide : length (set v.servers (r.0 - 1) s) ≡ length v.servers
    wide = length-set v.servers (r.0 - 1) s

    same : (n : ℕ) → IsResv (with_server v r.0 s) n → is_touched (touched_also r t) n ≡ false → server (with_server v r.0 s) n ≡ server v n
    same n there h = server-set v r.0 n s here.low (resv-set v r.0 n s there) ∙ ap (λ b. if b then s else server v n) (also-apart t r n h).1

-- nothing is touched where all are settled
pub settled_but-nothing : (v w : Served) (serves : List (Option ℕ)) → w ≡ all_settled v → AllServe w serves → IsSettledBut Nothing w serves
settled_but-nothing v w serves end serve = record {
  within = λ r h. cc;
  settled_at = λ n there h.
      let high = there.high in
      let clock : w.clock ≡ v.clock = ap (λ (u : Served). u.clock) end in
      let wide : length w.servers ≡ length v.servers = ap (λ (u : Served). length u.servers) end ∙ length-map v.servers (settled v.clock) in
      let old : IsResv v n = record { low = there.low; high = omega (arith, high, wide) } in
      let mine : server w n ≡ settled v.clock (server v n) = ap (λ (u : Served). server u n) end ∙ each-server v n (settled v.clock) old in
      ap (λ c. settled c (server w n)) clock ∙ ap (settled v.clock) mine ∙ settled-twice v.clock (server v n) ∙ sym mine;
  serves_at = λ n there h. serve n there;
}

-- reservations that are the same by number
same-servers : (v w : Served) → length v.servers ≡ length w.servers → ((n : ℕ) → IsResv v n → server v n ≡ server w n) → v.servers ≡ w.servers
same-servers v w wide each = ext_get_or no_server v.servers w.servers wide (λ i low.
    let on : i + 1 - 1 ≡ i = omega arith in
    let there : IsResv v (i + 1) = record { low = omega arith; high = omega (arith, low) } in
    let same : server v (i + 1) ≡ server w (i + 1) = each (i + 1) there in
    rw on at same)

-- all are settled where those that are touched are
module _ (v : Served) (serves : List (Option ℕ)) where
  pub all_settled-nothing : IsSettledBut Nothing v serves → v ≡ all_settled v
  all_settled-nothing but = ap (λ xs. record v { servers = xs }) (same-servers v (all_settled v) (sym (length-map v.servers (settled v.clock))) (λ n there.
      sym (but.settled_at n there refl) ∙ sym (each-server v n (settled v.clock) there)))

  module _ (r : ResvNo) (but : IsSettledBut (One r) v serves) where
    abbrev one : ServerState
    one = settled v.clock (server v r.0)

    pub all_settled-one : with_server v r.0 (settled v.clock (server v r.0)) ≡ all_settled v
    all_settled-one =
        let here : IsResv v r.0 = but.within r refl in
        let wide : length (set v.servers (r.0 - 1) one) ≡ length v.servers = length-set v.servers (r.0 - 1) one in
        ap (λ xs. record v { servers = xs }) (same-servers (with_server v r.0 one) (all_settled v) (wide ∙ sym (length-map v.servers (settled v.clock))) (λ n there.
        let old : IsResv v n = resv-set v r.0 n one there in
        server-set v r.0 n one here.low old ∙ by_number n old (r.0 == n) refl ∙ sym (each-server v n (settled v.clock) old)))
      where
        by_number : (n : ℕ) → IsResv v n → (b : Bool) → r.0 == n ≡ b → (if b then one else server v n) ≡ settled v.clock (server v n)
        by_number n there true e = ap (λ k. settled v.clock (server v k)) (eqb-true r.0 n e)
        by_number n there false e = sym (but.settled_at n there e)

    module _ (w : Served) (now : Option ℕ) (end : w ≡ with_server v r.0 (settled v.clock (server v r.0))) (serve : Serves (server w r.0) now) (all : length serves ≡ length v.servers) where
      pub all-serve : AllServe w (set serves (r.0 - 1) now)
      all-serve n there = by_number (r.0 == n) refl
        where
          here : IsResv v r.0
          here = but.within r refl

          old : IsResv v n
          old = resv-set v r.0 n one (subst (λ (u : Served). IsResv u n) end there)

          by_number : (b : Bool) → r.0 == n ≡ b → Serves (server w n) (get_or (set serves (r.0 - 1) now) (n - 1) None)
          by_number true e =
              let low = old.low in
              let high = old.high in
              let number : r.0 ≡ n = eqb-true r.0 n e in
              let listed : get_or (set serves (n - 1) now) (n - 1) None ≡ now = get_or-set_same serves (n - 1) now None (omega (arith, low, high, all)) in
              subst (λ k. Serves (server w k) (get_or (set serves (r.0 - 1) now) (k - 1) None)) number (subst (λ k. Serves (server w r.0) (get_or (set serves (k - 1) now) (k - 1) None)) (sym number) (subst (Serves (server w r.0)) (sym listed) serve))
          by_number false e =
              let low = old.low in
              let low' = here.low in
              let apart : r.0 ≢ n = (λ f. clash _ (ap (λ k. k == n) f ∙ equal_self n) e) in
              let apart' : n - 1 ≢ r.0 - 1 = (λ f. apart (omega (arith, f, low, low'))) in
              let mine : server w n ≡ server v n = ap (λ (u : Served). server u n) end ∙ server-set v r.0 n one here.low old ∙ ap (λ b. if b then one else server v n) e in
              let listed : get_or (set serves (r.0 - 1) now) (n - 1) None ≡ served_at serves n = get_or-set_other serves (r.0 - 1) (n - 1) now None apart' in
              rw (mine, listed) (but.serves_at n old e)
