use Rattle.std.proofs.Common.{◌≡◌, ◌+◌, ◌<◌, ℕ, zero, suc, List, map, length, take, get_or, Bool, true, false, [], ◌∷◌, ◌++◌, Bor, Option, Some, cond, refl, ap, sym, ◌∙◌, arith, length-take}
use Rattle.std.specs.Prelude.{bytes_eq, unwrap_or}
use Rattle.std.proofs.lemmas.List.{take_more, map-append, length-map}
use Rattle.indexmap.specs.IndexMap.{get_by}
use Rattle.set_read.specs.Document.{position_from}
use Rattle.set_read.proofs.NameLaws.{name_present, name_new}
use Rattle.set_read.proofs.names.numbers_of.Goals as goal
use Rattle.set_read.proofs.names.numbers_of.Goals.{then-number_at-eq0+in_ok-insert, else-number_at-eq0}

texts : List (Bor (List ℕ)) → List (List ℕ)
texts ns = map (λ k. k.now) ns

texts_more : (ns : List (Bor (List ℕ))) (i : ℕ) (d : Bor (List ℕ)) → i < length ns → texts (take (i + 1) ns) ≡ texts (take i ns) ++ (get_or ns i d).now ∷ []
unfolding texts
texts_more ns i d h = ap (map (λ k. k.now)) (take_more ns i d h) ∙ map-append (λ k. k.now) (take i ns) (get_or ns i d ∷ [])

texts_length : (ns : List (Bor (List ℕ))) (i : ℕ) → i < length ns → length (texts (take i ns)) ≡ i
unfolding texts
texts_length ns i h = length-map (take i ns) (λ k. k.now) ∙ (let e = length-take i ns in omega arith)

chosen : (b : Bool) (v : ℕ) (o : Option ℕ) (p : ℕ) → unwrap_or o 0 ≡ p → unwrap_or (cond b (Some v) o) 0 ≡ cond b v p
chosen true v o p e = refl
chosen false v o p e = e

positive : (n : ℕ) → (n ≡ 0 → ⊥) → 0 < n
positive zero h = absurd (h refl)
positive (suc n) h = omega arith

pub loop-i-preserved : goal.loop-i-preserved
unfolding texts
loop-i-preserved c = λ word.
    let ns = c.args.names.now in
    let i = c.loop-i.i in
    let d : Bor (List ℕ) = record { ref_ptr = (0, 0); now = [] } in
    let name = get_or ns i d in
    let lt : i < length ns = c.loop-i-test.true in
    let before = texts (take i ns) in
    let number : c.number_at.result ≡ position_from 1 before name.now = c.number_at.ensures ∙ c.loop-i.invariant name.now in
    elim c.if-number_at-eq0.branch [
      | then-number_at-eq0+in_ok-insert w ↦ (
          let found = (w.in_ok-insert.ensures.updates).0 (record name { now = word }) in
          let new = name_new before name.now word (sym number ∙ w.if-number_at-eq0.true) in
          ap (λ m. unwrap_or (get_by (λ k. bytes_eq word k.now) m) 0) w.index-is
          ∙ ap (λ o. unwrap_or o 0) found
          ∙ chosen (bytes_eq name.now word) (i + 1) _ _ (c.loop-i.invariant word)
          ∙ ap (λ n. cond (bytes_eq name.now word) n (position_from 1 before word)) (let e = texts_length ns i lt in omega arith)
          ∙ sym new
          ∙ ap (λ xs. position_from 1 xs word) (sym (texts_more ns i d lt)))
      | else-number_at-eq0 w ↦ (
          let known = name_present before name.now word (let h = w.if-number_at-eq0.false in let e = number in positive (position_from 1 before name.now) (λ z. h (e ∙ z))) in
          ap (λ m. unwrap_or (get_by (λ k. bytes_eq word k.now) m) 0) w.index-is
          ∙ c.loop-i.invariant word
          ∙ sym known
          ∙ ap (λ xs. position_from 1 xs word) (sym (texts_more ns i d lt)))
    ]
