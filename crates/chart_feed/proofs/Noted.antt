-- The clocks of one task of a list are changed, and follow the acts.
use Rattle.std.proofs.Common.{◌≡◌, ◌∙◌, ℕ, ◌<◌, ◌≢◌, Bool, true, false, ◌&&◌, List, [], ◌∷◌, length, get_or, refl, sym, ap, eqb-true}
use Rattle.std.specs.Prelude.{None, ◌==◌, if◌then◌else◌}
use Rattle.std.proofs.Math.ListN.{set}
use Rattle.std.proofs.lemmas.Bool.{false≢true}
use Rattle.std.proofs.lemmas.List.{get_or-set_other, get_or-set_same, get_or_default}
use Rattle.rt_task.specs.declared.Act.{Act}
use Rattle.rt_task.specs.declared.Act.TheVariants as acts
use Rattle.rt_rules.specs.declared.history.Reply.{Reply}
use Rattle.rt_rules.specs.Numbers.{is}
use Rattle.rt_rules.proofs.BoolLaws.{and_false, and_true}
use Rattle.rt_rules.proofs.MemberLaws.{equal_self}
use Rattle.rt_model.specs.Past.{Acted, Clock, Past, PastAct, accepted, now}
use Rattle.rt_model.specs.Releases.{arrivals, arrives}
use Rattle.chart_feed.specs.Clocks.{ClocksKept, Keeps, arrived, arrived_by, arrived_task, clocks_at, clocks_of, ended, no_clocks}
use Rattle.chart_feed.specs.Times.{end_clocks}

module _ (f : Bool → ClocksKept → ClocksKept) (none : (k : ClocksKept) → f false k ≡ k) (xs : List ClocksKept) (u : ℕ) (x v : ClocksKept) (low : u < length xs) (made : v ≡ f true (get_or xs u x)) where
  pub updated : (t : ℕ) → t < length xs → clocks_at (set xs u v) t ≡ f (t == u) (clocks_at xs t)
  updated t within = by_case (t == u) refl
    where
      by_case : (b : Bool) → t == u ≡ b → clocks_at (set xs u v) t ≡ f b (clocks_at xs t)
      by_case true m =
          let same : t ≡ u = eqb-true t u m in
          ap (clocks_at (set xs u v)) same ∙ get_or-set_same xs u v no_clocks low ∙ made ∙ ap (f true) (get_or_default xs u x no_clocks low ∙ ap (clocks_at xs) (sym same))
      by_case false m =
          let other : t ≢ u = λ e. false≢true (sym m ∙ ap (λ i. i == u) e ∙ equal_self u) in
          get_or-set_other xs u t v no_clocks other ∙ sym (none (clocks_at xs t))

arrives-is : (t : ℕ) (act : Act) (reply : Reply) → is t (arrived_task act reply) ≡ arrives t act && accepted reply
arrives-is t act reply = by_case act (accepted reply)
  where
    by_case : (a : Act) (b : Bool) → is t (if b then arrived_by a else None) ≡ arrives t a && b
    by_case acts.Tick true = refl
    by_case acts.Tick false = refl
    by_case acts.Irq true = refl
    by_case acts.Irq false = refl
    by_case (acts.Arrive u) true = sym (and_true (t == u.0))
    by_case (acts.Arrive u) false = sym (and_false (t == u.0))
    by_case (acts.Do op) true = refl
    by_case (acts.Do op) false = refl

pub opened : (t : ℕ) → clocks_of t [] ≡ no_clocks
unfolding arrivals end_clocks
opened t = refl

pub keeps-clocked : (tick : ℕ) (past : Past) (ks : List ClocksKept) → Keeps ks past → Keeps ks (Clock tick ∷ past)
unfolding arrivals end_clocks
keeps-clocked tick past ks h = h

pub noted : (t : ℕ) (d : PastAct) (past : Past) (k : ClocksKept) → k ≡ clocks_of t past → ended (is t d.ended) (now past) (arrived (is t (arrived_task d.act d.reply)) (now past) k) ≡ clocks_of t (Acted d ∷ past)
unfolding arrivals end_clocks
noted t d past k is_kept =
    ap (λ x. ended (is t d.ended) (now past) (arrived (is t (arrived_task d.act d.reply)) (now past) x)) is_kept
    ∙ ap (λ b. ended (is t d.ended) (now past) (arrived b (now past) (clocks_of t past))) (arrives-is t d.act d.reply)
