-- What is kept of a processor, where it is what the definitions give: which step may come next, and what comes of it.
use Rattle.std.proofs.Common.{◌≡◌, ◌⊎◌, ℕ, ◌+◌, ◌-◌, ◌<◌, Bool, true, false, not, ◌&&◌, ◌||◌, inl, inr, refl, sym, ap, ◌∙◌, subst, arith}
use Rattle.std.specs.Prelude.{◌==◌, nat_le, Option, Some}
use Rattle.rt_base.specs.declared.TheConstants.{MOST_TURN_ACTS}
use Rattle.std.proofs.lemmas.Bool.Decides.{nat_tests}
use Rattle.rt_task.specs.declared.Act.{Act}
use Rattle.rt_task.specs.declared.Act.TheVariants as acts
use Rattle.rt_task.specs.declared.Step.{Step}
use Rattle.rt_model.specs.Group.{Group}
use Rattle.rt_model.specs.Past.{Past}
use Rattle.rt_model.specs.Situations.{situation, next_act}
use Rattle.rt_plays.specs.BodyPlays as plays
use Rattle.rt_plays.specs.Drives.{horizon}
use Rattle.rt_plays.specs.NextSteps.{step_at, act_going_on, going_on, beginning, MayComeNext}
use Rattle.rt_plays.specs.Turns as defs
use Rattle.rt_plays.specs.Turns.{is_tick, turns_begun, steps_since, had_none, has_left}
use Rattle.rt_plays.proofs.StepLaws as laws
use Rattle.rt_plays.proofs.TurnLaws.{between-lem, over-lem}
use Rattle.body_play.specs.declared.turn.Turn.{Turn}
use Rattle.body_play.specs.Turn.{Begins, GoesOn, act_on, has_ended, is_between}
use Rattle.body_play.specs.Turns.{IsTurnAt}

-- a turn is over by what was seen of its next act only where that counts
as-counted : (begun full kept told : Bool) → (begun && not full ≡ true → kept ≡ told) → begun && (full || kept) ≡ begun && (full || told)
as-counted true true kept told same = refl
as-counted true false kept told same = same refl
as-counted false full kept told same = refl

module _ (g : Group) (past : Past) (q : ℕ) (t : Turn) (is : IsTurnAt g past q t) where
  act_on-is : (next : Option Act) → next ≡ next_act g (situation g q past) → act_on t next ≡ act_going_on g q past
  unfolding act_going_on
  act_on-is next told = rw (is.since_is, told) refl

  pub between-is : is_between t ≡ defs.is_between g q past
  between-is =
      ap (λ (b : Bool). t.begun == 0 || b) (as-counted (nat_le 1 t.since) (nat_le (MOST_TURN_ACTS + 1) t.since) t.had_none (had_none g q past) is.none_is)
      ∙ rw (is.begun_is, is.since_is) (sym (between-lem g q past ∙ ap (λ (b : Bool). turns_begun q past == 0 || b) (over-lem g q past)))

  pub ended-is : has_ended t (horizon g.setup.drive) ≡ plays.has_ended g q past
  unfolding plays.has_ended has_left
  ended-is = rw (between-is, is.begun_is) refl

  module _ (s : Step) (own : s.cpu.0 ≡ q) (next : Option Act) (told : next ≡ next_act g (situation g q past)) where
    step-own : (n : ℕ) (act : Act) → s.tick.0 ≡ n → s.act ≡ act → step_at q n act ≡ s
    step-own n act tick is_act = sym (λ i. record { cpu = record { 0 = own i }; tick = record { 0 = tick i }; act = is_act i })

    -- it goes on with the turn
    going-there : GoesOn t next s → going_on g q past ≡ Some s
    unfolding going_on
    going-there on =
        let some : turns_begun q past == 0 ≡ false = (let b = on.begun in let e = is.begun_is in let low : 0 < turns_begun q past = omega (arith, b, e) in grind (arith, nat_tests, low)) in
        let act : act_going_on g q past ≡ Some s.act = sym (act_on-is next told) ∙ on.act_is in
        let number : s.tick.0 ≡ turns_begun q past - 1 = on.number ∙ ap (λ (n : ℕ). n - 1) is.begun_is in
        rw (some, act) (ap {B = Option Step} (λ (x : Step). Some x) (step-own (turns_begun q past - 1) s.act number refl))

    beginning-there : Begins t (horizon g.setup.drive) s → beginning g q past ≡ Some s
    beginning-there new =
        laws.tick-next g q past (sym between-is ∙ new.between) (subst (λ (n : ℕ). n < horizon g.setup.drive) is.begun_is new.left)
        ∙ ap {B = Option Step} (λ (x : Step). Some x) (step-own (turns_begun q past) acts.Tick (new.number ∙ is.begun_is) new.act_is)

    pub comes-next : GoesOn t next s ⊎ Begins t (horizon g.setup.drive) s → MayComeNext g past s
    comes-next (inl on) = inl (subst (λ (p : ℕ). going_on g p past ≡ Some s) (sym own) (going-there on))
    comes-next (inr new) = inr (subst (λ (p : ℕ). beginning g p past ≡ Some s) (sym own) (beginning-there new))

    -- and the other way round
    pub next-comes : MayComeNext g past s → GoesOn t next s ⊎ Begins t (horizon g.setup.drive) s
    next-comes (inl going) =
        let on : laws.GoesOn g past s = laws.goes-on g past s going in
        let begun : turns_begun s.cpu.0 past ≡ t.begun = ap (λ (p : ℕ). turns_begun p past) own ∙ sym is.begun_is in
        inl (record {
          begun = (let b = on.begun in omega (arith, b, begun));
          number = on.number ∙ ap (λ (n : ℕ). n - 1) begun;
          act_is = act_on-is next told ∙ ap (λ (p : ℕ). act_going_on g p past) (sym own) ∙ on.act_is;
        })
    next-comes (inr begin) =
        let new : laws.Begins g past s = laws.begins g past s begin in
        let begun : turns_begun s.cpu.0 past ≡ t.begun = ap (λ (p : ℕ). turns_begun p past) own ∙ sym is.begun_is in
        inr (record {
          act_is = new.tick;
          number = new.number ∙ begun;
          between = between-is ∙ ap (λ (p : ℕ). defs.is_between g p past) (sym own) ∙ new.between;
          left = (let l = new.left in omega (arith, l, begun));
        })

    -- one that goes on is no Tick
    pub no-tick : GoesOn t next s → is_tick s.act ≡ false
    no-tick on = (laws.goes-on g past s (subst (λ (p : ℕ). going_on g p past ≡ Some s) (sym own) (going-there on))).no_tick
