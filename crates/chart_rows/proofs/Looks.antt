-- The cell of a state is that of what the task does in it; and one that is kept gives way to it where that shows more.
use Rattle.std.proofs.Common.{◌≡◌, ◌∙◌, ℕ, Bool, true, false, refl, sym, ap, arith}
use Rattle.std.specs.Prelude.{nat_lt, Option, None, Some, if◌then◌else◌}
use Rattle.std.proofs.lemmas.Bool.Decides.{nat_tests}
use Rattle.rt_model.specs.Blocking.{is_blocked}
use Rattle.rt_model.specs.Group.{Group}
use Rattle.rt_model.specs.Holders.{awaits}
use Rattle.rt_model.specs.Past.{Past}
use Rattle.rt_model.specs.Releases.{exists}
use Rattle.rt_model.specs.Sleep.{sleeps}
use Rattle.trace_views.specs.Cells.{TaskCell, cell_at, cell_away}
use Rattle.trace_views.specs.Cells as cells
use Rattle.chart_cells.specs.Kept.{later, rank, seen_as, state_cell}
use Rattle.chart_rows.specs.Looks.{cell_for, doing_by, is_away, state_doing, there_by}

module _ (g : Group) (t : ℕ) (x : Past) where
  by-wait : (o : Option ℕ) → seen_as g t x o ≡ cell_for g t (doing_by g t x o) x
  by-wait (Some s) = by_case (is_blocked g t x)
    where
      by_case : (b : Bool) → cell_at g (if b then cells.blocked s else cells.waits s) t x ≡ cell_for g t (if b then cells.blocked s else cells.waits s) x
      by_case true = refl
      by_case false = refl
  by-wait None = by_case (sleeps t x) (exists g t x)
    where
      by_case : (a b : Bool) → (if a then cell_at g cells.sleeping t x else (if b then cell_at g cells.ready t x else cell_away g)) ≡ cell_for g t (there_by a b) x
      by_case true b = refl
      by_case false true = refl
      by_case false false = refl

  pub state-cell : state_cell g t x ≡ cell_for g t (state_doing g t x) x
  state-cell = by-wait (awaits g t x)

  cell-there : (d : cells.Doing) → is_away d ≡ false → d ≡ state_doing g t x → cell_at g d t x ≡ state_cell g t x
  cell-there d there is = sym (state-cell ∙ ap (λ e. cell_for g t e x) (sym is) ∙ ap (λ (b : Bool). if b then cell_away g else cell_at g d t x) there)

  -- ---- the cell that is kept

  pub for-rank : (d : cells.Doing) → rank (cell_for g t d x).doing ≡ rank d
  unfolding cell_at
  for-rank (cells.works qs) = refl
  for-rank (cells.blocked s) = refl
  for-rank (cells.waits s) = refl
  for-rank cells.sleeping = refl
  for-rank (cells.running qs) = refl
  for-rank cells.ready = refl
  for-rank cells.away = refl

  some-rank : (n : ℕ) (d : cells.Doing) → nat_lt n (rank d) ≡ true → is_away d ≡ false
  some-rank n (cells.works qs) over = refl
  some-rank n (cells.blocked s) over = refl
  some-rank n (cells.waits s) over = refl
  some-rank n cells.sleeping over = refl
  some-rank n (cells.running qs) over = refl
  some-rank n cells.ready over = refl
  some-rank n cells.away over = absurd (grind (arith, nat_tests, over))

  module _ (kept : TaskCell) (d : cells.Doing) (is : d ≡ state_doing g t x) where
    same-test : nat_lt (rank kept.doing) (rank (state_cell g t x).doing) ≡ nat_lt (rank kept.doing) (rank d)
    same-test = ap (λ (c : TaskCell). nat_lt (rank kept.doing) (rank c.doing)) state-cell ∙ ap (nat_lt (rank kept.doing)) (for-rank (state_doing g t x) ∙ ap rank (sym is))

    pub later-shown : nat_lt (rank kept.doing) (rank d) ≡ true → cell_at g d t x ≡ later kept (state_cell g t x)
    later-shown over = cell-there d (some-rank (rank kept.doing) d over) is ∙ ap (λ b. if b then state_cell g t x else kept) (sym (same-test ∙ over))

    pub later-kept : nat_lt (rank kept.doing) (rank d) ≡ false → kept ≡ later kept (state_cell g t x)
    later-kept under = ap (λ b. if b then state_cell g t x else kept) (sym (same-test ∙ under))
