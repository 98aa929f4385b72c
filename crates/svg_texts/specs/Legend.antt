-- The legend: fifteen drawings, each with its words, three in a row. A drawing at x stands over z.
use Rattle.std.specs.Prelude.{ℕ, ◌+◌, ◌-◌, Bool, true, false, List, ◌++◌, codes}
use Rattle.svg_texts.specs.Bars.{bar}
use Rattle.svg_texts.specs.Shapes.{deadline, end, rect, release, words}

unfoldable pub says : ℕ → ℕ → List ℕ → List ℕ
says x z s = words (codes "t") (x + 42) (z - 8) s

-- a box as high as a bar, with a strip of another class that many pixels above its foot
abbrev pub box : List ℕ → ℕ → ℕ → List ℕ
box c x z = rect c x (z - 24) 30 22

abbrev pub over : List ℕ → ℕ → ℕ → ℕ → ℕ → List ℕ
over c x z up h = rect c x (z - up) 30 h

abbrev pub sample : Bool → ℕ → ℕ → List ℕ
sample full x z = bar full 1 x (z - 24) 30 22 (codes "0")

-- a deadline; a box; a bar with a strip over it; each with its words
abbrev pub deadline_item : List ℕ → ℕ → ℕ → List ℕ → List ℕ
deadline_item c x z s = deadline c (x + 15) z ++ says x z s

abbrev pub box_item : List ℕ → ℕ → ℕ → List ℕ → List ℕ
box_item c x z s = box c x z ++ says x z s

unfoldable pub strip_item : List ℕ → ℕ → ℕ → ℕ → ℕ → List ℕ → List ℕ
strip_item c x z up h s = box (codes "c0") x z ++ (over c x z up h ++ says x z s)

unfoldable pub mark_items : ℕ → List ℕ
mark_items z =
    release 35 z ++ (says 20 z (codes "release, at the start of its tick")
    ++ (deadline_item (codes "d") 350 z (codes "deadline, at the end of its tick")
    ++ deadline_item (codes "M") 680 z (codes "deadline missed")))

unfoldable pub bar_items : ℕ → List ℕ
bar_items z =
    end 35 z ++ (says 20 z (codes "end of a job")
    ++ (sample true 350 z ++ (says 350 z (codes "units of work, on processor 0")
    ++ (sample false 680 z ++ says 680 z (codes "runs on 0, and does no unit")))))

unfoldable pub still_items : ℕ → List ℕ
still_items z =
    over (codes "y") 20 z 14 3 ++ (says 20 z (codes "there, not running")
    ++ (over (codes "z") 350 z 14 3 ++ (says 350 z (codes "sleeps")
    ++ box_item (codes "w") 680 z (codes "waits for a semaphore"))))

unfoldable pub section_items : ℕ → List ℕ
section_items z =
    box_item (codes "B") 20 z (codes "waits, priority-blocked")
    ++ (strip_item (codes "s") 350 z 8 6 (codes "holds the semaphore below")
    ++ strip_item (codes "p") 680 z 24 3 (codes "non-preemptive"))

-- a bar of a processor over its link, and what is left of a budget
unfoldable pub link_item : ℕ → List ℕ
link_item z =
    over (codes "c0") 350 z 24 18 ++ (over (codes "c1") 350 z 4 4 ++ says 350 z (codes "what a processor runs; its link"))

unfoldable pub budget_item : ℕ → List ℕ
budget_item z =
    over (codes "c0") 680 z 10 10 ++ (words (codes "m") 695 (z - 2) (codes "1") ++ says 680 z (codes "budget left of a reservation"))

unfoldable pub strip_items : ℕ → List ℕ
strip_items z =
    strip_item (codes "k") 20 z 28 4 (codes "key raised: inherited or boosted") ++ (link_item z ++ budget_item z)

unfoldable pub legend : ℕ → List ℕ
legend y = mark_items (y + 44) ++ (bar_items (y + 88) ++ (still_items (y + 132) ++ (section_items (y + 176) ++ strip_items (y + 220))))
