use Rattle.std.proofs.Common.{◌≡◌, map, drop}
use Rattle.set_read.specs.Forms as forms
use Rattle.set_read.proofs.forms.is_among.Given as goal

-- the words that are left decide
abbrev pub invariant-loop-w : goal.invariant-loop-w
invariant-loop-w l = forms.is_among (map (λ w. w.now) (drop l.w-index l.words)) l.word ≡ forms.is_among (map (λ w. w.now) l.words) l.word
