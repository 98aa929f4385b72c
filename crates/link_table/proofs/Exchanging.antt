-- The exchange, place by place.
use Rattle.std.proofs.Common.{◌≡◌, ℕ, zero, suc, ◌<◌, ◌≤◌, true, false, List, [], ◌∷◌, length, set, refl, ap, arith, eqb-true, ◌∙◌}
use Rattle.std.specs.Prelude.{Option, None, Some, is_some}
use Rattle.rt_rules.specs.Numbers.{same}
use Rattle.rt_rules.specs.Placing.{link_at}
use Rattle.rt_rules.proofs.MemberLaws.{equal_self, turned}
use Rattle.link_table.specs.Linked.{exchanged, first_taken_by, without_link}

-- the exchange at all places but the first q, which are done
abbrev pub exchanged_from : ℕ → Option ℕ → Option ℕ → List (Option ℕ) → List (Option ℕ)
exchanged_from zero left came ls = exchanged left came ls
exchanged_from (suc q) left came [] = []
exchanged_from (suc q) left came (l ∷ ls) = l ∷ exchanged_from q left came ls

taken-here : (came : Option ℕ) (ls : List (Option ℕ)) → first_taken_by came (None ∷ ls) ≡ came ∷ ls
taken-here None ls = refl
taken-here (Some t) ls = refl

taken-later : (came : Option ℕ) (u : ℕ) (ls : List (Option ℕ)) → first_taken_by came (Some u ∷ ls) ≡ Some u ∷ first_taken_by came ls
taken-later None u ls = refl
taken-later (Some t) u ls = refl

without-here : (l left : Option ℕ) (ls : List (Option ℕ)) → same l left ≡ true → without_link left (l ∷ ls) ≡ None ∷ ls
without-here None None ls e = refl
without-here None (Some t) ls e = cc
without-here (Some u) None ls e = cc
without-here (Some u) (Some t) ls e = let one : u ≡ t = eqb-true u t e in rw (one, equal_self) refl

without-later : (u : ℕ) (left : Option ℕ) (ls : List (Option ℕ)) → same (Some u) left ≡ false → without_link left (Some u ∷ ls) ≡ Some u ∷ without_link left ls
without-later u None ls e = refl
without-later u (Some t) ls e = rw (turned t u, e) refl

-- the place of the task that left ends the exchange
pub from-found : (q : ℕ) (left came : Option ℕ) (ls : List (Option ℕ)) → q < length ls → same (link_at ls q) left ≡ true → exchanged_from q left came ls ≡ set ls q came
from-found q left came [] low e = absurd (omega arith)
from-found zero left came (l ∷ ls) low e = ap (first_taken_by came) (without-here l left ls e) ∙ taken-here came ls
from-found (suc q) left came (l ∷ ls) low e = ap (λ xs. l ∷ xs) (from-found q left came ls (omega arith) e)

-- a processor that is left takes the task that came
pub from-free : (q : ℕ) (left came : Option ℕ) (ls : List (Option ℕ)) → q < length ls → same (link_at ls q) left ≡ false → is_some (link_at ls q) ≡ false
    → exchanged_from q left came ls ≡ exchanged_from (suc q) left None (set ls q came)
from-free q left came [] low e free = absurd (omega arith)
from-free zero left came (Some u ∷ ls) low e free = cc
from-free zero None came (None ∷ ls) low e free = cc
from-free zero (Some t) came (None ∷ ls) low e free = taken-here came (without_link (Some t) ls)
from-free (suc q) left came (l ∷ ls) low e free = ap (λ xs. l ∷ xs) (from-free q left came ls (omega arith) e free)

-- another link stays
pub from-other : (q : ℕ) (left came : Option ℕ) (ls : List (Option ℕ)) → q < length ls → same (link_at ls q) left ≡ false → is_some (link_at ls q) ≡ true
    → exchanged_from q left came ls ≡ exchanged_from (suc q) left came ls
from-other q left came [] low e taken = absurd (omega arith)
from-other zero left came (None ∷ ls) low e taken = cc
from-other zero left came (Some u ∷ ls) low e taken = ap (first_taken_by came) (without-later u left ls e) ∙ taken-later came u (without_link left ls)
from-other (suc q) left came (l ∷ ls) low e taken = ap (λ xs. l ∷ xs) (from-other q left came ls (omega arith) e taken)

-- all places are done
pub from-past : (q : ℕ) (left came : Option ℕ) (ls : List (Option ℕ)) → length ls ≤ q → exchanged_from q left came ls ≡ ls
from-past zero None None [] past = refl
from-past zero None (Some t) [] past = refl
from-past zero (Some u) None [] past = refl
from-past zero (Some u) (Some t) [] past = refl
from-past zero left came (l ∷ ls) past = absurd (omega arith)
from-past (suc q) left came [] past = refl
from-past (suc q) left came (l ∷ ls) past = ap (λ xs. l ∷ xs) (from-past q left came ls (omega arith))
