-- Fields that were put one after the other are a line.
use Rattle.std.proofs.Common.{◌≡◌, ◌∙◌, ℕ, List, [], ◌∷◌, ◌++◌, ap, append_assoc}
use Rattle.table_texts.specs.Fields.{line_of}

-- a text to which one part was put and then another
pub chain : (o a b x y : List ℕ) → a ≡ o ++ x → b ≡ a ++ y → b ≡ o ++ (x ++ y)
chain o a b x y e f = f ∙ ap (λ xs. xs ++ y) e ∙ append_assoc o x y

-- the lines of jobs, and of tasks
pub line-18 : (a1 a2 a3 a4 a5 a6 a7 a8 a9 a10 a11 a12 a13 a14 a15 a16 a17 a18 : List ℕ)
    → (((((((((((((((((a1 ++ 44 ∷ []) ++ (a2 ++ 44 ∷ [])) ++ (a3 ++ 44 ∷ [])) ++ (a4 ++ 44 ∷ [])) ++ (a5 ++ 44 ∷ [])) ++ (a6 ++ 44 ∷ [])) ++ (a7 ++ 44 ∷ [])) ++ (a8 ++ 44 ∷ [])) ++ (a9 ++ 44 ∷ [])) ++ (a10 ++ 44 ∷ [])) ++ (a11 ++ 44 ∷ [])) ++ (a12 ++ 44 ∷ [])) ++ (a13 ++ 44 ∷ [])) ++ (a14 ++ 44 ∷ [])) ++ (a15 ++ 44 ∷ [])) ++ (a16 ++ 44 ∷ [])) ++ (a17 ++ 44 ∷ [])) ++ (a18 ++ 10 ∷ [])
    ≡ line_of (a1 ∷ a2 ∷ a3 ∷ a4 ∷ a5 ∷ a6 ∷ a7 ∷ a8 ∷ a9 ∷ a10 ∷ a11 ∷ a12 ∷ a13 ∷ a14 ∷ a15 ∷ a16 ∷ a17 ∷ a18 ∷ [])
line-18 a1 a2 a3 a4 a5 a6 a7 a8 a9 a10 a11 a12 a13 a14 a15 a16 a17 a18 = simp append_assoc

pub line-16 : (a1 a2 a3 a4 a5 a6 a7 a8 a9 a10 a11 a12 a13 a14 a15 a16 : List ℕ)
    → (((((((((((((((a1 ++ 44 ∷ []) ++ (a2 ++ 44 ∷ [])) ++ (a3 ++ 44 ∷ [])) ++ (a4 ++ 44 ∷ [])) ++ (a5 ++ 44 ∷ [])) ++ (a6 ++ 44 ∷ [])) ++ (a7 ++ 44 ∷ [])) ++ (a8 ++ 44 ∷ [])) ++ (a9 ++ 44 ∷ [])) ++ (a10 ++ 44 ∷ [])) ++ (a11 ++ 44 ∷ [])) ++ (a12 ++ 44 ∷ [])) ++ (a13 ++ 44 ∷ [])) ++ (a14 ++ 44 ∷ [])) ++ (a15 ++ 44 ∷ [])) ++ (a16 ++ 10 ∷ [])
    ≡ line_of (a1 ∷ a2 ∷ a3 ∷ a4 ∷ a5 ∷ a6 ∷ a7 ∷ a8 ∷ a9 ∷ a10 ∷ a11 ∷ a12 ∷ a13 ∷ a14 ∷ a15 ∷ a16 ∷ [])
line-16 a1 a2 a3 a4 a5 a6 a7 a8 a9 a10 a11 a12 a13 a14 a15 a16 = simp append_assoc
