-- Texts that are put one behind the other.
use Rattle.std.proofs.Common.{◌≡◌, ◌∙◌, ℕ, List, ◌++◌, sym, ap, append_assoc}

pub two_put : (o a b m n : List ℕ) → m ≡ o ++ a → n ≡ m ++ b → n ≡ o ++ (a ++ b)
two_put o a b m n h k = k ∙ ap (λ z. z ++ b) h ∙ append_assoc o a b

pub three_put : (o a b c m n r : List ℕ) → m ≡ o ++ a → n ≡ m ++ b → r ≡ n ++ c → r ≡ o ++ (a ++ (b ++ c))
three_put o a b c m n r h k l = two_put o a (b ++ c) m r h (two_put m b c n r k l)

pub four_put : (o a b c d m n r s : List ℕ) → m ≡ o ++ a → n ≡ m ++ b → r ≡ n ++ c → s ≡ r ++ d → s ≡ o ++ (a ++ (b ++ (c ++ d)))
four_put o a b c d m n r s h k l j = two_put o a (b ++ (c ++ d)) m s h (three_put m b c d n r s k l j)

pub five_put : (o a b c d e m n r s t : List ℕ) → m ≡ o ++ a → n ≡ m ++ b → r ≡ n ++ c → s ≡ r ++ d → t ≡ s ++ e → t ≡ o ++ (a ++ (b ++ (c ++ (d ++ e))))
five_put o a b c d e m n r s t h k l j i = two_put o a (b ++ (c ++ (d ++ e))) m t h (four_put m b c d e n r s t k l j i)

pub seven_put : (o a b c d e f g m n r s t u v : List ℕ) → m ≡ o ++ a → n ≡ m ++ b → r ≡ n ++ c → s ≡ r ++ d → t ≡ s ++ e → u ≡ t ++ f → v ≡ u ++ g
    → v ≡ o ++ (a ++ (b ++ (c ++ (d ++ (e ++ (f ++ g))))))
seven_put o a b c d e f g m n r s t u v h k l j i p q = three_put o a b (c ++ (d ++ (e ++ (f ++ g)))) m n v h k (five_put n c d e f g r s t u v l j i p q)

-- what is put at the end of the last part is put at the end of the whole
pub last_put : (front last new whole xs : List ℕ) → front ++ last ≡ whole → new ≡ last ++ xs → front ++ new ≡ whole ++ xs
last_put front last new whole xs h k = ap (λ z. front ++ z) k ∙ sym (append_assoc front last xs) ∙ ap (λ z. z ++ xs) h
