-- Why arranged orders keep the law of every book.
use Rattle.std.specs.Prelude.{◌≡◌, ℕ, ◌+◌, true, List, [], ◌∷◌, length, refl}
use Rattle.std.proofs.Common.{arith}
use Rattle.std.proofs.lemmas.Bool.{cond_both, and_parts}
use Rattle.rules.specs.Sides.{Rule}
use Rattle.books.specs.Arranging.{all_sound, arrange, arranged}
use Rattle.books.specs.Lists.{sound, put, AllSound}
use Rattle.books.specs.declared.standing.Standing.{Standing}

-- Sums over the orders, in whatever order they stand

sum_put : (F : List Standing → ℕ) (f : Standing → ℕ) → ((x : Standing) (xs : List Standing) → F (x ∷ xs) ≡ f x + F xs) →
    (rule : Rule) (o : Standing) (xs : List Standing) → F (put rule o xs) ≡ f o + F xs
sum_put F f e rule o [] = e o []
sum_put F f e rule o (x ∷ xs) =
    cond_both (rule.ahead o.price x.price) (o ∷ x ∷ xs) (x ∷ put rule o xs) (λ l. F l ≡ f o + F (x ∷ xs))
    (λ _. e o (x ∷ xs))
    (λ _. omega (arith, e x (put rule o xs), e x xs, sum_put F f e rule o xs))

pub sum_arrange : (F : List Standing → ℕ) (f : Standing → ℕ) → ((x : Standing) (xs : List Standing) → F (x ∷ xs) ≡ f x + F xs) →
    F [] ≡ 0 → (rule : Rule) (xs list : List Standing) → F (arrange rule xs list) ≡ F xs + F list
sum_arrange F f e z rule [] list = omega arith
sum_arrange F f e z rule (x ∷ xs) list =
    omega (arith, sum_arrange F f e z rule xs (put rule x list), sum_put F f e rule x list, e x xs)

pub length_arrange : (rule : Rule) (xs list : List Standing) → length (arrange rule xs list) ≡ length xs + length list
length_arrange = sum_arrange length (λ _. 1) (λ _ _. omega arith) refl

pub length_arranged : (rule : Rule) (os : List Standing) → length (arranged rule os) ≡ length os
length_arranged rule os = omega (arith, length_arrange rule os [])

pub sound_put : (rule : Rule) (o : Standing) (xs : List Standing) → sound o ≡ true → AllSound xs → AllSound (put rule o xs)
sound_put rule o [] s h = (s, tt)
sound_put rule o (x ∷ xs) s h =
    cond_both (rule.ahead o.price x.price) (o ∷ x ∷ xs) (x ∷ put rule o xs) AllSound
    (λ _. (s, h)) (λ _. (h.0, sound_put rule o xs s h.1))

pub sound_arrange : (rule : Rule) (xs list : List Standing) → all_sound xs ≡ true → AllSound list →
    AllSound (arrange rule xs list)
sound_arrange rule [] list s h = h
sound_arrange rule (x ∷ xs) list s h =
    let p = and_parts (sound x) (all_sound xs) s in
    sound_arrange rule xs (put rule x list) p.1 (sound_put rule x list p.0 h)
