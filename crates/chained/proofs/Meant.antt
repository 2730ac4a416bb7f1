-- What the walks and moves along indices mean for the orders there.
use Rattle.std.proofs.Common.{◌≡◌, ℕ, ◌<◌, Bool, true, false, cond, not, eqb, List, [], ◌∷◌, map, is_some, IfSome, Option, Some, None, refl, ap, arith}
use Rattle.std.proofs.lemmas.Bool.{cond_both, and_parts, and_from}
use Rattle.rules.specs.Sides.{Rule}
use Rattle.books.specs.Lists.{find, put, without, sound}
use Rattle.books.specs.declared.standing.Standing.{Standing}
use Rattle.chained.specs.Links.{times, first}
use Rattle.books.specs.Arranging.{all_sound}
use Rattle.chained.proofs.Chain.{put_in, cut_out, times_here, times_tail}

-- equal along the list
abbrev pub Agree : (p q : ℕ → Standing) → List ℕ → Type 0
Agree p q xs = (j : ℕ) → 0 < times j xs → q j ≡ p j

pub agree_head : (p q : ℕ → Standing) (x : ℕ) (xs : List ℕ) → Agree p q (x ∷ xs) → q x ≡ p x
agree_head p q x xs same = same x (omega (arith, times_here x xs))

pub agree_tail : (p q : ℕ → Standing) (x : ℕ) (xs : List ℕ) → Agree p q (x ∷ xs) → Agree p q xs
agree_tail p q x xs same j h = same j (omega (arith, times_tail j x xs))

pub map_same : (p q : ℕ → Standing) (xs : List ℕ) → Agree p q xs → map q xs ≡ map p xs
map_same p q [] same = refl
map_same p q (x ∷ xs) same =
    let head = agree_head p q x xs same in
    let tail = map_same p q xs (agree_tail p q x xs same) in
    cc

pub map_put : (rule : Rule) (o : Standing) (p q : ℕ → Standing) (k : ℕ) (xs : List ℕ) → q k ≡ o → Agree p q xs → map q (put_in (λ j. rule.ahead o.price (p j).price) k xs) ≡ put rule o (map p xs)
map_put rule o p q k [] here same = ap (λ y. y ∷ []) here
map_put rule o p q k (x ∷ xs) here same =
    let b : ℕ → Bool = λ j. rule.ahead o.price (p j).price in
    let Q : Bool → Type 0 =
    λ t. map q (cond t (k ∷ x ∷ xs) (x ∷ put_in b k xs)) ≡ cond t (o ∷ map p (x ∷ xs)) (p x ∷ put rule o (map p xs)) in
    let head = agree_head p q x xs same in
    let all = map_same p q (x ∷ xs) same in
    let tail = map_put rule o p q k xs here (agree_tail p q x xs same) in
    elim (b x) as Q [ true ↦ cc | false ↦ cc ]

pub map_cut : (number : ℕ) (p q : ℕ → Standing) (xs : List ℕ) → Agree p q xs → map q (cut_out (λ j. eqb (p j).number number) xs) ≡ without number (map p xs)
map_cut number p q [] same = refl
map_cut number p q (x ∷ xs) same =
    let b : ℕ → Bool = λ j. eqb (p j).number number in
    let Q : Bool → Type 0 = λ t. map q (cond t xs (x ∷ cut_out b xs)) ≡ cond t (map p xs) (p x ∷ without number (map p xs)) in
    let head = agree_head p q x xs same in
    let rest = map_same p q xs (agree_tail p q x xs same) in
    let tail = map_cut number p q xs (agree_tail p q x xs same) in
    elim (b x) as Q [ true ↦ cc | false ↦ cc ]

pub find_some : (number : ℕ) (p : ℕ → Standing) (xs : List ℕ) → 0 < first (λ j. eqb (p j).number number) xs → find number (map p xs) ≡ Some (p (first (λ j. eqb (p j).number number) xs))
find_some number p [] some = absurd (omega arith)
find_some number p (x ∷ xs) some =
    let b : ℕ → Bool = λ j. eqb (p j).number number in
    let Q : Bool → Type 0 =
    λ t. 0 < cond t x (first b xs) → cond t (Some (p x)) (find number (map p xs)) ≡ Some (p (cond t x (first b xs))) in
    let step : Q (b x) = elim (b x) as Q [ true ↦ λ _. refl | false ↦ λ h. find_some number p xs h ] in
    step some

pub find_none : (number : ℕ) (p : ℕ → Standing) (xs : List ℕ) → times 0 xs ≡ 0 → first (λ j. eqb (p j).number number) xs ≡ 0 → find number (map p xs) ≡ None
find_none number p [] pos none = refl
find_none number p (x ∷ xs) pos none =
    let b : ℕ → Bool = λ j. eqb (p j).number number in
    let Q : Bool → Type 0 =
    λ t. cond t x (first b xs) ≡ 0 → cond t (Some (p x)) (find number (map p xs)) ≡ None in
    let at_zero : x ≡ 0 → ⊥ = λ e. omega (arith, times_here x xs, ap (λ y. times y (x ∷ xs)) e) in
    let step : Q (b x) =
    elim (b x) as Q [ true ↦ λ e. absurd (at_zero e) | false ↦ λ e. find_none number p xs (omega (arith, times_tail 0 x xs)) e ] in
    step none

-- Soundness

pub all_put : (rule : Rule) (o : Standing) (os : List Standing) → sound o ≡ true → all_sound os ≡ true → all_sound (put rule o os) ≡ true
all_put rule o [] good all = and_from (sound o) true good refl
all_put rule o (x ∷ xs) good all =
    let two = and_parts (sound x) (all_sound xs) all in
    let P : List Standing → Type 0 = λ ys. all_sound ys ≡ true in
    cond_both (rule.ahead o.price x.price) (o ∷ x ∷ xs) (x ∷ put rule o xs) P
    (λ _. and_from (sound o) (all_sound (x ∷ xs)) good all)
    (λ _. and_from (sound x) (all_sound (put rule o xs)) two.0 (all_put rule o xs good two.1))

pub all_without : (number : ℕ) (os : List Standing) → all_sound os ≡ true → all_sound (without number os) ≡ true
all_without number [] all = refl
all_without number (x ∷ xs) all =
    let two = and_parts (sound x) (all_sound xs) all in
    let P : List Standing → Type 0 = λ ys. all_sound ys ≡ true in
    cond_both (eqb x.number number) xs (x ∷ without number xs) P (λ _. two.1)
    (λ _. and_from (sound x) (all_sound (without number xs)) two.0 (all_without number xs two.1))

-- An option made by a test

pub some_unless : (r : Option Standing) (none : Bool) (o : Standing) → is_some r ≡ not none → IfSome r (λ x. x ≡ o) → r ≡ cond none None (Some o)
some_unless None true o e h = refl
some_unless None false o e h = cc
some_unless (Some x) true o e h = cc
some_unless (Some x) false o e h = ap Some h
