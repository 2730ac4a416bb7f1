-- A chain as a fact: the list holds what f leads to from s, up to the first 0.
use Rattle.std.proofs.Common.{◌≡◌, ℕ, zero, suc, ◌+◌, ◌<◌, ◌≤◌, Bool, true, false, cond, eqb, ltb, ◌≢◌, List, [], ◌∷◌, length, sym, refl, ap, ◌∙◌, subst, ⊎_elim, arith}
use Rattle.std.proofs.lemmas.Bool.{eq-eqb, ne_eqb, lt-ltb, le-ltb, eqb-true, eqb-false, cond-true, cond-false, cond_both, cases_Bool, cases_eq}
use Rattle.chained.specs.Links.{links, times, first, stop}

abbrev pub Chain : (ℕ → ℕ) → ℕ → List ℕ → Type 0
Chain f s [] = s ≡ 0
Chain f s (x ∷ xs) = (s ≡ x) × (0 < x) × Chain f (f x) xs

pub links_is : (n : ℕ) (f : ℕ → ℕ) (s : ℕ) (xs : List ℕ) → Chain f s xs → length xs ≤ n → links n f s ≡ xs
links_is zero f s [] c h = refl
links_is zero f s (x ∷ xs) c h = absurd (omega arith)
links_is (suc n) f s [] c h = cond-true (eqb s 0) [] (s ∷ links n f (f s)) (eq-eqb s 0 c)
links_is (suc n) f s (x ∷ xs) c h =
    let ih : links n f (f x) ≡ xs = links_is n f (f x) xs c.2 (omega arith) in
    let e : s ≡ x = c.0 in
    let t : eqb s 0 ≡ false = ne_eqb s 0 (λ z. omega (arith, c.0, c.1)) in
    cond-false (eqb s 0) [] (s ∷ links n f (f s)) t ∙ (cc)

chain_at : (n : ℕ) (f : ℕ → ℕ) (s : ℕ) (b : Bool) → eqb s 0 ≡ b → (length (links n f (f s)) < n → Chain f (f s) (links n f (f s))) → length (cond b [] (s ∷ links n f (f s))) < suc n → Chain f s (cond b [] (s ∷ links n f (f s)))
chain_at n f s true e ih h = eqb-true s 0 e
chain_at n f s false e ih h = (refl, omega (arith, eqb-false s 0 e), ih (omega arith))

-- what stopped short of its bound has come to a 0
pub chain_of : (n : ℕ) (f : ℕ → ℕ) (s : ℕ) → length (links n f s) < n → Chain f s (links n f s)
chain_of zero f s h = absurd (omega arith)
chain_of (suc n) f s h = chain_at n f s (eqb s 0) refl (chain_of n f (f s)) h

pub length_links : (n : ℕ) (f : ℕ → ℕ) (s : ℕ) → length (links n f s) ≤ n
length_links zero f s = omega arith
length_links (suc n) f s =
    let P : List ℕ → Type 0 = λ xs. length xs ≤ suc n in
    cond_both (eqb s 0) [] (s ∷ links n f (f s)) P (λ _. omega arith) (λ _. omega (arith, length_links n f (f s)))

-- a chain that begins, taken apart
pub begins : (f : ℕ → ℕ) (s : ℕ) (xs : List ℕ) → Chain f s xs → s ≢ 0 → (ys : List ℕ) × (xs ≡ s ∷ ys) × Chain f (f s) ys
begins f s [] c ne = absurd (ne c)
begins f s (x ∷ xs) c ne = let e : s ≡ x = c.0 in (xs, (cc), subst (λ y. Chain f (f y) xs) (sym e) c.2)

pub not_zero : (f : ℕ → ℕ) (s : ℕ) (xs : List ℕ) → Chain f s xs → 0 < length xs → s ≢ 0
not_zero f s [] c some e = omega arith
not_zero f s (x ∷ xs) c some e = omega (arith, c.0, c.1)

-- one step along a chain that was followed to its end
pub links_step : (n : ℕ) (f : ℕ → ℕ) (s : ℕ) → Chain f s (links n f s) → s ≢ 0 → (links n f s ≡ s ∷ links n f (f s)) × Chain f (f s) (links n f (f s))
links_step n f s c ne =
    let parts = begins f s (links n f s) c ne in
    let short : length parts.0 ≤ n = omega (arith, length_links n f s, ap length parts.1) in
    let same : links n f (f s) ≡ parts.0 = links_is n f (f s) parts.0 parts.2 short in
    (parts.1 ∙ ap (λ ys. s ∷ ys) (sym same), subst (λ ys. Chain f (f s) ys) (sym same) parts.2)

-- How often an index stands in a list

pub times_here : (x : ℕ) (xs : List ℕ) → times x (x ∷ xs) ≡ 1 + times x xs
times_here x xs = ap (λ b. cond b 1 0 + times x xs) (eq-eqb x x refl)

pub times_other : (k x : ℕ) (xs : List ℕ) → k ≢ x → times k (x ∷ xs) ≡ times k xs
times_other k x xs ne = let t : eqb k x ≡ false = ne_eqb k x ne in simp t (omega arith)

pub times_tail : (k x : ℕ) (xs : List ℕ) → times k xs ≤ times k (x ∷ xs)
times_tail k x xs = omega arith

pub never_zero : (f : ℕ → ℕ) (s : ℕ) (xs : List ℕ) → Chain f s xs → times 0 xs ≡ 0
never_zero f s [] c = refl
never_zero f s (x ∷ xs) c = times_other 0 x xs (λ e. omega (arith, c.1)) ∙ never_zero f (f x) xs c.2

-- a chain stays where f stays along it
pub frame : (f g : ℕ → ℕ) (s : ℕ) (xs : List ℕ) → ((k : ℕ) → 0 < times k xs → g k ≡ f k) → Chain f s xs → Chain g s xs
frame f g s [] same c = c
frame f g s (x ∷ xs) same c =
    let e : g x ≡ f x = same x (omega (arith, times_here x xs)) in
    let rest : Chain g (f x) xs = frame f g (f x) xs (λ k h. same k (omega (arith, times_tail k x xs))) c.2 in
    (c.0, c.1, subst (λ y. Chain g y xs) (sym e) rest)

-- An index put in ahead of the first that passes

abbrev pub put_in : (ℕ → Bool) → ℕ → List ℕ → List ℕ
put_in b k [] = k ∷ []
put_in b k (x ∷ xs) = cond (b x) (k ∷ x ∷ xs) (x ∷ put_in b k xs)

-- s or one of the list
pub stop_in : (b : ℕ → Bool) (s : ℕ) (xs : List ℕ) (k : ℕ) → k ≢ s → times k xs ≡ 0 → k ≢ stop b s xs
stop_in b s [] k ne none = ne
stop_in b s (x ∷ xs) k ne none =
    let P : ℕ → Type 0 = λ y. k ≢ y in
    let nx : k ≢ x = λ e. omega (arith, times_here x xs, ap (λ y. times y (x ∷ xs)) e) in
    cond_both (b x) s (stop b x xs) P (λ _. ne) (λ _. stop_in b x xs k nx (omega (arith, times_tail k x xs)))

-- the chain with k put in: g leads to k from where the walk stops, on from k as f did, and elsewhere as f does
pub chain_put : (b : ℕ → Bool) (f g : ℕ → ℕ) (k s : ℕ) (xs : List ℕ) → Chain f (f s) xs → ((j : ℕ) → times j (s ∷ xs) ≤ 1) → k ≢ s → times k xs ≡ 0 → 0 < k → g (stop b s xs) ≡ k → g k ≡ f (stop b s xs) → ((j : ℕ) → j ≢ k → j ≢ stop b s xs → g j ≡ f j) → Chain g (g s) (put_in b k xs)
chain_put b f g k s [] c once ne none pos there on else = (there, pos, on ∙ c)
chain_put b f g k s (x ∷ xs) c once ne none pos there on else =
    let apart : (j : ℕ) → 0 < times j (x ∷ xs) → j ≢ s =
    λ j h e. omega (arith, once s, times_here s (x ∷ xs), ap (λ y. times y (x ∷ xs)) e) in
    let here : b x ≡ true → Chain g (g s) (k ∷ x ∷ xs) = λ t.
    let st : stop b s (x ∷ xs) ≡ s = cond-true (b x) s (stop b x xs) t in
    let rest : Chain g (f s) (x ∷ xs) =
    frame f g (f s) (x ∷ xs) (λ j h. else j (λ e. omega (arith, ap (λ y. times y (x ∷ xs)) e)) (λ e. apart j h (e ∙ st))) c in
    (ap g (sym st) ∙ there, pos, subst (λ y. Chain g y (x ∷ xs)) (sym (on ∙ ap f st)) rest) in
    let later : b x ≡ false → Chain g (g s) (x ∷ put_in b k xs) = λ t.
    let st : stop b s (x ∷ xs) ≡ stop b x xs = cond-false (b x) s (stop b x xs) t in
    let kx : k ≢ x = λ e. omega (arith, times_here x xs, ap (λ y. times y (x ∷ xs)) e) in
    let sx : s ≢ x = λ e. apart x (omega (arith, times_here x xs)) (sym e) in
    let sn : times s xs ≡ 0 = omega (arith, once s, times_here s (x ∷ xs), times_tail s x xs) in
    let same : g s ≡ f s = else s (λ e. ne (sym e)) (λ e. stop_in b x xs s sx sn (e ∙ st)) in (
      same ∙ c.0,
      c.1,
      chain_put b f g k x xs c.2 (λ j. omega (arith, once j, times_tail j s (x ∷ xs))) kx (omega (arith, times_tail k x xs)) pos
          (ap g (sym st) ∙ there) (on ∙ ap f st) (λ j nk ns. else j nk (λ e. ns (e ∙ st))),
    ) in
    cond_both (b x) (k ∷ x ∷ xs) (x ∷ put_in b k xs) (λ ys. Chain g (g s) ys) here later

pub times_put : (b : ℕ → Bool) (k j : ℕ) (xs : List ℕ) → times j (put_in b k xs) ≡ times j (k ∷ xs)
times_put b k j [] = refl
times_put b k j (x ∷ xs) =
    let P : List ℕ → Type 0 = λ ys. times j ys ≡ times j (k ∷ x ∷ xs) in
    cond_both (b x) (k ∷ x ∷ xs) (x ∷ put_in b k xs) P (λ _. refl) (λ _. omega (arith, times_put b k j xs))

pub length_put : (b : ℕ → Bool) (k : ℕ) (xs : List ℕ) → length (put_in b k xs) ≡ 1 + length xs
length_put b k [] = refl
length_put b k (x ∷ xs) =
    let P : List ℕ → Type 0 = λ ys. length ys ≡ 1 + length (x ∷ xs) in
    cond_both (b x) (k ∷ x ∷ xs) (x ∷ put_in b k xs) P (λ _. omega arith) (λ _. omega (arith, length_put b k xs))

-- The first index that passes cut out

abbrev pub cut_out : (ℕ → Bool) → List ℕ → List ℕ
cut_out b [] = []
cut_out b (x ∷ xs) = cond (b x) xs (x ∷ cut_out b xs)

-- g leads from where the walk stops past what it found, and elsewhere as f does
pub chain_cut : (b : ℕ → Bool) (f g : ℕ → ℕ) (s : ℕ) (xs : List ℕ) → Chain f (f s) xs → ((j : ℕ) → times j (s ∷ xs) ≤ 1) → 0 < first b xs → g (stop b s xs) ≡ f (first b xs) → ((j : ℕ) → j ≢ stop b s xs → g j ≡ f j) → Chain g (g s) (cut_out b xs)
chain_cut b f g s [] c once some past else = absurd (omega arith)
chain_cut b f g s (x ∷ xs) c once some past else =
    let apart : (j : ℕ) → 0 < times j (x ∷ xs) → j ≢ s =
    λ j h e. omega (arith, once s, times_here s (x ∷ xs), ap (λ y. times y (x ∷ xs)) e) in
    let here : b x ≡ true → Chain g (g s) xs = λ t.
    let st : stop b s (x ∷ xs) ≡ s = cond-true (b x) s (stop b x xs) t in
    let fi : first b (x ∷ xs) ≡ x = cond-true (b x) x (first b xs) t in
    let rest : Chain g (f x) xs =
    frame f g (f x) xs (λ j h. else j (λ e. apart j (omega (arith, times_tail j x xs)) (e ∙ st))) c.2 in
    subst (λ y. Chain g y xs) (sym (ap g (sym st) ∙ past ∙ ap f fi)) rest in
    let later : b x ≡ false → Chain g (g s) (x ∷ cut_out b xs) = λ t.
    let st : stop b s (x ∷ xs) ≡ stop b x xs = cond-false (b x) s (stop b x xs) t in
    let fi : first b (x ∷ xs) ≡ first b xs = cond-false (b x) x (first b xs) t in
    let sx : s ≢ x = λ e. apart x (omega (arith, times_here x xs)) (sym e) in
    let sn : times s xs ≡ 0 = omega (arith, once s, times_here s (x ∷ xs), times_tail s x xs) in
    let same : g s ≡ f s = else s (λ e. stop_in b x xs s sx sn (e ∙ st)) in (
      same ∙ c.0,
      c.1,
      chain_cut b f g x xs c.2 (λ j. omega (arith, once j, times_tail j s (x ∷ xs))) (omega (arith, fi))
          (ap g (sym st) ∙ past ∙ ap f fi) (λ j ns. else j (λ e. ns (e ∙ st))),
    ) in
    cond_both (b x) xs (x ∷ cut_out b xs) (λ ys. Chain g (g s) ys) here later

pub times_cut : (b : ℕ → Bool) (j : ℕ) (xs : List ℕ) → 0 < first b xs → times j (first b xs ∷ cut_out b xs) ≡ times j xs
times_cut b j [] some = absurd (omega arith)
times_cut b j (x ∷ xs) some =
    let here : b x ≡ true → times j (first b (x ∷ xs) ∷ cut_out b (x ∷ xs)) ≡ times j (x ∷ xs) = λ t. simp t in
    let later : b x ≡ false → times j (first b (x ∷ xs) ∷ cut_out b (x ∷ xs)) ≡ times j (x ∷ xs) = λ t.
    let fi : first b (x ∷ xs) ≡ first b xs = cond-false (b x) x (first b xs) t in
    let ih : times j (first b xs ∷ cut_out b xs) ≡ times j xs = times_cut b j xs (omega (arith, fi)) in
    simp t (omega arith) in
    ⊎_elim here later (cases_Bool (b x))

pub length_cut : (b : ℕ → Bool) (xs : List ℕ) → 0 < first b xs → 1 + length (cut_out b xs) ≡ length xs
length_cut b [] some = absurd (omega arith)
length_cut b (x ∷ xs) some =
    let here : b x ≡ true → 1 + length (cut_out b (x ∷ xs)) ≡ length (x ∷ xs) = λ t. simp t (omega arith) in
    let later : b x ≡ false → 1 + length (cut_out b (x ∷ xs)) ≡ length (x ∷ xs) = λ t.
    let fi : first b (x ∷ xs) ≡ first b xs = cond-false (b x) x (first b xs) t in
    let ih : 1 + length (cut_out b xs) ≡ length xs = length_cut b xs (omega (arith, fi)) in
    simp t (omega arith) in
    ⊎_elim here later (cases_Bool (b x))

-- what the walk finds stands in the list
pub first_in : (b : ℕ → Bool) (xs : List ℕ) → 0 < first b xs → 0 < times (first b xs) xs
first_in b xs some = let e = times_cut b (first b xs) xs some in omega (arith, times_here (first b xs) (cut_out b xs))

-- Indices one after the other

abbrev pub up_from : (a m : ℕ) → List ℕ
up_from a zero = []
up_from a (suc m) = a ∷ up_from (a + 1) m

pub chain_up : (f : ℕ → ℕ) (n : ℕ) → ((k : ℕ) → k < n → f k ≡ cond (ltb (k + 1) n) (k + 1) 0) → (s m : ℕ) → s + 1 + m ≡ n → Chain f (f s) (up_from (s + 1) m)
chain_up f n each s zero e =
    each s (omega arith) ∙ cond-false (ltb (s + 1) n) (s + 1) 0 (le-ltb (s + 1) n (omega arith))
chain_up f n each s (suc m) e = (
  each s (omega arith) ∙ cond-true (ltb (s + 1) n) (s + 1) 0 (lt-ltb (s + 1) n (omega arith)),
  omega arith,
  chain_up f n each (s + 1) m (omega arith),
)

pub length_up : (a m : ℕ) → length (up_from a m) ≡ m
length_up a zero = refl
length_up a (suc m) = omega (arith, length_up (a + 1) m)

times_low : (k a m : ℕ) → k < a → times k (up_from a m) ≡ 0
times_low k a zero h = refl
times_low k a (suc m) h = times_other k a (up_from (a + 1) m) (λ e. omega arith) ∙ times_low k (a + 1) m (omega arith)

pub times_up : (k a m : ℕ) → times k (up_from a m) ≤ cond (ltb k (a + m)) 1 0
times_up k a zero = omega arith
times_up k a (suc m) =
    let ih = times_up k (a + 1) m in
    let e : a + 1 + m ≡ a + suc m = omega arith in
    let same : k ≡ a → times k (up_from a (suc m)) ≤ cond (ltb k (a + suc m)) 1 0 = λ e.
    simp (lt-ltb k (a + suc m) (omega arith)) (omega (arith, times_low k (a + 1) m (omega arith), ap (λ y. times y (up_from a (suc m))) e, times_here a (up_from (a + 1) m), ap (λ y. times y (up_from (a + 1) m)) e)) in
    let other : k ≢ a → times k (up_from a (suc m)) ≤ cond (ltb k (a + suc m)) 1 0 = λ ne.
    subst (λ y. times k (up_from a (suc m)) ≤ cond (ltb k y) 1 0) e (omega (arith, times_other k a (up_from (a + 1) m) ne)) in
    ⊎_elim same other (cases_eq k a)
