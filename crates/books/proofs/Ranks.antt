-- What a lawful side says of three prices, and how a list keeps running by it.
use Rattle.std.specs.Prelude.{◌≡◌, ℕ, true, false, cond, not, List, [], ◌∷◌, refl}
use Rattle.std.proofs.Common.{sym, ap, ◌∙◌, ⊎_elim}
use Rattle.std.proofs.lemmas.Bool.{cases_Bool, cases_eq, both_ways, cond_both, not-false}
use Rattle.rules.specs.Sides.{Rule, Lawful}
use Rattle.books.specs.Lists.{put}
use Rattle.books.specs.Histories.{Each, Pairs}
use Rattle.books.specs.declared.standing.Standing.{Standing}

-- no order's price comes ahead of this one
abbrev pub NoneAhead : Rule → (price : ℕ) → List Standing → Type 0
NoneAhead rule price = Each (λ o. rule.ahead o.price price ≡ false)

-- no order's price comes ahead of that of an order before it
abbrev pub Runs : Rule → List Standing → Type 0
Runs rule = Pairs (λ x y. rule.ahead y.price x.price ≡ false)

-- of two prices one at most comes first
pub not_both : (rule : Rule) → Lawful rule → (p q : ℕ) → rule.ahead p q ≡ true → rule.ahead q p ≡ false
not_both rule law p q h =
    ⊎_elim (λ (e : p ≡ q). absurd (both_ways (rule.ahead p p) (law.equal p) (ap (rule.ahead p) e ∙ h)))
    (λ (d : p ≡ q → ⊥). law.different q p (λ e. d (sym e)) ∙ ap not h) (cases_eq p q)

pub not_before : (rule : Rule) → Lawful rule → (z p x : ℕ) → rule.ahead z x ≡ false → rule.ahead p x ≡ true →
    rule.ahead z p ≡ false
not_before rule law z p x n h =
    ⊎_elim (λ (t : rule.ahead z p ≡ true). absurd (both_ways (rule.ahead z x) n (law.carries z p x t h)))
    (λ f. f) (cases_Bool (rule.ahead z p))

pub before : (rule : Rule) → Lawful rule → (p z x : ℕ) → rule.ahead z x ≡ false → rule.ahead p x ≡ true →
    rule.ahead p z ≡ true
before rule law p z x n h =
    ⊎_elim (λ t. t)
    (λ (f : rule.ahead p z ≡ false).
    ⊎_elim (λ (e : p ≡ z). absurd (both_ways (rule.ahead z x) n (ap (λ q. rule.ahead q x) (sym e) ∙ h)))
    (λ (d : p ≡ z → ⊥).
    let b : rule.ahead z p ≡ true = not-false (rule.ahead z p) (sym (law.different p z d) ∙ f) in
    absurd (both_ways (rule.ahead z x) n (law.carries z p x b h)))
    (cases_eq p z))
    (cases_Bool (rule.ahead p z))

pub none_ahead_of_earlier : (rule : Rule) → Lawful rule → (p x : ℕ) → rule.ahead p x ≡ true → (os : List Standing) →
    NoneAhead rule x os → NoneAhead rule p os
none_ahead_of_earlier rule law p x h [] n = tt
none_ahead_of_earlier rule law p x h (o ∷ os) n =
    (not_before rule law o.price p x n.0 h, none_ahead_of_earlier rule law p x h os n.1)

pub none_ahead_put : (rule : Rule) (p : ℕ) (o : Standing) (xs : List Standing) → rule.ahead o.price p ≡ false →
    NoneAhead rule p xs → NoneAhead rule p (put rule o xs)
none_ahead_put rule p o [] h n = (h, tt)
none_ahead_put rule p o (x ∷ xs) h n =
    cond_both (rule.ahead o.price x.price) (o ∷ x ∷ xs) (x ∷ put rule o xs) (NoneAhead rule p)
    (λ _. (h, n)) (λ _. (n.0, none_ahead_put rule p o xs h n.1))

pub runs_put : (rule : Rule) → Lawful rule → (o : Standing) (xs : List Standing) → Runs rule xs → Runs rule (put rule o xs)
runs_put rule law o [] r = (tt, tt)
runs_put rule law o (x ∷ xs) r =
    cond_both (rule.ahead o.price x.price) (o ∷ x ∷ xs) (x ∷ put rule o xs) (Runs rule)
    (λ h. (
      (
        not_both rule law o.price x.price h,
        none_ahead_of_earlier rule law o.price x.price h xs r.0,
      ),
      r,
    ))
    (λ h. (none_ahead_put rule x.price o xs h r.0, runs_put rule law o xs r.1))

-- what comes ahead of a price goes to the front of what is not ahead of it
pub put_first : (rule : Rule) → Lawful rule → (o : Standing) (x : ℕ) → rule.ahead o.price x ≡ true →
    (xs : List Standing) → NoneAhead rule x xs → put rule o xs ≡ o ∷ xs
put_first rule law o x h [] n = refl
put_first rule law o x h (z ∷ zs) n =
    ap (λ b. cond b (o ∷ z ∷ zs) (z ∷ put rule o zs)) (before rule law o.price z.price x n.0 h)
