-- Every list that began empty runs by priority.
use Rattle.std.proofs.Common.{◌≡◌, ℕ, suc, ◌<◌, ◌≤◌, true, false, cond, not, ◌&&◌, eqb, ltb, leb, List, [], ◌∷◌, length, is_some, is_ok, Some, None, Ok, Err, sym, refl, ap, ◌∙◌, subst, ⊎_elim, arith}
use Rattle.std.proofs.lemmas.Bool.{cases_Bool, both_ways, cond_both, and_parts, and_from, and_left, and_right, eqb-false, not-true, eq-eqb, ne_eqb}
use Rattle.rules.specs.Refusals.{check}
use Rattle.rules.specs.Sides.{Rule, Lawful}
use Rattle.rules.specs.declared.refusal.Refusal.{Refusal}
use Rattle.rules.specs.declared.refusal.Refusal.TheVariants.{BadOrder, BookFull, BadTake}
use Rattle.books.specs.Histories.{Change, add, take, remove, after, brought, Brings, Each, Pairs, Before, RunsByPriority}
use Rattle.books.specs.Lists.{Outcome, unless, find, stands, sound, put, added, less, reduced, taken, without, removed, removed_found}
use Rattle.books.specs.declared.standing.Standing.{Standing}
use Rattle.books.proofs.Outcomes.{added_unfit, added_full, added_fit}
use Rattle.books.proofs.Ranks.{not_before}

-- Lists where P holds of each order, or R of each pair

pub each_map : (P Q : Standing → Type 0) → ((o : Standing) → P o → Q o) → (xs : List Standing) → Each P xs → Each Q xs
each_map P Q f [] h = tt
each_map P Q f (x ∷ xs) h = (f x h.0, each_map P Q f xs h.1)

pub each_both : (P Q : Standing → Type 0) (xs : List Standing) → Each P xs → Each Q xs → Each (λ o. P o × Q o) xs
each_both P Q [] h k = tt
each_both P Q (x ∷ xs) h k = ((h.0, k.0), each_both P Q xs h.1 k.1)

pub each_put : (P : Standing → Type 0) (rule : Rule) (o : Standing) (xs : List Standing) → P o → Each P xs → Each P (put rule o xs)
each_put P rule o [] p h = (p, tt)
each_put P rule o (x ∷ xs) p h =
    cond_both (rule.ahead o.price x.price) (o ∷ x ∷ xs) (x ∷ put rule o xs) (Each P)
    (λ _. (p, h)) (λ _. (h.0, each_put P rule o xs p h.1))

pub each_without : (P : Standing → Type 0) (n : ℕ) (xs : List Standing) → Each P xs → Each P (without n xs)
each_without P n [] h = tt
each_without P n (x ∷ xs) h =
    cond_both (eqb x.number n) xs (x ∷ without n xs) (Each P) (λ _. h.1) (λ _. (h.0, each_without P n xs h.1))

pairs_map : (P : Standing → Type 0) (R Q : Standing → Standing → Type 0) → ((x y : Standing) → P x → P y → R x y → Q x y) →
    (xs : List Standing) → Each P xs → Pairs R xs → Pairs Q xs
pairs_map P R Q f [] p h = tt
pairs_map P R Q f (x ∷ xs) p h = (
  each_map (λ y. P y × R x y) (Q x) (λ y k. f x y p.0 k.0 k.1) xs (each_both P (R x) xs p.1 h.0),
  pairs_map P R Q f xs p.1 h.1,
)

pub pairs_without : (R : Standing → Standing → Type 0) (n : ℕ) (xs : List Standing) → Pairs R xs → Pairs R (without n xs)
pairs_without R n [] h = tt
pairs_without R n (x ∷ xs) h =
    cond_both (eqb x.number n) xs (x ∷ without n xs) (Pairs R) (λ _. h.1)
    (λ _. (each_without (R x) n xs h.0, pairs_without R n xs h.1))

-- A new order among others

module _ (rule : Rule) (law : Lawful rule) (came : ℕ → List Change) (o : Standing) where
  -- z arrived earlier than o, and has another number
  abbrev Older : Standing → Type 0
  Older z = (length (came z.number) < length (came o.number)) × (z.number ≡ o.number → ⊥)

  before_new : (z : Standing) → rule.ahead o.price z.price ≡ false → Older z → Before rule came z o
  before_new z h k = (h, (λ _. k.0), k.1)

  new_before : (x : ℕ) → rule.ahead o.price x ≡ true → (z : Standing) → rule.ahead z.price x ≡ false → Older z →
      Before rule came o z
  new_before x h z n k = (
    not_before rule law z.price o.price x n h,
    (λ e. absurd (both_ways (rule.ahead z.price x) n (ap (λ p. rule.ahead p x) (sym e) ∙ h))),
    (λ e. k.1 (sym e)),
  )

  pairs_put : (xs : List Standing) → Each Older xs → Pairs (Before rule came) xs → Pairs (Before rule came) (put rule o xs)
  pairs_put [] k h = (tt, tt)
  pairs_put (x ∷ xs) k h =
      cond_both (rule.ahead o.price x.price) (o ∷ x ∷ xs) (x ∷ put rule o xs) (Pairs (Before rule came))
      (λ t. (
        (
          new_before x.price t x (law.equal x.price) k.0,
          each_map (λ z. Older z × Before rule came x z) (Before rule came o)
              (λ z b. new_before x.price t z b.1.0 b.0) xs
              (each_both Older (Before rule came x) xs k.1 h.0),
        ),
        h,
      ))
      (λ t. (
        each_put (Before rule came x) rule o xs (before_new x t k.0) h.0,
        pairs_put xs k.1 h.1,
      ))

-- A number that does not stand

absent : (n : ℕ) (xs : List Standing) → stands n xs ≡ false → Each (λ z. z.number ≡ n → ⊥) xs
absent n [] h = tt
absent n (x ∷ xs) h =
    ⊎_elim
    (λ (t : eqb x.number n ≡ true).
    absurd (both_ways (stands n (x ∷ xs)) h (ap (λ b. is_some (cond b (Some x) (find n xs))) t)))
    (λ (f : eqb x.number n ≡ false).
    (eqb-false x.number n f, absent n xs (sym (ap (λ b. is_some (cond b (Some x) (find n xs))) f) ∙ h)))
    (cases_Bool (eqb x.number n))

-- What a list keeps: its orders in priority, each brought by an add that was made

brings_reduced : (past : List Change) (o : Standing) (n : ℕ) → Brings past o → Brings past (reduced o n)
brings_reduced [] o n b = b
brings_reduced (add p ∷ earlier) o n b = (b.0, b.1, omega (arith, b.2))
brings_reduced (take k ∷ earlier) o n b = b
brings_reduced (remove k ∷ earlier) o n b = b

-- the past of an order's number ends with the add that brought it, and is no longer than the whole
abbrev Arrived : (came : ℕ → List Change) → (latest : ℕ) → Standing → Type 0
Arrived came latest o = Brings (came o.number) o × (length (came o.number) ≤ latest)

module _ (rule : Rule) (law : Lawful rule) (places : ℕ) where
  abbrev Kept : (came : ℕ → List Change) → (latest : ℕ) → List Standing → Type 0
  Kept came latest orders = Pairs (Before rule came) orders × Each (Arrived came latest) orders

  later : (came : ℕ → List Change) (latest : ℕ) (orders : List Standing) → Kept came latest orders →
      Kept came (suc latest) orders
  later came latest orders k = (
    k.0,
    each_map (Arrived came latest) (Arrived came (suc latest)) (λ o h. (h.0, omega (arith, h.1))) orders k.1,
  )

  kept_less : (came : ℕ → List Change) (latest : ℕ) (orders : List Standing) (n : ℕ) → Kept came latest orders →
      Kept came latest (less orders n)
  kept_less came latest [] n k = k
  kept_less came latest (o ∷ os) n k =
      cond_both (eqb n o.shares) os (reduced o n ∷ os) (Kept came latest)
      (λ _. (k.0.1, k.1.1))
      (λ _. (k.0, ((brings_reduced (came o.number) o n k.1.0.0, k.1.0.1), k.1.1)))

  kept_taken : (came : ℕ → List Change) (latest : ℕ) (orders : List Standing) (n : ℕ) → Kept came latest orders →
      Kept came latest (taken orders n).list
  kept_taken came latest [] n k = k
  kept_taken came latest (o ∷ os) n k =
      elim (leb 1 n && leb n o.shares) as
      (λ b. Kept came latest (unless (check b BadTake None) (o ∷ os) record { answer = Ok tt; list = less (o ∷ os) n }).list) [
        | true ↦ kept_less came latest (o ∷ os) n k
        | false ↦ k
      ]

  kept_removed : (came : ℕ → List Change) (latest : ℕ) (orders : List Standing) (n : ℕ) → Kept came latest orders →
      Kept came latest (removed n orders).list
  kept_removed came latest orders n k =
      elim (find n orders) as (λ f. Kept came latest (removed_found f n orders).list) [
        | None ↦ k
        | Some o ↦
            (pairs_without (Before rule came) n orders k.0, each_without (Arrived came latest) n orders k.1)
      ]

  -- where the past of an order's number is the same, so is what it says
  arrived_same : (came next : ℕ → List Change) (latest : ℕ) (o : Standing) → next o.number ≡ came o.number →
      Arrived came latest o → Arrived next (suc latest) o
  arrived_same came next latest o e h =
      (subst (λ past. Brings past o) (sym e) h.0, omega (arith, ap length e, h.1))

  before_same : (came next : ℕ → List Change) (x y : Standing) → next x.number ≡ came x.number →
      next y.number ≡ came y.number → Before rule came x y → Before rule next x y
  before_same came next x y e f b = (b.0, (λ q. omega (arith, b.1 q, ap length e, ap length f)), b.2)

  module _ (came : ℕ → List Change) (earlier : List Change) (orders : List Standing) (o : Standing)
      (k : Kept came (length earlier) orders) where
    -- the past of each number where the add of o gave this outcome
    abbrev next : Outcome (Unit {0}) → ℕ → List Change
    next outcome n = cond (eqb o.number n && is_ok outcome.answer) (add o ∷ earlier) (came n)

    abbrev KeptBy : Outcome (Unit {0}) → Type 0
    KeptBy outcome = Kept (next outcome) (suc (length earlier)) outcome.list

    kept_refused : (e : Refusal) → KeptBy record { answer = Err e; list = orders }
    kept_refused e =
        let past = next record { answer = Err e; list = orders } in
        let same : (n : ℕ) → past n ≡ came n =
        λ n. ap (λ b. cond b (add o ∷ earlier) (came n)) (and_right (eqb o.number n) false refl) in (
          pairs_map (Arrived came (length earlier)) (Before rule came) (Before rule past)
              (λ x y _ _ b. before_same came past x y (same x.number) (same y.number) b) orders k.1 k.0,
          each_map (Arrived came (length earlier)) (Arrived past (suc (length earlier)))
              (λ x h. arrived_same came past (length earlier) x (same x.number) h) orders k.1,
        )

    kept_accepted : stands o.number orders ≡ false → KeptBy record { answer = Ok tt; list = put rule o orders }
    kept_accepted s =
        let past = next record { answer = Ok tt; list = put rule o orders } in
        let now : past o.number ≡ add o ∷ earlier =
        ap (λ b. cond b (add o ∷ earlier) (came o.number))
        (and_from (eqb o.number o.number) true (eq-eqb o.number o.number refl) refl) in
        let same : (n : ℕ) → (n ≡ o.number → ⊥) → past n ≡ came n =
        λ n d.
        ap (λ b. cond b (add o ∷ earlier) (came n))
        (and_left (eqb o.number n) true (ne_eqb o.number n (λ e. d (sym e)))) in
        let others = absent o.number orders s in
        let both = each_both (λ z. z.number ≡ o.number → ⊥) (Arrived came (length earlier)) orders others k.1 in (
          pairs_put rule law past o orders
              (each_map (λ z. (z.number ≡ o.number → ⊥) × Arrived came (length earlier) z) (Older rule law past o)
              (λ z h. (omega (arith, ap length now, ap length (same z.number h.0), h.1.1), h.0)) orders both)
              (pairs_map (λ z. z.number ≡ o.number → ⊥) (Before rule came) (Before rule past)
              (λ x y p q b. before_same came past x y (same x.number p) (same y.number q) b) orders others k.0),
          each_put (Arrived past (suc (length earlier))) rule o orders
              (subst (λ l. Brings l o) (sym now) (refl, refl, omega arith), omega (arith, ap length now))
              (each_map (λ z. (z.number ≡ o.number → ⊥) × Arrived came (length earlier) z) (Arrived past (suc (length earlier)))
              (λ z h. arrived_same came past (length earlier) z (same z.number h.0) h.1) orders both),
        )

    kept_added : KeptBy (added rule places orders o)
    kept_added =
        ⊎_elim
        (λ (fit : (sound o && not (stands o.number orders)) ≡ true).
        ⊎_elim
        (λ (room : ltb (length orders) places ≡ true).
        subst KeptBy (sym (added_fit rule places orders o fit room))
        (kept_accepted
        (not-true (stands o.number orders) (and_parts (sound o) (not (stands o.number orders)) fit).1)))
        (λ (full : ltb (length orders) places ≡ false).
        subst KeptBy (sym (added_full rule places orders o fit full)) (kept_refused BookFull))
        (cases_Bool (ltb (length orders) places)))
        (λ (unfit : (sound o && not (stands o.number orders)) ≡ false).
        subst KeptBy (sym (added_unfit rule places orders o unfit)) (kept_refused BadOrder))
        (cases_Bool (sound o && not (stands o.number orders)))

  kept : (history : List Change) → Kept (brought rule places history) (length history) (after rule places history)
  kept [] = (tt, tt)
  kept (add o ∷ earlier) =
      kept_added (brought rule places earlier) earlier (after rule places earlier) o (kept earlier)
  kept (take n ∷ earlier) =
      later (brought rule places earlier) (length earlier) (taken (after rule places earlier) n).list
      (kept_taken (brought rule places earlier) (length earlier) (after rule places earlier) n (kept earlier))
  kept (remove n ∷ earlier) =
      later (brought rule places earlier) (length earlier) (removed n (after rule places earlier)).list
      (kept_removed (brought rule places earlier) (length earlier) (after rule places earlier) n (kept earlier))

pub runs_by_priority : (rule : Rule) → Lawful rule → RunsByPriority rule
runs_by_priority rule law places history =
    let came = brought rule places history in
    let k = kept rule law places history in (
      k.0,
      each_map (Arrived came (length history)) (λ o. Brings (came o.number) o) (λ o h. h.0)
          (after rule places history) k.1,
    )
