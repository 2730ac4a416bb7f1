-- What a write to one record leaves of each field of all.
use Rattle.std.proofs.Common.{◌≡◌, ℕ, zero, suc, ◌+◌, ◌-◌, ◌<◌, ◌≤◌, true, false, cond, ltb, ◌≢◌, ⊎_elim, List, [], ◌∷◌, length, set, sym, refl, ap, ◌∙◌, subst, arith}
use Rattle.std.proofs.lemmas.Bool.{cases_Bool, ltb-true, ltb-false}
use Rattle.std.proofs.lemmas.List.{length-set, get_or-set_same, get_or-set_other}
use Rattle.chained.specs.Records.{blank, at, next_of, free_of, order_of, with_next, with_free, Cleared}
use Rattle.chained.specs.declared.record.Record.{Record}

pub no_anchor : (rs : List Record) → length rs ≡ 0 → 0 ≡ next_of rs 0
no_anchor [] e = refl
no_anchor (r ∷ rs) e = absurd (omega arith)

pub at_same : (rs : List Record) (k : ℕ) (v : Record) → k < length rs → at (set rs k v) k ≡ v
at_same rs k v h = get_or-set_same rs k v blank h

pub at_other : (rs : List Record) (k j : ℕ) (v : Record) → j ≢ k → at (set rs k v) j ≡ at rs j
at_other rs k j v ne = get_or-set_other rs k j v blank ne

-- a field that the write keeps at its own record
pub keeps : {Y : Type 0} (field : Record → Y) (rs : List Record) (k : ℕ) (v : Record) → field v ≡ field (at rs k) → (j : ℕ) → field (at (set rs k v) j) ≡ field (at rs j)
keeps field [] k v e j = refl
keeps field (r ∷ rs) zero v e zero = e
keeps field (r ∷ rs) zero v e (suc j) = refl
keeps field (r ∷ rs) (suc k) v e zero = refl
keeps field (r ∷ rs) (suc k) v e (suc j) = keeps field rs k v e j

pub next_same : (rs : List Record) (k n : ℕ) → k < length rs → next_of (with_next rs k n) k ≡ n
next_same rs k n h = ap (λ r. r.next) (at_same rs k (record { order = order_of rs k; next = n; free = free_of rs k }) h)

pub next_other : (rs : List Record) (k j n : ℕ) → j ≢ k → next_of (with_next rs k n) j ≡ next_of rs j
next_other rs k j n ne = ap (λ r. r.next) (at_other rs k j (record { order = order_of rs k; next = n; free = free_of rs k }) ne)

pub free_under : (rs : List Record) (k n j : ℕ) → free_of (with_next rs k n) j ≡ free_of rs j
free_under rs k n j = keeps (λ r. r.free) rs k (record { order = order_of rs k; next = n; free = free_of rs k }) refl j

pub order_under_next : (rs : List Record) (k n j : ℕ) → order_of (with_next rs k n) j ≡ order_of rs j
order_under_next rs k n j = keeps (λ r. r.order) rs k (record { order = order_of rs k; next = n; free = free_of rs k }) refl j

pub free_same : (rs : List Record) (k n : ℕ) → k < length rs → free_of (with_free rs k n) k ≡ n
free_same rs k n h = ap (λ r. r.free) (at_same rs k (record { order = order_of rs k; next = next_of rs k; free = n }) h)

pub free_other : (rs : List Record) (k j n : ℕ) → j ≢ k → free_of (with_free rs k n) j ≡ free_of rs j
free_other rs k j n ne = ap (λ r. r.free) (at_other rs k j (record { order = order_of rs k; next = next_of rs k; free = n }) ne)

pub next_under : (rs : List Record) (k n j : ℕ) → next_of (with_free rs k n) j ≡ next_of rs j
next_under rs k n j = keeps (λ r. r.next) rs k (record { order = order_of rs k; next = next_of rs k; free = n }) refl j

pub order_under_free : (rs : List Record) (k n j : ℕ) → order_of (with_free rs k n) j ≡ order_of rs j
order_under_free rs k n j = keeps (λ r. r.order) rs k (record { order = order_of rs k; next = next_of rs k; free = n }) refl j

-- Clearing

-- each record leads to the one after it, and then the last one to none
pub freed_last : (rs : List Record) (n : ℕ) → length rs ≡ n → ((j : ℕ) → j < n → free_of rs j ≡ j + 1) →
    (j : ℕ) → j < n → free_of (with_free rs (n - 1) 0) j ≡ cond (ltb (j + 1) n) (j + 1) 0
freed_last rs n e freed j h =
    ⊎_elim
    (λ (t : ltb (j + 1) n ≡ true).
    let l = ltb-true (j + 1) n t in
    free_other rs (n - 1) j 0 (let ne : j ≢ n - 1 = omega arith in ne) ∙ freed j h ∙ sym (ap (λ b. cond {A = ℕ} b (j + 1) 0) t))
    (λ (f : ltb (j + 1) n ≡ false).
    let l = ltb-false (j + 1) n f in
    let q : j ≡ n - 1 = omega arith in
    ap (λ i. free_of (with_free rs (n - 1) 0) i) q ∙ free_same rs (n - 1) 0 (omega arith) ∙ sym (ap (λ b. cond {A = ℕ} b (j + 1) 0) f))
    (cases_Bool (ltb (j + 1) n))

-- the end of clearing: the anchor's link, where there is an anchor
pub cleared_some : (rs rs' : List Record) (n k : ℕ) → length rs ≡ n → n ≤ k → ((j : ℕ) → j < k → free_of rs j ≡ cond (ltb (j + 1) n) (j + 1) 0) → 0 < n → rs' ≡ with_next rs 0 0 → Cleared n rs'
cleared_some rs rs' n k e all freed some is = subst (Cleared n) (sym is) (record {
  many = length-set rs 0 (record { order = order_of rs 0; next = 0; free = free_of rs 0 }) ∙ e;
  ended = next_same rs 0 0 (omega arith);
  freed = λ j h. free_under rs 0 0 j ∙ freed j (omega arith);
})

pub cleared_none : (rs rs' : List Record) (n k : ℕ) → length rs ≡ n → n ≤ k → ((j : ℕ) → j < k → free_of rs j ≡ cond (ltb (j + 1) n) (j + 1) 0) → n ≤ 0 → rs' ≡ rs → Cleared n rs'
cleared_none rs rs' n k e all freed none is = subst (Cleared n) (sym is) (record {
  many = e;
  ended = sym (no_anchor rs (omega arith));
  freed = λ j h. freed j (omega arith);
})
