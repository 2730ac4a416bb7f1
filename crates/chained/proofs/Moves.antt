-- What linking and unlinking records does to the two chains.
use Rattle.std.proofs.Common.{◌≡◌, ℕ, ◌+◌, ◌<◌, ◌≤◌, Bool, cond, ltb, ◌≢◌, List, [], ◌∷◌, length, set, sym, refl, ap, ◌∙◌, subst, ⊎_elim, arith}
use Rattle.std.proofs.lemmas.List.{length-set}
use Rattle.std.proofs.lemmas.Bool.{cond_both, ltb-true, cases_eq}
use Rattle.books.specs.declared.standing.Standing.{Standing}
use Rattle.chained.specs.Links.{times, stop}
use Rattle.chained.specs.Records.{next_of, free_of, order_of, line, idle, Apart, Whole, linked, unlinked, with_next, with_free}
use Rattle.chained.specs.declared.record.Record.{Record}
use Rattle.chained.proofs.Chain.{Chain, chain_of, links_is, never_zero, times_here, times_tail, times_other}
use Rattle.chained.proofs.Columns.{at_same, at_other, next_same, next_other, next_under, free_same, free_other, free_under, order_under_next, order_under_free}

pub line_chain : (rs : List Record) → Whole rs → Chain (next_of rs) (next_of rs 0) (line rs)
line_chain [] w = refl
line_chain (r ∷ rs) w = chain_of (length (r ∷ rs)) (next_of (r ∷ rs)) (next_of (r ∷ rs) 0) (omega arith)

pub idle_chain : (rs : List Record) → Whole rs → Chain (free_of rs) (free_of rs 0) (idle rs)
idle_chain [] w = refl
idle_chain (r ∷ rs) w = chain_of (length (r ∷ rs)) (free_of (r ∷ rs)) (free_of (r ∷ rs) 0) (omega arith)

one_below : (k n m : ℕ) → 0 < m → m ≤ cond (ltb k n) 1 0 → k < n
one_below k n m some h =
    let P : ℕ → Type 0 = λ v. m ≤ v → k < n in
    cond_both (ltb k n) 1 0 P (λ t _. ltb-true k n t) (λ _ z. absurd (omega arith)) h

-- an index of either chain lies among the records
pub inside : (rs : List Record) → Apart rs → (k : ℕ) → 0 < times k (line rs) + times k (idle rs) → k < length rs
inside rs apart k some = one_below k (length rs) (times k (line rs) + times k (idle rs)) some (apart k)

pub once : (rs : List Record) → Apart rs → (k : ℕ) → times k (line rs) + times k (idle rs) ≤ 1
once rs apart k =
    let P : ℕ → Type 0 = λ v. times k (line rs) + times k (idle rs) ≤ v → times k (line rs) + times k (idle rs) ≤ 1 in
    cond_both (ltb k (length rs)) 1 0 P (λ _ h. h) (λ _ h. omega arith) (apart k)

-- the anchor stands in neither, so a walk from it passes no index twice
pub once_from : (rs : List Record) → Apart rs → Whole rs → (k : ℕ) → times k (0 ∷ line rs) ≤ 1
once_from rs apart whole k =
    let c = never_zero (next_of rs) (next_of rs 0) (line rs) (line_chain rs whole) in
    let o = once rs apart k in
    ⊎_elim (λ e. subst (λ j. times j (0 ∷ line rs) ≤ 1) (sym e) (omega (arith, times_here 0 (line rs))))
    (λ ne. omega (arith, times_other k 0 (line rs) ne)) (cases_eq k 0)

pub stop_below : (b : ℕ → Bool) (s : ℕ) (xs : List ℕ) (n : ℕ) → s < n → ((k : ℕ) → 0 < times k xs → k < n) → stop b s xs < n
stop_below b s [] n h all = h
stop_below b s (x ∷ xs) n h all =
    let P : ℕ → Type 0 = λ y. y < n in
    cond_both (b x) s (stop b x xs) P (λ _. h)
    (λ _. stop_below b x xs n (all x (omega (arith, times_here x xs))) (λ k i. all k (omega (arith, times_tail k x xs))))

-- two lists that are chains in the records are the two chains of the records
pub line_is : (rs : List Record) (xs : List ℕ) → Chain (next_of rs) (next_of rs 0) xs → length xs ≤ length rs → line rs ≡ xs
line_is rs xs c h = links_is (length rs) (next_of rs) (next_of rs 0) xs c h

pub idle_is : (rs : List Record) (ys : List ℕ) → Chain (free_of rs) (free_of rs 0) ys → length ys ≤ length rs → idle rs ≡ ys
idle_is rs ys c h = links_is (length rs) (free_of rs) (free_of rs 0) ys c h

-- Linking

abbrev rest : List Record → ℕ → List Record
rest rs here = with_free rs 0 (free_of rs here)

abbrev filled : List Record → (before here : ℕ) → Standing → List Record
filled rs before here o = set (rest rs here) here (record { order = o; next = next_of rs before; free = 0 })

module _ (rs : List Record) (before here : ℕ) (o : Standing) where
  length_filled : length (filled rs before here o) ≡ length rs
  length_filled = simp length-set

  pub length_linked : length (linked rs before here o) ≡ length rs
  length_linked = simp length-set

  pub next_before : before < length rs → next_of (linked rs before here o) before ≡ here
  next_before h = next_same (filled rs before here o) before here (omega (arith, length_filled))

  pub next_here : here < length rs → here ≢ before → next_of (linked rs before here o) here ≡ next_of rs before
  next_here h ne =
      next_other (filled rs before here o) before here here ne
      ∙ ap (λ r. r.next) (at_same (rest rs here) here (record { order = o; next = next_of rs before; free = 0 }) (simp length-set h))

  pub next_else : (j : ℕ) → j ≢ here → j ≢ before → next_of (linked rs before here o) j ≡ next_of rs j
  next_else j nh nb =
      next_other (filled rs before here o) before j here nb
      ∙ (ap (λ r. r.next) (at_other (rest rs here) here j (record { order = o; next = next_of rs before; free = 0 }) nh)
      ∙ next_under rs 0 (free_of rs here) j)

  pub free_anchor : 0 < length rs → here ≢ 0 → free_of (linked rs before here o) 0 ≡ free_of rs here
  free_anchor h ne =
      free_under (filled rs before here o) before here 0
      ∙ (ap (λ r. r.free) (at_other (rest rs here) here 0 (record { order = o; next = next_of rs before; free = 0 }) (λ e. ne (sym e)))
      ∙ free_same rs 0 (free_of rs here) h)

  pub free_else : (j : ℕ) → j ≢ here → j ≢ 0 → free_of (linked rs before here o) j ≡ free_of rs j
  free_else j nh nz =
      free_under (filled rs before here o) before here j
      ∙ (ap (λ r. r.free) (at_other (rest rs here) here j (record { order = o; next = next_of rs before; free = 0 }) nh)
      ∙ free_other rs 0 j (free_of rs here) nz)

  pub order_here : here < length rs → order_of (linked rs before here o) here ≡ o
  order_here h =
      order_under_next (filled rs before here o) before here here
      ∙ ap (λ r. r.order) (at_same (rest rs here) here (record { order = o; next = next_of rs before; free = 0 }) (simp length-set h))

  pub order_else : (j : ℕ) → j ≢ here → order_of (linked rs before here o) j ≡ order_of rs j
  order_else j nh =
      order_under_next (filled rs before here o) before here j
      ∙ (ap (λ r. r.order) (at_other (rest rs here) here j (record { order = o; next = next_of rs before; free = 0 }) nh)
      ∙ order_under_free rs 0 (free_of rs here) j)

-- Unlinking

abbrev passed : List Record → (before here : ℕ) → List Record
passed rs before here = with_next rs before (next_of rs here)

abbrev freed : List Record → (before here : ℕ) → List Record
freed rs before here = with_free (passed rs before here) here (free_of rs 0)

module _ (rs : List Record) (before here : ℕ) where
  pub length_unlinked : length (unlinked rs before here) ≡ length rs
  length_unlinked = simp length-set

  length_freed : length (freed rs before here) ≡ length rs
  length_freed = simp length-set

  length_passed : length (passed rs before here) ≡ length rs
  length_passed = simp length-set

  next_passed : (j : ℕ) → next_of (unlinked rs before here) j ≡ next_of (passed rs before here) j
  next_passed j = next_under (freed rs before here) 0 here j ∙ next_under (passed rs before here) here (free_of rs 0) j

  pub past_before : before < length rs → next_of (unlinked rs before here) before ≡ next_of rs here
  past_before h = next_passed before ∙ next_same rs before (next_of rs here) h

  pub past_else : (j : ℕ) → j ≢ before → next_of (unlinked rs before here) j ≡ next_of rs j
  past_else j nb = next_passed j ∙ next_other rs before j (next_of rs here) nb

  pub back_anchor : 0 < length rs → free_of (unlinked rs before here) 0 ≡ here
  back_anchor h = free_same (freed rs before here) 0 here (omega (arith, length_freed))

  pub back_here : here < length rs → here ≢ 0 → free_of (unlinked rs before here) here ≡ free_of rs 0
  back_here h nz =
      free_other (freed rs before here) 0 here here nz
      ∙ free_same (passed rs before here) here (free_of rs 0) (omega (arith, length_passed))

  pub back_else : (j : ℕ) → j ≢ here → j ≢ 0 → free_of (unlinked rs before here) j ≡ free_of rs j
  back_else j nh nz =
      free_other (freed rs before here) 0 j here nz
      ∙ (free_other (passed rs before here) here j (free_of rs 0) nh ∙ free_under rs before (next_of rs here) j)

  pub order_unlinked : (j : ℕ) → order_of (unlinked rs before here) j ≡ order_of rs j
  order_unlinked j =
      order_under_free (freed rs before here) 0 here j
      ∙ (order_under_free (passed rs before here) here (free_of rs 0) j ∙ order_under_next rs before (next_of rs here) j)
