-- Orders by arrival, arranged by priority: what each question and change makes of them.
use Rattle.std.specs.Prelude.{◌≡◌, ℕ, suc, ◌+◌, ◌<◌, ◌≤◌, Bool, true, false, cond, List, [], ◌∷◌, ◌++◌, map, length, get_or, take, drop, is_some, Some, None, Option, MatchOption, position, ◌==◌, ◌≢◌, nat_eq, slice_index_or, slice_set, refl}
use Rattle.std.proofs.Common.{sym, ap, ◌∙◌, ⊎_elim, arith}
use Rattle.std.proofs.lemmas.List.{take_more, set_split}
use Rattle.std.proofs.lemmas.List.Quantifiers.{position-Some}
use Rattle.std.specs.List.{remove, position_or_len, sum_by, filter}
use Rattle.std.proofs.lemmas.Grind.{common_steps}
use Rattle.std.proofs.lemmas.Bool.{cases_Bool, cond_both, ne_eqb, eq-eqb, eqb-true}
use Rattle.std.proofs.lemmas.Bool.Decides.{nat_tests}
use Rattle.rules.specs.Sides.{Rule, Lawful}
use Rattle.books.specs.Lists.{front_of, find, stands, shares_at, put, without, less, reduced}
use Rattle.books.specs.Packing.{blank}
use Rattle.books.specs.Arranging.{tally, Distinct, arrange, arranged}
use Rattle.books.specs.declared.standing.Standing.{Standing}
use Rattle.books.specs.Laws.{sum_arrange}
use Rattle.books.proofs.Keeping.{split_at, tally_append, tally_split}
use Rattle.books.proofs.Ranks.{Runs, put_first, runs_put}

pub arrange_append : (rule : Rule) (xs ys list : List Standing) →
    arrange rule (xs ++ ys) list ≡ arrange rule ys (arrange rule xs list)
arrange_append rule [] ys list = refl
arrange_append rule (x ∷ xs) ys list = arrange_append rule xs ys (put rule x list)

pub runs_arrange : (rule : Rule) → Lawful rule → (xs list : List Standing) → Runs rule list → Runs rule (arrange rule xs list)
runs_arrange rule law [] list r = r
runs_arrange rule law (x ∷ xs) list r = runs_arrange rule law xs (put rule x list) (runs_put rule law x list r)

-- Sums over the orders, in whatever order they stand

pub shares_arrange : (price : ℕ) (rule : Rule) (xs list : List Standing) →
    shares_at price (arrange rule xs list) ≡ shares_at price xs + shares_at price list
shares_arrange price =
    sum_arrange (shares_at price) (λ o. cond (o.price == price) o.shares 0) (λ _ _. refl) refl

pub shares_summed : (price : ℕ) (xs : List Standing) → sum_by (λ o. o.shares) (filter (λ o. o.price == price) xs) ≡ shares_at price xs
shares_summed price [] = refl
shares_summed price (x ∷ xs) = let e = shares_summed price xs in grind (arith, common_steps, nat_tests)

-- the same, with 0 for each order at another price
pub shares_each : (price : ℕ) (xs : List Standing) →
    sum_by (λ o. cond (nat_eq o.price price) o.shares 0) xs ≡ sum_by (λ o. o.shares) (filter (λ o. o.price == price) xs)
shares_each price [] = refl
shares_each price (x ∷ xs) = let e = shares_each price xs in grind (arith, common_steps, nat_tests)

pub tally_arrange : (n : ℕ) (rule : Rule) (xs list : List Standing) →
    tally n (arrange rule xs list) ≡ tally n xs + tally n list
tally_arrange n = sum_arrange (tally n) (λ o. cond (o.number == n) 1 0) (λ _ _. refl) refl

-- The front

pub front_put : (rule : Rule) (o b : Standing) (xs : List Standing) → front_of xs ≡ Some b →
    front_of (put rule o xs) ≡ Some (cond (rule.ahead o.price b.price) o b)
front_put rule o b [] h = let z : ◌≡◌ {A = ℕ} 0 1 = cc in absurd (omega arith)
front_put rule o b (x ∷ xs) h = let e : x ≡ b = cc in grind (arith, nat_tests)

pub front_more : (rule : Rule) (xs : List Standing) (i best : ℕ) → i < length xs →
    front_of (arranged rule (take i xs)) ≡ Some (slice_index_or xs best blank) →
    front_of (arranged rule (take (i + 1) xs)) ≡
    Some (cond (rule.ahead (get_or xs i blank).price (get_or xs best blank).price) (slice_index_or xs i blank) (slice_index_or xs best blank))
front_more rule xs i best l h =
    ap (λ os. front_of (arranged rule os)) (take_more xs i blank l) ∙
    ap front_of (arrange_append rule (take i xs) (slice_index_or xs i blank ∷ []) []) ∙
    front_put rule (slice_index_or xs i blank) (slice_index_or xs best blank) (arranged rule (take i xs)) h

-- An order by its number

other : (n : ℕ) (o : Standing) (os : List Standing) → tally n (o ∷ os) ≡ 0 → ((o.number == n) ≡ false) × (tally n os ≡ 0)
other n o os h = (grind (arith, nat_tests), grind (arith, nat_tests))

pub find_none : (n : ℕ) (xs : List Standing) → tally n xs ≡ 0 → find n xs ≡ None
find_none n [] h = refl
find_none n (x ∷ xs) h =
    let p = other n x xs h in ap (λ b. cond b (Some x) (find n xs)) p.0 ∙ find_none n xs p.1

find_put_other : (n : ℕ) (rule : Rule) (o : Standing) (xs : List Standing) → (o.number == n) ≡ false →
    find n (put rule o xs) ≡ find n xs
find_put_other n rule o [] d = ap (λ b. cond b (Some o) None) d
find_put_other n rule o (x ∷ xs) d =
    cond_both (rule.ahead o.price x.price) (o ∷ x ∷ xs) (x ∷ put rule o xs) (λ l. find n l ≡ find n (x ∷ xs))
    (λ _. ap (λ b. cond b (Some o) (find n (x ∷ xs))) d)
    (λ _. ap (λ r. cond (x.number == n) (Some x) r) (find_put_other n rule o xs d))

find_put_same : (rule : Rule) (o : Standing) (xs : List Standing) → tally o.number xs ≡ 0 →
    find o.number (put rule o xs) ≡ Some o
find_put_same rule o [] h = ap (λ b. cond b (Some o) None) (eq-eqb o.number o.number refl)
find_put_same rule o (x ∷ xs) h =
    let p = other o.number x xs h in
    cond_both (rule.ahead o.price x.price) (o ∷ x ∷ xs) (x ∷ put rule o xs) (λ l. find o.number l ≡ Some o)
    (λ _. ap (λ b. cond b (Some o) (find o.number (x ∷ xs))) (eq-eqb o.number o.number refl))
    (λ _. ap (λ b. cond b (Some x) (find o.number (put rule o xs))) p.0 ∙ find_put_same rule o xs p.1)

find_arrange_others : (n : ℕ) (rule : Rule) (xs list : List Standing) → tally n xs ≡ 0 →
    find n (arrange rule xs list) ≡ find n list
find_arrange_others n rule [] list h = refl
find_arrange_others n rule (x ∷ xs) list h =
    let p = other n x xs h in
    find_arrange_others n rule xs (put rule x list) p.1 ∙ find_put_other n rule x list p.0

-- Taking an order away

without_put_other : (n : ℕ) (rule : Rule) → Lawful rule → (o : Standing) (xs : List Standing) → (o.number == n) ≡ false →
    Runs rule xs → without n (put rule o xs) ≡ put rule o (without n xs)
without_put_other n rule law o [] d r = ap (λ b. cond b [] (o ∷ [])) d
without_put_other n rule law o (x ∷ xs) d r =
    cond_both (rule.ahead o.price x.price) (o ∷ x ∷ xs) (x ∷ put rule o xs)
    (λ l. without n l ≡ put rule o (without n (x ∷ xs)))
    (λ h.
    ap (λ b. cond b (x ∷ xs) (o ∷ without n (x ∷ xs))) d ∙
    cond_both (x.number == n) xs (x ∷ without n xs) (λ l. o ∷ l ≡ put rule o l)
    (λ _. sym (put_first rule law o x.price h xs r.0))
    (λ _. sym (ap (λ b. cond b (o ∷ x ∷ without n xs) (x ∷ put rule o (without n xs))) h)))
    (λ h.
    ⊎_elim
    (λ (e : nat_eq x.number n ≡ true).
    ap (λ b. cond b (put rule o xs) (x ∷ without n (put rule o xs))) e ∙
    sym (ap (λ b. put rule o (cond b xs (x ∷ without n xs))) e))
    (λ (e : nat_eq x.number n ≡ false).
    ap (λ b. cond b (put rule o xs) (x ∷ without n (put rule o xs))) e ∙
    ap (λ l. x ∷ l) (without_put_other n rule law o xs d r.1) ∙
    sym (ap (λ b. cond b (o ∷ x ∷ without n xs) (x ∷ put rule o (without n xs))) h) ∙
    sym (ap (λ b. put rule o (cond b xs (x ∷ without n xs))) e))
    (cases_Bool (x.number == n)))

without_put_same : (rule : Rule) (o : Standing) (xs : List Standing) → tally o.number xs ≡ 0 →
    without o.number (put rule o xs) ≡ xs
without_put_same rule o [] h = ap (λ b. cond b [] (o ∷ [])) (eq-eqb o.number o.number refl)
without_put_same rule o (x ∷ xs) h =
    let p = other o.number x xs h in
    cond_both (rule.ahead o.price x.price) (o ∷ x ∷ xs) (x ∷ put rule o xs) (λ l. without o.number l ≡ x ∷ xs)
    (λ _. ap (λ b. cond b (x ∷ xs) (o ∷ without o.number (x ∷ xs))) (eq-eqb o.number o.number refl))
    (λ _.
    ap (λ b. cond b (put rule o xs) (x ∷ without o.number (put rule o xs))) p.0 ∙
    ap (λ l. x ∷ l) (without_put_same rule o xs p.1))

without_arrange_others : (n : ℕ) (rule : Rule) → Lawful rule → (xs list : List Standing) → tally n xs ≡ 0 →
    Runs rule list → without n (arrange rule xs list) ≡ arrange rule xs (without n list)
without_arrange_others n rule law [] list h r = refl
without_arrange_others n rule law (x ∷ xs) list h r =
    let p = other n x xs h in
    without_arrange_others n rule law xs (put rule x list) p.1 (runs_put rule law x list r) ∙
    ap (arrange rule xs) (without_put_other n rule law x list p.0 r)

-- Fewer shares of one order

abbrev fewer : (n k : ℕ) → Standing → Standing
fewer n k o = cond (o.number == n) (reduced o k) o

fewer_price : (n k : ℕ) (o : Standing) → (fewer n k o).price ≡ o.price
fewer_price n k o = cond_both (o.number == n) (reduced o k) o (λ r. r.price ≡ o.price) (λ _. refl) (λ _. refl)

map_put : (f : Standing → Standing) → ((o : Standing) → (f o).price ≡ o.price) → (rule : Rule) (o : Standing) (xs : List Standing) →
    map f (put rule o xs) ≡ put rule (f o) (map f xs)
map_put f e rule o [] = refl
map_put f e rule o (x ∷ xs) =
    let same : rule.ahead (f o).price (f x).price ≡ rule.ahead o.price x.price =
    ap (rule.ahead (f o).price) (e x) ∙ ap (λ p. rule.ahead p x.price) (e o) in
    cond_both (rule.ahead o.price x.price) (o ∷ x ∷ xs) (x ∷ put rule o xs) (λ l. map f l ≡ put rule (f o) (map f (x ∷ xs)))
    (λ h. sym (ap (λ b. cond b (f o ∷ f x ∷ map f xs) (f x ∷ put rule (f o) (map f xs))) (same ∙ h)))
    (λ h.
    ap (λ l. f x ∷ l) (map_put f e rule o xs) ∙
    sym (ap (λ b. cond b (f o ∷ f x ∷ map f xs) (f x ∷ put rule (f o) (map f xs))) (same ∙ h)))

map_arrange : (f : Standing → Standing) → ((o : Standing) → (f o).price ≡ o.price) → (rule : Rule) (xs list : List Standing) →
    map f (arrange rule xs list) ≡ arrange rule (map f xs) (map f list)
map_arrange f e rule [] list = refl
map_arrange f e rule (x ∷ xs) list =
    map_arrange f e rule xs (put rule x list) ∙ ap (arrange rule (map f xs)) (map_put f e rule x list)

fewer_others : (n k : ℕ) (xs : List Standing) → tally n xs ≡ 0 → map (fewer n k) xs ≡ xs
fewer_others n k [] h = refl
fewer_others n k (x ∷ xs) h =
    let p = other n x xs h in
    ap (λ b. cond b (reduced x k) x ∷ map (fewer n k) xs) p.0 ∙ ap (λ l. x ∷ l) (fewer_others n k xs p.1)

-- One order among the arrivals, whose number stands once

module _ (rule : Rule) (xs : List Standing) (y : Standing) (ys : List Standing) (alone : tally y.number (xs ++ ys) ≡ 0) where
  in_two : arranged rule (xs ++ y ∷ ys) ≡ arrange rule ys (put rule y (arranged rule xs))
  in_two = arrange_append rule xs (y ∷ ys) []

  not_earlier : tally y.number (arranged rule xs) ≡ 0
  not_earlier = omega (arith, alone, tally_append y.number xs ys, tally_arrange y.number rule xs [])

  not_later : tally y.number ys ≡ 0
  not_later = omega (arith, alone, tally_append y.number xs ys)

  find_middle : find y.number (arranged rule (xs ++ y ∷ ys)) ≡ Some y
  find_middle =
      ap (find y.number) in_two ∙
      find_arrange_others y.number rule ys (put rule y (arranged rule xs)) not_later ∙
      find_put_same rule y (arranged rule xs) not_earlier

  without_middle : Lawful rule → without y.number (arranged rule (xs ++ y ∷ ys)) ≡ arranged rule (xs ++ ys)
  without_middle law =
      ap (without y.number) in_two ∙
      without_arrange_others y.number rule law ys (put rule y (arranged rule xs)) not_later
      (runs_put rule law y (arranged rule xs) (runs_arrange rule law xs [] tt)) ∙
      ap (arrange rule ys) (without_put_same rule y (arranged rule xs) not_earlier) ∙
      sym (arrange_append rule xs ys [])

  fewer_middle : (k : ℕ) → map (fewer y.number k) (arranged rule (xs ++ y ∷ ys)) ≡ arranged rule (xs ++ reduced y k ∷ ys)
  fewer_middle k =
      ap (map (fewer y.number k)) in_two ∙
      map_arrange (fewer y.number k) (fewer_price y.number k) rule ys (put rule y (arranged rule xs)) ∙
      ap (λ l. arrange rule l (map (fewer y.number k) (put rule y (arranged rule xs))))
      (fewer_others y.number k ys not_later) ∙
      ap (arrange rule ys) (map_put (fewer y.number k) (fewer_price y.number k) rule y (arranged rule xs)) ∙
      ap (λ l. arrange rule ys (put rule (fewer y.number k y) l))
      (fewer_others y.number k (arranged rule xs) not_earlier) ∙
      ap (λ b. arrange rule ys (put rule (cond b (reduced y k) y) (arranged rule xs))) (eq-eqb y.number y.number refl) ∙
      sym (arrange_append rule xs (reduced y k ∷ ys) [])

-- The order at a place

module _ (rule : Rule) (os : List Standing) (i : ℕ) (l : i < length os) (d : Distinct os) where
  alone_at : tally (get_or os i blank).number (take i os ++ drop (suc i) os) ≡ 0
  alone_at =
      let y = get_or os i blank in
      let e = tally_split y.number os i l in
      let q = eq-eqb y.number y.number refl in
      let m = d y.number in
      grind (arith, nat_tests)

  pub find_at : find (get_or os i blank).number (arranged rule os) ≡ Some (slice_index_or os i blank)
  find_at =
      ap (λ ws. find (get_or os i blank).number (arranged rule ws)) (split_at os i l) ∙
      find_middle rule (take i os) (slice_index_or os i blank) (drop (suc i) os) alone_at

  pub without_at : Lawful rule → arranged rule (remove os i) ≡ without (get_or os i blank).number (arranged rule os)
  without_at law =
      sym (without_middle rule (take i os) (slice_index_or os i blank) (drop (suc i) os) alone_at law) ∙
      ap (λ ws. without (get_or os i blank).number (arranged rule ws)) (sym (split_at os i l))

  fewer_at : (k : ℕ) → arranged rule (slice_set os i (reduced (slice_index_or os i blank) k)) ≡ map (fewer (get_or os i blank).number k) (arranged rule os)
  fewer_at k =
      ap (arranged rule) (set_split os i (reduced (slice_index_or os i blank) k) l) ∙
      sym (fewer_middle rule (take i os) (slice_index_or os i blank) (drop (suc i) os) alone_at k) ∙
      ap (λ ws. map (fewer (get_or os i blank).number k) (arranged rule ws)) (sym (split_at os i l))

-- The list when its front has fewer shares

without_front : (list : List Standing) (y : Standing) (k : ℕ) → front_of list ≡ Some y → k ≡ y.shares →
    without y.number list ≡ less list k
without_front [] y k f e = let z : ◌≡◌ {A = ℕ} 0 1 = cc in absurd (omega arith)
without_front (x ∷ xs) y k f e = let q : x ≡ y = cc in grind (arith, nat_tests)

fewer_front : (list : List Standing) (y : Standing) (k : ℕ) → tally y.number list ≤ 1 → front_of list ≡ Some y →
    (k ≢ y.shares) → map (fewer y.number k) list ≡ less list k
fewer_front [] y k t f e = let z : ◌≡◌ {A = ℕ} 0 1 = cc in absurd (omega arith)
fewer_front (x ∷ xs) y k t f e =
    let q : x ≡ y = cc in
    let same : nat_eq x.number y.number ≡ true = eq-eqb x.number y.number (ap (λ o. o.number) q) in
    let rest : tally y.number xs ≡ 0 = grind (arith, nat_tests) in
    let left : nat_eq k x.shares ≡ false = ne_eqb k x.shares (λ p. e (p ∙ ap (λ o. o.shares) q)) in
    ap (λ b. cond b (reduced x k) x ∷ map (fewer y.number k) xs) same ∙
    ap (λ ws. reduced x k ∷ ws) (fewer_others y.number k xs rest) ∙
    sym (ap (λ b. cond b xs (reduced x k ∷ xs)) left)

module _ (rule : Rule) (os : List Standing) (i : ℕ) (l : i < length os) (d : Distinct os)
    (front : front_of (arranged rule os) ≡ Some (slice_index_or os i blank)) where
  pub gone_at : Lawful rule → (k : ℕ) → k ≡ (get_or os i blank).shares → arranged rule (remove os i) ≡ less (arranged rule os) k
  gone_at law k e = without_at rule os i l d law ∙ without_front (arranged rule os) (slice_index_or os i blank) k front e

  pub reduced_front : (k : ℕ) → (k ≢ (get_or os i blank).shares) →
      arranged rule (slice_set os i (reduced (slice_index_or os i blank) k)) ≡ less (arranged rule os) k
  reduced_front k e =
      fewer_at rule os i l d k ∙
      fewer_front (arranged rule os) (slice_index_or os i blank) k
      (omega (arith, tally_arrange (get_or os i blank).number rule os [], d (get_or os i blank).number)) front e

-- What the place of an order's number says of the arranged list

abbrev pub numbered : ℕ → Standing → Bool
numbered n o = o.number == n

passed_by : (n : ℕ) (xs : List Standing) → length xs ≤ position_or_len (numbered n) xs → tally n xs ≡ 0
passed_by n [] h = refl
passed_by n (x ∷ xs) h = let t = passed_by n xs in grind (arith, nat_tests)

pub tally_absent : (n : ℕ) (xs : List Standing) → position (numbered n) xs ≡ None → tally n xs ≡ 0
tally_absent n xs e = passed_by n xs (grind (arith, nat_tests))

pub absent_arranged : (rule : Rule) (os : List Standing) (n : ℕ) → position (numbered n) os ≡ None → find n (arranged rule os) ≡ None
absent_arranged rule os n e =
    find_none n (arranged rule os) (omega (arith, tally_absent n os e, tally_arrange n rule os []))

match_some : (p : Option ℕ) (P : Option ℕ → Type 0) → (p ≡ None → P None) → ((i : ℕ) → p ≡ Some i → P (Some i)) → P p
match_some None P f g = f refl
match_some (Some i) P f g = g i refl

module _ (rule : Rule) (os : List Standing) (d : Distinct os) (n : ℕ) where
  pub find_place : (i : ℕ) → position (numbered n) os ≡ Some i → find n (arranged rule os) ≡ Some (slice_index_or os i blank)
  find_place i e =
      let p = position-Some (numbered n) os i blank e in
      ap (λ m. find m (arranged rule os)) (sym (eqb-true (get_or os i blank).number n p.1)) ∙ find_at rule os i p.0 d

  pub stands_place : stands n (arranged rule os) ≡ is_some (position (numbered n) os)
  stands_place =
      match_some (position (numbered n) os) (λ r. stands n (arranged rule os) ≡ is_some r)
      (λ e. ap is_some (absent_arranged rule os n e)) (λ i e. ap is_some (find_place i e))

  -- what `find` of the arrivals says is what the arranged list says
  pub found_place : (r : Option Standing) →
      MatchOption (position (numbered n) os) (r ≡ None) (λ i. r ≡ Some (slice_index_or os i blank)) →
      r ≡ find n (arranged rule os)
  found_place r =
      match_some (position (numbered n) os)
      (λ p. MatchOption p (r ≡ None) (λ i. r ≡ Some (slice_index_or os i blank)) → r ≡ find n (arranged rule os))
      (λ e h. h ∙ sym (absent_arranged rule os n e)) (λ i e h. h ∙ sym (find_place i e))

  pub gone_place : Lawful rule → (i : ℕ) → position (numbered n) os ≡ Some i → arranged rule (remove os i) ≡ without n (arranged rule os)
  gone_place law i e =
      let p = position-Some (numbered n) os i blank e in
      without_at rule os i p.0 d law ∙ ap (λ m. without m (arranged rule os)) (eqb-true (get_or os i blank).number n p.1)

pub fresh : (os : List Standing) (n : ℕ) → is_some (position (numbered n) os) ≡ false → tally n os ≡ 0
fresh os n =
    match_some (position (numbered n) os) (λ r. is_some r ≡ false → tally n os ≡ 0) (λ e h. tally_absent n os e) (λ i e h. cc)

pub arranged_push : (rule : Rule) (os : List Standing) (o : Standing) → arranged rule (os ++ o ∷ []) ≡ put rule o (arranged rule os)
arranged_push rule os o = arrange_append rule os (o ∷ []) []
