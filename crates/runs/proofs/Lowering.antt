-- Lists of standing orders when shares are taken from an order by its number, and when one is put in.
use Rattle.std.proofs.Common.{◌≡◌, ℕ, ◌+◌, ◌-◌, ◌<◌, ◌≤◌, Bool, true, false, cond, eqb, List, [], ◌∷◌, Some, sym, refl, ap, ◌∙◌, subst, arith}
use Rattle.std.proofs.lemmas.Option.{none-some, same_Some}
use Rattle.std.proofs.lemmas.Bool.{eq-eqb, eqb-true, ne_eqb, cond-true, cond_both, both_ways}
use Rattle.books.proofs.Past.{each_map, each_put}
use Rattle.books.proofs.Ranks.{not_both, before}
use Rattle.books.specs.Arranging.{tally}
use Rattle.books.specs.Histories.{Each, Pairs}
use Rattle.books.specs.Lists.{AllSound, front_of, find, put, less, reduced, taken, sound}
use Rattle.books.specs.declared.standing.Standing.{Standing}
use Rattle.market.proofs.Fitting.{put_sound}
use Rattle.matching.proofs.Fronts.{taken_is, taken_sound}
use Rattle.matching.specs.declared.trade.Trade.{Trade}
use Rattle.rules.specs.Sides.{Rule, Lawful}
use Rattle.runs.specs.Law.{StandsBefore, if_number}
use Rattle.runs.specs.Tapes.{lowered, after_trade}

-- the open shares under a number, where no number stands twice
abbrev pub amount : (number : ℕ) → List Standing → ℕ
amount n [] = 0
amount n (o ∷ os) = if_number o.number n o.shares + amount n os

-- Taking by number

pub lowered_absent : (n k : ℕ) (os : List Standing) → tally n os ≡ 0 → lowered n k os ≡ os
lowered_absent n k [] h = refl
lowered_absent n k (o ∷ os) h =
    let P : Bool → Type 0 = λ b. cond b 1 0 + tally n os ≡ 0 → cond b (less (o ∷ os) k) (o ∷ lowered n k os) ≡ o ∷ os in
    elim (eqb o.number n) as P [
      | true ↦ λ e. absurd (let no : ⊥ = omega arith in no)
      | false ↦ λ e. ap (λ r. o ∷ r) (lowered_absent n k os (omega arith))
    ] h

lowered_front : (o : Standing) (os : List Standing) (k : ℕ) → lowered o.number k (o ∷ os) ≡ less (o ∷ os) k
lowered_front o os k = cond-true (eqb o.number o.number) _ _ (eq-eqb o.number o.number refl)

tally_less : (n : ℕ) (os : List Standing) (k : ℕ) → tally n (less os k) ≤ tally n os
tally_less n [] k = omega arith
tally_less n (o ∷ os) k =
    let P : Bool → Type 0 = λ b. tally n (cond b os (reduced o k ∷ os)) ≤ tally n (o ∷ os) in
    elim (eqb k o.shares) as P [ true ↦ omega arith | false ↦ omega arith ]

amount_less : (n : ℕ) (o : Standing) (os : List Standing) (k : ℕ) → k ≤ o.shares → amount n (o ∷ os) ≡ amount n (less (o ∷ os) k) + if_number o.number n k
amount_less n o os k within =
    let P : Bool → Type 0 = λ b. eqb k o.shares ≡ b → amount n (o ∷ os) ≡ amount n (cond b os (reduced o k ∷ os)) + if_number o.number n k in
    elim (eqb k o.shares) as P [
      | true ↦ λ e. rw (eqb-true k o.shares e) (omega arith)
      | false ↦ λ _. split (eqb o.number n)
    ] refl
  where
    split : (b : Bool) → cond b o.shares 0 + amount n os ≡ cond b (o.shares - k) 0 + amount n os + cond b k 0
    split true = omega arith
    split false = omega arith

-- the front order has q of its shares taken
module _ (o : Standing) (os : List Standing) (q : ℕ) (some : 0 < q) (within : q ≤ o.shares) where
  pub by_number : lowered o.number q (o ∷ os) ≡ (taken (o ∷ os) q).list
  by_number = lowered_front o os q ∙ sym (taken_is o os q some within)

  pub taken_tally : (n : ℕ) → tally n (taken (o ∷ os) q).list ≤ tally n (o ∷ os)
  taken_tally n = rw (taken_is o os q some within) (tally_less n (o ∷ os) q)

  pub taken_amount : (n : ℕ) → amount n (o ∷ os) ≡ amount n (taken (o ∷ os) q).list + if_number o.number n q
  taken_amount n = rw (taken_is o os q some within) (amount_less n o os q within)

  -- what goes by number and price alone stays true
  pub taken_each : (P : Standing → Type 0) → ((x : Standing) → P x → P (reduced x q)) → Each P (o ∷ os) → Each P (taken (o ∷ os) q).list
  taken_each P keep h =
      let R : Bool → Type 0 = λ b. Each P (cond b os (reduced o q ∷ os)) in
      rw (taken_is o os q some within) (elim (eqb q o.shares) as R [ true ↦ h.1 | false ↦ (keep o h.0, h.1) ])

  pub taken_pairs : (rule : Rule) → Pairs (StandsBefore rule) (o ∷ os) → Pairs (StandsBefore rule) (taken (o ∷ os) q).list
  taken_pairs rule h =
      let R : Bool → Type 0 = λ b. Pairs (StandsBefore rule) (cond b os (reduced o q ∷ os)) in
      rw (taken_is o os q some within) (elim (eqb q o.shares) as R [ true ↦ h.1 | false ↦ h ])

-- A list as a book of a run keeps it

abbrev pub Good : Rule → (issued : ℕ) → List Standing → Type 0
Good rule k os = Pairs (StandsBefore rule) os × AllSound os × Each (λ o. o.number ≤ k) os

pub taken_good : (rule : Rule) (k : ℕ) (o : Standing) (os : List Standing) (q : ℕ) → 0 < q → q ≤ o.shares → Good rule k (o ∷ os) → Good rule k (taken (o ∷ os) q).list
taken_good rule k o os q some within g = (
  taken_pairs o os q some within rule g.0,
  taken_sound (o ∷ os) q g.1,
  taken_each o os q some within (λ x. x.number ≤ k) (λ x h. h) g.2,
)

pub later_good : (rule : Rule) (k : ℕ) (os : List Standing) → Good rule k os → Good rule (k + 1) os
later_good rule k os g = (g.0, g.1, each_map (λ o. o.number ≤ k) (λ o. o.number ≤ k + 1) (λ o h. omega arith) os g.2)

pub fresh_tally : (k n : ℕ) (os : List Standing) → Each (λ o. o.number ≤ k) os → k < n → tally n os ≡ 0
fresh_tally k n [] h l = refl
fresh_tally k n (o ∷ os) h l =
    let other : eqb o.number n ≡ false = ne_eqb o.number n (λ e. let below = h.0 in let no : ⊥ = omega arith in no) in
    rw other (omega (arith, fresh_tally k n os h.1 l))

pub tally_front : (o : Standing) (os : List Standing) → 1 ≤ tally o.number (o ∷ os)
tally_front o os = rw (eq-eqb o.number o.number refl) (omega arith)

pub find_front : (o : Standing) (os : List Standing) → find o.number (o ∷ os) ≡ Some o
find_front o os = cond-true (eqb o.number o.number) (Some o) _ (eq-eqb o.number o.number refl)

-- A new order among earlier ones

module _ (rule : Rule) (law : Lawful rule) (o : Standing) where
  before_all : (x : Standing) (xs : List Standing) → rule.ahead o.price x.price ≡ true → Each (StandsBefore rule x) xs → Each (StandsBefore rule o) xs
  before_all x xs h = each_map (StandsBefore rule x) (StandsBefore rule o) (λ y b. behind x y h b) xs
    where
      behind : (x y : Standing) → rule.ahead o.price x.price ≡ true → StandsBefore rule x y → StandsBefore rule o y
      behind x y h b =
          let first = before rule law o.price y.price x.price b.0 h in (
            not_both rule law o.price y.price first,
            (λ e. absurd (both_ways (rule.ahead o.price o.price) (law.equal o.price) (ap (rule.ahead o.price) e ∙ first))),
          )

  new_first : (x : Standing) → rule.ahead o.price x.price ≡ true → StandsBefore rule o x
  new_first x h = (
    not_both rule law o.price x.price h,
    (λ e. absurd (both_ways (rule.ahead o.price o.price) (law.equal o.price) (ap (rule.ahead o.price) e ∙ h))),
  )

  -- o got its number after all of them
  pub put_pairs : (xs : List Standing) → Each (λ x. x.number < o.number) xs → Pairs (StandsBefore rule) xs → Pairs (StandsBefore rule) (put rule o xs)
  put_pairs [] young h = (tt, tt)
  put_pairs (x ∷ xs) young h =
      cond_both (rule.ahead o.price x.price) (o ∷ x ∷ xs) (x ∷ put rule o xs) (Pairs (StandsBefore rule))
      (λ t. ((new_first x t, before_all x xs t h.0), h))
      (λ f. (each_put (StandsBefore rule x) rule o xs (f, λ _. young.0) h.0, put_pairs xs young.1 h.1))

pub tally_put : (rule : Rule) (n : ℕ) (o : Standing) (xs : List Standing) → tally n (put rule o xs) ≡ cond (eqb o.number n) 1 0 + tally n xs
tally_put rule n o [] = refl
tally_put rule n o (x ∷ xs) =
    let P : Bool → Type 0 = λ b. tally n (cond b (o ∷ x ∷ xs) (x ∷ put rule o xs)) ≡ cond (eqb o.number n) 1 0 + tally n (x ∷ xs) in
    elim (rule.ahead o.price x.price) as P [ true ↦ refl | false ↦ omega (arith, tally_put rule n o xs) ]

pub amount_put : (rule : Rule) (n : ℕ) (o : Standing) (xs : List Standing) → amount n (put rule o xs) ≡ if_number o.number n o.shares + amount n xs
amount_put rule n o [] = refl
amount_put rule n o (x ∷ xs) =
    let P : Bool → Type 0 = λ b. amount n (cond b (o ∷ x ∷ xs) (x ∷ put rule o xs)) ≡ if_number o.number n o.shares + amount n (x ∷ xs) in
    elim (rule.ahead o.price x.price) as P [ true ↦ refl | false ↦ omega (arith, amount_put rule n o xs) ]

pub put_good : (rule : Rule) → Lawful rule → (k : ℕ) (o : Standing) (xs : List Standing) → o.number ≡ k + 1 → sound o ≡ true → Good rule k xs → Good rule (k + 1) (put rule o xs)
put_good rule law k o xs new is g = (
  put_pairs rule law o xs (each_map (λ x. x.number ≤ k) (λ x. x.number < o.number) (λ x h. omega arith) xs g.2) g.0,
  put_sound rule o xs is g.1,
  each_put (λ x. x.number ≤ k + 1) rule o xs (omega arith) (later_good rule k xs g).2,
)

-- The same of any list with the order in front

pub at_front : (o : Standing) (P : List Standing → Type 0) → ((os : List Standing) → P (o ∷ os)) → (os : List Standing) → front_of os ≡ Some o → P os
at_front o P h [] e = absurd (none-some _ e)
at_front o P h (x ∷ xs) e = subst (λ y. P (y ∷ xs)) (sym (same_Some _ _ e)) (h xs)

-- What a trade does to a list: nothing where neither number stands, and where one of them is in front its shares go

module _ (t : Trade) (os : List Standing) where
  pub untouched : tally t.active os ≡ 0 → tally t.standing os ≡ 0 → after_trade t os ≡ os
  untouched no_active no_standing =
      ap (lowered t.standing t.shares) (lowered_absent t.active t.shares os no_active) ∙ lowered_absent t.standing t.shares os no_standing

module _ (t : Trade) (o : Standing) (some : 0 < t.shares) (within : t.shares ≤ o.shares) (os : List Standing) (front : front_of os ≡ Some o) where
  taken_front : lowered o.number t.shares os ≡ (taken os t.shares).list
  taken_front = at_front o (λ l. lowered o.number t.shares l ≡ (taken l t.shares).list) (λ l. by_number o l t.shares some within) os front

  pub front_tally : (n : ℕ) → tally n (taken os t.shares).list ≤ tally n os
  front_tally n = at_front o (λ l. tally n (taken l t.shares).list ≤ tally n l) (λ l. taken_tally o l t.shares some within n) os front

  pub front_amount : (n : ℕ) → amount n os ≡ amount n (taken os t.shares).list + if_number o.number n t.shares
  front_amount n = at_front o (λ l. amount n l ≡ amount n (taken l t.shares).list + if_number o.number n t.shares) (λ l. taken_amount o l t.shares some within n) os front

  pub front_good : (rule : Rule) (k : ℕ) → Good rule k os → Good rule k (taken os t.shares).list
  front_good rule k = at_front o (λ l. Good rule k l → Good rule k (taken l t.shares).list) (λ l. taken_good rule k o l t.shares some within) os front

  pub front_each : (P : Standing → Type 0) → ((x : Standing) → P x → P (reduced x t.shares)) → Each P os → Each P (taken os t.shares).list
  front_each P keep = at_front o (λ l. Each P l → Each P (taken l t.shares).list) (λ l. taken_each o l t.shares some within P keep) os front

  pub front_stands : 1 ≤ tally o.number os
  front_stands = at_front o (λ l. 1 ≤ tally o.number l) (λ l. tally_front o l) os front

  pub standing_touched : t.standing ≡ o.number → tally t.active os ≡ 0 → after_trade t os ≡ (taken os t.shares).list
  standing_touched is no_active =
      ap (lowered t.standing t.shares) (lowered_absent t.active t.shares os no_active) ∙ ap (λ n. lowered n t.shares os) is ∙ taken_front

  pub active_touched : t.active ≡ o.number → tally t.standing os ≡ 0 → after_trade t os ≡ (taken os t.shares).list
  active_touched is no_standing =
      ap (lowered t.standing t.shares) (ap (λ n. lowered n t.shares os) is ∙ taken_front)
      ∙ lowered_absent t.standing t.shares (taken os t.shares).list (let few = front_tally t.standing in omega arith)
