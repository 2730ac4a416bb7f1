-- The candidate is the front order of the book that it names, and a trade with it takes an order out or fills the entry.
use Rattle.std.proofs.Common.{◌≡◌, ℕ, ◌+◌, ◌-◌, ◌<◌, ◌≤◌, min, Bool, true, false, cond, ◌&&◌, eqb, leb, List, [], ◌∷◌, length, Some, None, Ok, Option, refl, ap, ◌∙◌, subst, add-one, arith, eq-eqb}
use Rattle.std.proofs.lemmas.Option.{none-some, same_Some}
use borrow.Author.Tests.{eqb-false}
use Rattle.std.proofs.lemmas.Bool.Decides.{nat_tests}
use Rattle.books.specs.Lists.{taken, less, reduced, unless, AllSound, sound, front_of}
use Rattle.books.specs.declared.standing.Standing.{Standing}
use Rattle.rules.specs.Refusals.{check}
use Rattle.rules.specs.Sides.{Rule}
use Rattle.rules.specs.declared.refusal.Refusal.TheVariants.{BadTake}
use Rattle.matching.specs.Matching.{front_if, front_price, best_against, displayed_passes, dark_passes, displayed_candidate, dark_candidate, chosen, candidate, Scene, order_in, is_dark}
use Rattle.matching.specs.declared.candidate.Around.{Around}
use Rattle.matching.specs.declared.candidate.Candidate.{Candidate}
use Rattle.matching.specs.declared.candidate.Candidate.TheVariants.{Displayed, Dark}
use Rattle.matching.specs.declared.candidate.Entry.{Entry}

-- the book that a candidate names has it in front
abbrev pub InFront : Candidate → (displayed dark : List Standing) → Type 0
InFront c displayed dark = front_of (cond (is_dark c) dark displayed) ≡ Some (order_in c)

front_if_front : (passes : ℕ → Bool) (orders : List Standing) (o : Standing) → front_if passes orders ≡ Some o → front_of orders ≡ Some o
front_if_front passes [] o h = h
front_if_front passes (x ∷ xs) o h =
    let P : Bool → Type 0 = λ b. cond b (Some x) None ≡ Some o → Some x ≡ Some o in
    elim (passes x.price) as P [ true ↦ λ e. e | false ↦ λ e. absurd (none-some _ e) ] h

chosen_front : (rule : Rule) (d k : Option Standing) (displayed dark : List Standing) (c : Candidate) → ((o : Standing) → d ≡ Some o → front_of displayed ≡ Some o) → ((o : Standing) → k ≡ Some o → front_of dark ≡ Some o) → chosen rule d k ≡ Some c → InFront c displayed dark
chosen_front rule None None displayed dark c hd hk e = absurd (none-some _ e)
chosen_front rule (Some d) None displayed dark c hd hk e = subst (λ x. InFront x displayed dark) (same_Some _ _ e) (hd d refl)
chosen_front rule None (Some k) displayed dark c hd hk e = subst (λ x. InFront x displayed dark) (same_Some _ _ e) (hk k refl)
chosen_front rule (Some d) (Some k) displayed dark c hd hk e =
    let P : Bool → Type 0 = λ b. InFront (cond b (Dark k) (Displayed d)) displayed dark in
    subst (λ x. InFront x displayed dark) (same_Some _ _ e)
    (elim (rule.ahead k.price d.price) as P [ true ↦ hk k refl | false ↦ hd d refl ])

open_some : {X : Type 0} (b : Bool) (x : Option X) (y : X) → cond b None x ≡ Some y → (b ≡ false) × (x ≡ Some y)
open_some true x y e = absurd (none-some _ e)
open_some false x y e = (refl, e)

module _ (rule : Rule) (entry : Entry) (around : Around) (scene : Scene) (c : Candidate) (is : candidate rule entry around scene ≡ Some c) where
  pub opens : (eqb scene.shares 0 ≡ false) × (chosen rule (displayed_candidate rule entry around scene.displayed) (dark_candidate rule entry around (front_price scene.displayed) scene.dark) ≡ Some c)
  opens = open_some (eqb scene.shares 0) _ c is

  pub shares_open : 0 < scene.shares
  shares_open = let some = eqb-false scene.shares 0 opens.0 in omega arith

  pub candidate_front : InFront c scene.displayed scene.dark
  candidate_front =
      chosen_front rule (displayed_candidate rule entry around scene.displayed)
      (dark_candidate rule entry around (front_price scene.displayed) scene.dark) scene.displayed scene.dark c
      (front_if_front (displayed_passes rule entry around) scene.displayed)
      (front_if_front (dark_passes rule entry around (best_against rule around (front_price scene.displayed))) scene.dark)
      opens.1

pub sound_shares : (o : Standing) → sound o ≡ true → 0 < o.shares
sound_shares o is = grind (arith, nat_tests)

-- q shares of the front order
module _ (o : Standing) (os : List Standing) (q : ℕ) (some : 0 < q) (within : q ≤ o.shares) where
  pub taken_is : (taken (o ∷ os) q).list ≡ less (o ∷ os) q
  taken_is = let accepted : (leb 1 q && leb q o.shares) ≡ true = grind (arith, nat_tests) in rw accepted

  pub taken_all : q ≡ o.shares → (taken (o ∷ os) q).list ≡ os
  taken_all all = let same : eqb q o.shares ≡ true = eq-eqb q o.shares all in taken_is ∙ rw same

  pub taken_least : length (taken (o ∷ os) q).list ≤ length (o ∷ os)
  taken_least =
      let P : Bool → Type 0 = λ b. length (cond b os (reduced o q ∷ os)) ≤ length (o ∷ os) in
      rw taken_is (elim (eqb q o.shares) as P [ true ↦ omega arith | false ↦ omega arith ])

-- where the entry is not filled, the order goes
pub one_fewer : (orders : List Standing) (o : Standing) (n : ℕ) → front_of orders ≡ Some o → AllSound orders → 0 < n → 0 < n - min o.shares n → length (taken orders (min o.shares n)).list + 1 ≡ length orders
one_fewer [] o n front sounds some more = absurd (none-some _ front)
one_fewer (x ∷ xs) o n front sounds some more =
    let P : Standing → Type 0 = λ y. 0 < n - min y.shares n → length (taken (x ∷ xs) (min y.shares n)).list + 1 ≡ length (x ∷ xs) in
    let shares = sound_shares x sounds.0 in
    subst P (same_Some _ _ front)
    (λ h. ap (λ ys. length ys + 1) (taken_all x xs (min x.shares n) (omega arith) (omega arith) (omega arith)) ∙ add-one (length xs))
    more

pub some_stand : (orders : List Standing) (o : Standing) → front_of orders ≡ Some o → 0 < length orders
some_stand [] o front = absurd (none-some _ front)
some_stand (x ∷ xs) o front = omega arith

pub some_shares : (orders : List Standing) (o : Standing) → front_of orders ≡ Some o → AllSound orders → 0 < o.shares
some_shares [] o front sounds = absurd (none-some _ front)
some_shares (x ∷ xs) o front sounds = subst (λ y. 0 < y.shares) (same_Some _ _ front) (sound_shares x sounds.0)

-- whatever is taken from a list, it is no longer, and its orders stay sound
pub taken_shorter : (orders : List Standing) (q : ℕ) → length (taken orders q).list ≤ length orders
taken_shorter [] q = omega arith
taken_shorter (o ∷ os) q =
    let P : Bool → Type 0 = λ b. length (unless (check b BadTake None) (o ∷ os) record { answer = Ok (tt {0}); list = less (o ∷ os) q }).list ≤ length (o ∷ os) in
    let R : Bool → Type 0 = λ b. length (cond b os (reduced o q ∷ os)) ≤ length (o ∷ os) in
    elim (leb 1 q && leb q o.shares) as P [
      | true ↦ elim (eqb q o.shares) as R [ true ↦ omega arith | false ↦ omega arith ]
      | false ↦ omega arith
    ]

reduced_sound : (o : Standing) (q : ℕ) → sound o ≡ true → (leb 1 q && leb q o.shares) ≡ true → eqb q o.shares ≡ false → sound (reduced o q) ≡ true
reduced_sound o q is some other = grind (arith, nat_tests)

pub taken_sound : (orders : List Standing) (q : ℕ) → AllSound orders → AllSound (taken orders q).list
taken_sound [] q sounds = sounds
taken_sound (o ∷ os) q sounds =
    let P : Bool → Type 0 = λ b. (leb 1 q && leb q o.shares) ≡ b → AllSound (unless (check b BadTake None) (o ∷ os) record { answer = Ok (tt {0}); list = less (o ∷ os) q }).list in
    let R : Bool → Type 0 = λ b. (leb 1 q && leb q o.shares) ≡ true → eqb q o.shares ≡ b → AllSound (cond b os (reduced o q ∷ os)) in
    elim (leb 1 q && leb q o.shares) as P [
      | true ↦ λ some. elim (eqb q o.shares) as R [ true ↦ λ _ _. sounds.1 | false ↦ λ t f. (reduced_sound o q sounds.0 t f, sounds.1) ] some refl
      | false ↦ λ _. sounds
    ] refl
