-- What a change answers and leaves, from what its checks said.
use Rattle.std.proofs.Common.{◌≡◌, ℕ, ◌<◌, ◌≤◌, Bool, true, false, not, ◌&&◌, ltb, leb, List, [], ◌∷◌, length, Some, None, Ok, Err, refl, ap, ◌∙◌, arith}
use Rattle.std.proofs.lemmas.Bool.{and_parts, not-true, ltb-true}
use Rattle.std.proofs.lemmas.Bool.Decides.{nat_tests}
use Rattle.rules.proofs.Answering.{accepted}
use Rattle.rules.specs.Refusals.{check, passed, Answers}
use Rattle.rules.specs.Sides.{Rule}
use Rattle.rules.specs.declared.refusal.Refusal.{Refusal}
use Rattle.rules.specs.declared.refusal.Refusal.TheVariants.{BadOrder, BookFull, BadTake, NotStanding}
use Rattle.books.specs.Lists.{unless, front_of, find, stands, sound, put, add_refusal, added, less, take_refusal, taken, without, removed, removed_found}
use Rattle.books.specs.declared.standing.Standing.{Standing}

module _ (rule : Rule) (places : ℕ) (orders : List Standing) (o : Standing) where
  if_refused : (fit room : Bool) → (sound o && not (stands o.number orders)) ≡ fit → ltb (length orders) places ≡ room →
      added rule places orders o ≡
      unless (check fit BadOrder (check room BookFull None)) orders record { answer = Ok tt; list = put rule o orders }
  if_refused fit room e f =
      ap (λ b. unless (check b BadOrder (check (ltb (length orders) places) BookFull None)) orders record { answer = Ok tt; list = put rule o orders }) e ∙
      ap (λ b. unless (check fit BadOrder (check b BookFull None)) orders record { answer = Ok tt; list = put rule o orders }) f

  pub added_unfit : (sound o && not (stands o.number orders)) ≡ false →
      added rule places orders o ≡ record { answer = Err BadOrder; list = orders }
  added_unfit e = if_refused false (ltb (length orders) places) e refl

  pub added_full : (sound o && not (stands o.number orders)) ≡ true → ltb (length orders) places ≡ false →
      added rule places orders o ≡ record { answer = Err BookFull; list = orders }
  added_full = if_refused true false

  pub added_fit : (sound o && not (stands o.number orders)) ≡ true → ltb (length orders) places ≡ true →
      added rule places orders o ≡ record { answer = Ok tt; list = put rule o orders }
  added_fit = if_refused true true

-- What holds once a check has passed

two_passed : (a b : Bool) (d e : Refusal) (x : Unit {0}) → Ok x ≡ passed (check a d (check b e None)) → (a ≡ true) × (b ≡ true)
two_passed true true d e x h = (refl, refl)
two_passed true false d e x h = cc
two_passed false b d e x h = cc

pub record Fits (places : ℕ) (orders : List Standing) (o : Standing) : Type 0 where
  pub good : sound o ≡ true
  pub new : stands o.number orders ≡ false
  pub room : length orders < places
  pub list : (rule : Rule) → (added rule places orders o).list ≡ put rule o orders

pub fits : (places : ℕ) (orders : List Standing) (o : Standing) (x : Unit {0}) → Ok x ≡ passed (add_refusal places orders o) → Fits places orders o
fits places orders o x h =
    let both = two_passed (sound o && not (stands o.number orders)) (ltb (length orders) places) BadOrder BookFull x h in
    let fit = and_parts (sound o) (not (stands o.number orders)) both.0 in
    record {
      good = fit.0;
      new = not-true (stands o.number orders) fit.1;
      room = ltb-true (length orders) places both.1;
      list = λ rule. ap (λ r. r.list) (added_fit rule places orders o both.0 both.1);
    }

pub record Takes (orders : List Standing) (n : ℕ) (y : Standing) : Type 0 where
  pub front : front_of orders ≡ Some y
  pub some : 1 ≤ n
  pub most : n ≤ y.shares
  pub list : (taken orders n).list ≡ less orders n

pub takes_front : (orders : List Standing) (n : ℕ) (y : Standing) → front_of orders ≡ Some y → (leb 1 n && leb n y.shares) ≡ true → Takes orders n y
takes_front [] n y f e = let z : ◌≡◌ {A = ℕ} 0 1 = cc in absurd (omega arith)
takes_front (x ∷ xs) n y f e =
    let q : x ≡ y = cc in
    let s : x.shares ≡ y.shares = ap (λ o. o.shares) q in
    let a : (leb 1 n && leb n x.shares) ≡ true = ap (λ k. leb 1 n && leb n k) s ∙ e in
    record {
      front = f;
      some = grind (arith, nat_tests);
      most = grind (arith, nat_tests);
      list = ap (λ b. (unless (check b BadTake None) (x ∷ xs) record { answer = Ok tt; list = less (x ∷ xs) n }).list) a;
    }

pub takes : (orders : List Standing) (n : ℕ) (y : Standing) → Answers (take_refusal orders n) (λ order. front_of orders ≡ Some order) (λ refusal error. error ≡ refusal) (Ok y) → Takes orders n y
takes [] n y h = absurd h
takes (x ∷ xs) n y h =
    let a = accepted (λ order. Some x ≡ Some order) (λ (refusal error : Refusal). error ≡ refusal) (take_refusal (x ∷ xs) n) y h in
    let q : x ≡ y = cc in
    let s : x.shares ≡ y.shares = ap (λ o. o.shares) q in
    record {
      front = a.1;
      some = grind (arith, nat_tests);
      most = grind (arith, nat_tests);
      list = ap (λ r. (unless r (x ∷ xs) record { answer = Ok tt; list = less (x ∷ xs) n }).list) a.0;
    }

pub removed_none : (orders : List Standing) (n : ℕ) → find n orders ≡ None → removed n orders ≡ record { answer = Err NotStanding; list = orders }
removed_none orders n f = ap (λ r. removed_found r n orders) f

pub removed_is : (orders : List Standing) (y : Standing) (n : ℕ) → find n orders ≡ Some y →
    removed n orders ≡ record { answer = Ok y.shares; list = without n orders }
removed_is orders y n f = ap (λ r. removed_found r n orders) f
