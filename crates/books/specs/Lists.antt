-- What a book means: a list of standing orders, first priority first, and what each function makes of it.
use Rattle.std.specs.Prelude.{◌≡◌, ℕ, ◌+◌, ◌-◌, ◌≤◌, Bool, true, cond, not, ◌&&◌, List, [], ◌∷◌, length, is_some, Some, None, Ok, Err, Option, Result, ◌==◌, nat_le, nat_lt}
use Rattle.rules.specs.Prices.{most_shares}
use Rattle.rules.specs.Refusals.{check}
use Rattle.rules.specs.Sides.{Rule}
use Rattle.rules.specs.declared.refusal.Refusal.{Refusal}
use Rattle.rules.specs.declared.refusal.Refusal.TheVariants.{BadOrder, BookFull, BadTake, NotStanding}
use Rattle.books.specs.declared.standing.Standing.{Standing}

abbrev pub most_places : ℕ
most_places = 4096

-- Questions

abbrev pub front_of : List Standing → Option Standing
front_of [] = None
front_of (o ∷ os) = Some o

abbrev pub find : (number : ℕ) → List Standing → Option Standing
find number [] = None
find number (o ∷ os) = cond (o.number == number) (Some o) (find number os)

abbrev pub stands : (number : ℕ) → List Standing → Bool
stands number orders = is_some (find number orders)

abbrev pub shares_at : (price : ℕ) → List Standing → ℕ
shares_at price [] = 0
shares_at price (o ∷ os) = cond (o.price == price) o.shares 0 + shares_at price os

-- Changes: what a call answers, and the list that it leaves

pub record Outcome (X : Type 0) : Type 0 where
  pub answer : Result X Refusal
  pub list : List Standing

-- where a check refuses, the list stays
abbrev pub unless : {X : Type 0} → Option Refusal → List Standing → (accepted : Outcome X) → Outcome X
unless None orders accepted = accepted
unless (Some e) orders accepted = record { answer = Err e; list = orders }

-- number, price and shares are there, and not more shares than an order may have
abbrev pub sound : Standing → Bool
sound o = nat_le 1 o.number && nat_le 1 o.price && nat_le 1 o.shares && nat_le o.shares most_shares

abbrev pub add_refusal : (places : ℕ) → List Standing → Standing → Option Refusal
add_refusal places orders o =
    check (sound o && not (stands o.number orders)) BadOrder (check (nat_lt (length orders) places) BookFull None)

-- behind all orders whose price is equal or comes first, ahead of the others
abbrev pub put : Rule → Standing → List Standing → List Standing
put rule o [] = o ∷ []
put rule o (x ∷ xs) = cond (rule.ahead o.price x.price) (o ∷ x ∷ xs) (x ∷ put rule o xs)

abbrev pub added : Rule → (places : ℕ) → List Standing → Standing → Outcome (Unit {0})
added rule places orders o =
    unless (add_refusal places orders o) orders record { answer = Ok tt; list = put rule o orders }

abbrev pub reduced : Standing → ℕ → Standing
reduced o n = record { number = o.number; price = o.price; shares = o.shares - n }

abbrev pub take_refusal : List Standing → ℕ → Option Refusal
take_refusal [] n = Some BadTake
take_refusal (o ∷ os) n = check (nat_le 1 n && nat_le n o.shares) BadTake None

-- the front order has n shares fewer, and goes where none is left
abbrev pub less : List Standing → ℕ → List Standing
less [] n = []
less (o ∷ os) n = cond (n == o.shares) os (reduced o n ∷ os)

abbrev pub taken : List Standing → ℕ → Outcome (Unit {0})
taken orders n = unless (take_refusal orders n) orders record { answer = Ok tt; list = less orders n }

abbrev pub without : (number : ℕ) → List Standing → List Standing
without number [] = []
without number (o ∷ os) = cond (o.number == number) os (o ∷ without number os)

abbrev pub removed_found : Option Standing → (number : ℕ) → List Standing → Outcome ℕ
removed_found None number orders = record { answer = Err NotStanding; list = orders }
removed_found (Some o) number orders = record { answer = Ok o.shares; list = without number orders }

abbrev pub removed : (number : ℕ) → List Standing → Outcome ℕ
removed number orders = removed_found (find number orders) number orders

-- What code over any book may rely on

abbrev pub AllSound : List Standing → Type 0
AllSound [] = Unit {0}
AllSound (o ∷ os) = (sound o ≡ true) × AllSound os

abbrev pub Kept : (places : ℕ) → List Standing → Type 0
Kept places orders = (places ≤ most_places) × (length orders ≤ places) × AllSound orders
