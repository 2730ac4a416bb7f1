-- Both sides by one argument: what the rule of a side gives, and four books as an order of one side sees them.
use Rattle.std.proofs.Common.{◌≡◌, ℕ, ◌≤◌, Bool, true, false, Option, refl, arith}
use Rattle.std.proofs.lemmas.Bool.Decides.{nat_tests}
use Rattle.matching.specs.Sets.{met_rule, own_rule, own_list, seen_from, facing}
use Rattle.matching.specs.Looking.{Books}
use Rattle.matching.specs.Placing.{View}
use Rattle.matching.specs.declared.trade.Trade.{Trade}
use Rattle.rules.specs.Better.{on, placed, first_of, best_of}
use Rattle.rules.specs.Sides.{Rule, Lawful, bids, asks}
use Rattle.rules.specs.declared.price.Quote.{Quote}
use Rattle.rules.specs.declared.terms.SideName.{SideName}
use Rattle.rules.specs.declared.terms.SideName.TheVariants.{Bid, Ask}
use Rattle.runs.proofs.Judging.{Judged}
use Rattle.runs.specs.Tapes.{after_trade, trade_made}

pub lawful_bids : Lawful bids
lawful_bids = record {
  different = λ p q ne. grind (arith, nat_tests);
  equal = λ p. grind (arith, nat_tests);
  carries = λ p q r h k. grind (arith, nat_tests);
  improving = λ p best by some h. grind (arith, nat_tests);
  edged = λ p best by some. grind (arith, nat_tests);
}

pub lawful_asks : Lawful asks
lawful_asks = record {
  different = λ p q ne. grind (arith, nat_tests);
  equal = λ p. grind (arith, nat_tests);
  carries = λ p q r h k. grind (arith, nat_tests);
  improving = λ p best by some h. grind (arith, nat_tests);
  edged = λ p best by some. grind (arith, nat_tests);
}

pub met_lawful : (side : SideName) → Lawful (met_rule side)
met_lawful Bid = lawful_asks
met_lawful Ask = lawful_bids

pub own_lawful : (side : SideName) → Lawful (own_rule side)
own_lawful Bid = lawful_bids
own_lawful Ask = lawful_asks

abbrev pub BestIs : Rule → Type 0
BestIs rule = (front behind : Option ℕ) (away : Quote) → on rule.name (best_of (placed rule.name front behind) away) ≡ first_of rule front (on rule.name away)

pub best_is : (side : SideName) → BestIs (met_rule side)
best_is Bid front behind away = refl
best_is Ask front behind away = refl

abbrev pub opposite : SideName → SideName
opposite Bid = Ask
opposite Ask = Bid

abbrev pub view_made : Trade → View → View
view_made t v = record {
  displayed = after_trade t v.displayed;
  dark = after_trade t v.dark;
  own = after_trade t v.own;
  own_dark = after_trade t v.own_dark;
}

pub seen_made : (side : SideName) (t : Trade) (v : View) → trade_made t (seen_from side v) ≡ seen_from side (view_made t v)
seen_made Bid t v = refl
seen_made Ask t v = refl

pub seen_facing : (side : SideName) (b : Books) → seen_from side (facing side b) ≡ b
seen_facing Bid b = refl
seen_facing Ask b = refl

-- what is judged of a trade in four books, for an active order that was large or not
abbrev pub JudgedIn : (increment : ℕ) → (away : Quote) → (large : Bool) → Books → Trade → Type 0
JudgedIn increment away large b t =
    (standing : SideName) × Judged (own_rule standing) increment away large (own_list standing true b) (own_list standing false b) (own_list (opposite standing) true b) t

pub seen_judged : (side : SideName) (increment : ℕ) (away : Quote) (large : Bool) (v : View) (t : Trade) → Judged (met_rule side) increment away large v.displayed v.dark v.own t → JudgedIn increment away large (seen_from side v) t
seen_judged Bid increment away large v t j = (Ask, j)
seen_judged Ask increment away large v t j = (Bid, j)

-- the active order is an entry that has that number
abbrev pub MatchedIn : (increment : ℕ) → (away : Quote) → (large : Bool) → (number : ℕ) → Books → Trade → Type 0
MatchedIn increment away large number b t = JudgedIn increment away large b t × (t.active ≡ number)

-- the active order is one of those that stand
abbrev pub PairedIn : (increment : ℕ) → (away : Quote) → (issued : ℕ) → Books → Trade → Type 0
PairedIn increment away issued b t = JudgedIn increment away false b t × (1 ≤ t.active) × (t.active ≤ issued)
