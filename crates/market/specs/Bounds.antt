-- A call makes at most as many trades as orders stood before it, so a list of that many records is enough.
use Rattle.std.specs.Prelude.{ℕ, ◌≤◌, List, length, Option}
use Rattle.books.specs.Lists.{AllSound}
use Rattle.market.specs.Calls.{State, entered, cancelled, noticed, put_aside, resumed}
use Rattle.matching.specs.Looking.{Books, standing_in}
use Rattle.matching.specs.declared.trade.Trade.{Trade}
use Rattle.rules.specs.declared.form.Form.{Form}
use Rattle.rules.specs.declared.terms.SideName.{SideName}

-- every order has a number, a price and shares, as in every book
abbrev pub SoundBooks : Books → Type 0
SoundBooks b = AllSound b.bids × AllSound b.asks × AllSound b.dark_bids × AllSound b.dark_asks

abbrev pub Fits : State → List Trade → Type 0
Fits s trades = length trades ≤ standing_in s.books

pub record TradesFit (s : State) : Type 0 where
  pub entry : (form : Form) (n : ℕ) → Fits s (entered s form n).trades
  pub cancel : (number n : ℕ) → Fits s (cancelled s number n).trades
  pub notice : (m : ℕ) (side : SideName) (price : Option ℕ) (n : ℕ) → Fits s (noticed s m side price n).trades
  pub set_aside : (m n : ℕ) → Fits s (put_aside s m n).trades
  pub resumption : (n : ℕ) → Fits s (resumed s n).trades
