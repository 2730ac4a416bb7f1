-- Whether a number is that of a marketplace, and whether the marketplace may give notices.
use Rattle.std.specs.Prelude.{◌≡◌, ℕ, None, Result}
use Rattle.market.specs.Calls.{State, marketplace_checked}
use Rattle.market.specs.Quoting.{is_marketplace}
use Rattle.market.specs.declared.marketplace.Marketplace.{Marketplace}
use Rattle.rules.specs.Refusals.{check, Answers}
use Rattle.rules.specs.declared.refusal.Refusal.{Refusal}
use Rattle.rules.specs.declared.refusal.Refusal.TheVariants.{NoMarketplace}

-- a marketplace of that number, if there is one
abbrev pub Numbered : ℕ → Result Marketplace Refusal → Type 0
Numbered n = Answers (check (is_marketplace n) NoMarketplace None) (λ m. m.number ≡ n) (λ e f. f ≡ e)

-- the marketplace of that number, where the checks of it pass
abbrev pub NumberedFor : State → ℕ → Result Marketplace Refusal → Type 0
NumberedFor s n = Answers (marketplace_checked s n None) (λ m. m.number ≡ n) (λ e f. f ≡ e)
