-- The phases of a market.
use Rattle.std.specs.Prelude.{Ok, Err, Result}
use Rattle.rules.specs.declared.refusal.Refusal.{Refusal}
use Rattle.rules.specs.declared.refusal.Refusal.TheVariants.{MarketClosed, WrongPhase}
use Rattle.market.specs.declared.phase.Event.{Event}
use Rattle.market.specs.declared.phase.Event.TheVariants.{Halt, Resume, Close}
use Rattle.market.specs.declared.phase.Phase.{Phase}
use Rattle.market.specs.declared.phase.Phase.TheVariants.{Open, Halted, Closed}

-- a halt is taken only when open, a resumption only when halted, a close in either
abbrev pub moved : Phase → Event → Result Phase Refusal
moved Closed event = Err MarketClosed
moved Open Halt = Ok Halted
moved Open Resume = Err WrongPhase
moved Open Close = Ok Closed
moved Halted Halt = Err WrongPhase
moved Halted Resume = Ok Open
moved Halted Close = Ok Closed
