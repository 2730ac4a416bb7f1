use Rattle.std.proofs.Common.{◌≡◌, ◌^◌, ◌<◌, drop}
use Rattle.text.specs.Fields.{digits_after}
use Rattle.text.proofs.fields.read_number.Given as goal

abbrev pub invariant-loop-b : goal.invariant-loop-b
invariant-loop-b l =
    (digits_after 0 l.field ≡ digits_after l.n (drop l.b-index l.field)) × (l.n < 10 ^ l.b-index)
