-- None is missing: matching ends where no candidate is left, and looking over where no pair is.
use Rattle.std.specs.Prelude.{◌≡◌, ℕ, None}
use Rattle.books.specs.Lists.{AllSound}
use Rattle.market.specs.Bounds.{SoundBooks}
use Rattle.matching.specs.Looking.{Books, pair_in, looked}
use Rattle.matching.specs.Matching.{Scene, candidate, matched}
use Rattle.matching.specs.declared.candidate.Around.{Around}
use Rattle.matching.specs.declared.candidate.Entry.{Entry}
use Rattle.rules.specs.Sides.{Rule}
use Rattle.rules.specs.declared.price.Quote.{Quote}

-- over any lists of sound orders, as every book's are, crossed ones too
pub record NoneMissing : Type 0 where
  pub candidates : (rule : Rule) (entry : Entry) (around : Around) (scene : Scene) → AllSound scene.displayed → AllSound scene.dark → candidate rule entry around (matched rule entry around scene).state ≡ None
  pub pairs : (increment : ℕ) (away : Quote) (books : Books) → SoundBooks books → pair_in increment away (looked increment away books).state ≡ None
