use Rattle.runs.proofs.Looking.{no_pair_left}
use Rattle.runs.proofs.Meeting.{no_candidate_left}
use Rattle.runs.proofs.law.none_is_missing.Goals as goal

pub returns : goal.returns
returns c = record {
  candidates = λ rule entry around scene displayed dark. no_candidate_left rule entry around scene (displayed, dark);
  pairs = no_pair_left;
}
