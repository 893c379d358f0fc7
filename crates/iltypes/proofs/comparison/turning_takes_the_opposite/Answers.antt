use Rattle.iltypes.proofs.Comparisons.{has_outcome, has_opposite_outcome, compares_turned, turned_back}
use Rattle.iltypes.proofs.comparison.turning_takes_the_opposite.Goals as goal

pub returns : goal.returns
returns c = record {
  outcome = has_outcome;
  opposite = has_opposite_outcome;
  compares = compares_turned;
  back = turned_back;
}
