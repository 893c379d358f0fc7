use Rattle.ilcode.proofs.RunPaths.{safe_ends, one_end}
use Rattle.ilcode.proofs.laws.safe_runs_end_once.Goals as goal

pub returns : goal.returns
returns c = record {
  ends = λ code bound from safe b a. let h = safe_ends code bound safe b from a in (h.steps, h.to, h.ends);
  once = one_end;
}
