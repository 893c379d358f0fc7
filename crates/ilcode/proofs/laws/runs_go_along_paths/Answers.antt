use Rattle.ilcode.proofs.RunPaths.{run_path, few_steps, one_bound}
use Rattle.ilcode.proofs.laws.runs_go_along_paths.Goals as goal

pub returns : goal.returns
returns c = record {
  path = λ code from steps d run. let h = run_path code from steps d run.is in (h.path, h.is, h.long, h.requests);
  moment = λ code from steps d run. (run_path code from steps d run.is).moment;
  few = λ code bound from steps d b run. few_steps code bound b from steps d run.is;
  one = one_bound;
}
