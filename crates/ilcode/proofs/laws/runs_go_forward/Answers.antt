use Rattle.ilcode.proofs.Runs.{run_within, closed_at_end}
use Rattle.ilcode.proofs.laws.runs_go_forward.Goals as goal

pub returns : goal.returns
returns c = record {
  within = λ code from steps d lawful run. (run_within code lawful from steps d run.is).stands;
  closed = λ code from steps d run end. closed_at_end code from steps d run.is end;
}
