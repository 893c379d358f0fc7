use Rattle.iltext.proofs.Shallow.{are_shallow}
use Rattle.iltext.proofs.FunctionParts.{are_inputs, are_own}
use Rattle.iltext.proofs.Sorted.{are_sorted}
use Rattle.iltext.proofs.functions.function.Goals as goal

pub new-function-requires : goal.new-function-requires
new-function-requires c = record {
  inputs = are_inputs _ _ _ c.in_ok-inputs.ensures;
  variables = are_own _ _ _ c.in_ok-variables.ensures;
  shallow = are_shallow _ _ _ c.in_ok-lines.ensures;
  sorted = are_sorted _ _ _ c.in_ok-lines.ensures;
}
