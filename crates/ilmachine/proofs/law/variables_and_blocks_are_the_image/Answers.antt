use Rattle.ilmachine.proofs.Equality.{same_image}
use Rattle.ilmachine.proofs.law.variables_and_blocks_are_the_image.Goals as goal

pub returns : goal.returns
returns c = same_image
