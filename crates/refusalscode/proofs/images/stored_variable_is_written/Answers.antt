use Rattle.ilmachine.specs.Images.{Global}
use Rattle.refusalscode.proofs.images.stored_variable_is_written.Goals as goal

pub returns : goal.returns
returns c = c.commit.ensures.written 0 (Global 4) c.requires.stored
