use Rattle.ilmachine.specs.Images.{Global}
use Rattle.refusalscode.proofs.images.variable_that_is_only_read_stays.Goals as goal

pub returns : goal.returns
returns c = c.commit.ensures.kept (Global 4) c.requires.read
