use Rattle.clap.specs.Words.{found_of}
use Rattle.commandline.proofs.Given.{flag_on}
use Rattle.commandline.proofs.checks.is_on.Goals as goal

pub returns : goal.returns
returns c =
    rw c.unwrap_or.ensures
    (flag_on _ (found_of c.args.found.now) c.args.id.now c.get_one.result c.get_one.ensures.none c.get_one.ensures.value)
