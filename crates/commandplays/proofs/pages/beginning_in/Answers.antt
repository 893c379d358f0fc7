use Rattle.commandplays.proofs.PlaysOut.{setup_begun}
use Rattle.commandplays.proofs.pages.beginning_in.Goals as goal

pub returns-clause-setup : goal.returns-clause-setup
returns-clause-setup c = setup_begun c.args.pages.now c.in_ok-begun.begun c.in_ok-begun.ensures.begun
