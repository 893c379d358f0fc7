use Rattle.std.proofs.Common.{[]}
use Rattle.ilsource.proofs.KeptFunctions.{body_same, functions_same, number_same}
use Rattle.ilsource.proofs.renaming.renaming_keeps_what_functions_give.Goals as goal

pub returns-clause-bodies : goal.returns-clause-bodies
returns-clause-bodies g c =
    λ a b new h same same' body other k vs. body_same a b new h same same' body other k vs

pub returns-clause-functions : goal.returns-clause-functions
returns-clause-functions g c =
    λ meaning meaning' fs gs k. functions_same meaning meaning' fs gs k [] [] tt

pub returns-clause-numbers : goal.returns-clause-numbers
returns-clause-numbers g c = λ known others h number vs. number_same known others h number vs
