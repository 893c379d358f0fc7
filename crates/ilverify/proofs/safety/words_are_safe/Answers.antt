use Rattle.ilverify.proofs.SafetyCalls.{fit_return, keeps_others}
use Rattle.ilverify.proofs.SafetyFits.{fit_start, fit_call, fit_wider, fit_without}
use Rattle.ilverify.proofs.SafetySteps.{safe}
use Rattle.ilverify.proofs.safety.words_are_safe.Goals as goal

pub returns-clause-safe : goal.returns-clause-safe
returns-clause-safe c = safe

pub returns-clause-start : goal.returns-clause-start
returns-clause-start c = fit_start

pub returns-clause-wider : goal.returns-clause-wider
returns-clause-wider c = fit_wider

pub returns-clause-call : goal.returns-clause-call
returns-clause-call c = fit_call

pub returns-clause-back : goal.returns-clause-back
returns-clause-back c = fit_return

pub returns-clause-others : goal.returns-clause-others
returns-clause-others c = keeps_others

pub returns-clause-without : goal.returns-clause-without
returns-clause-without c = fit_without
