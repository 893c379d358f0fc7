use Rattle.ilverify.proofs.OrderOperators.{order, refusals}
use Rattle.ilverify.proofs.OrderFunctions as functions
use Rattle.ilverify.proofs.OrderRefusals.{keeps_refusals}
use Rattle.ilverify.proofs.OrderWays.{keeps_order}
use Rattle.ilverify.proofs.order.more_known_before_is_more_known_after.Goals as goal

pub returns-clause-order : goal.returns-clause-order
returns-clause-order c = order

pub returns-clause-refusals : goal.returns-clause-refusals
returns-clause-refusals c = refusals

pub returns-clause-function_order : goal.returns-clause-function_order
returns-clause-function_order c = functions.order

pub returns-clause-function_refusals : goal.returns-clause-function_refusals
returns-clause-function_refusals c = functions.refusals

pub returns-clause-word_order : goal.returns-clause-word_order
returns-clause-word_order c = keeps_order

pub returns-clause-word_refusals : goal.returns-clause-word_refusals
returns-clause-word_refusals c = keeps_refusals
