use Rattle.dalievent.proofs.SourceMessages.{message_of, is_message_of, information_is}
use Rattle.dalievent.proofs.laws.messages_solve_their_equation.Goals as goal

pub returns-clause-some : goal.returns-clause-some
returns-clause-some c = message_of

pub returns-clause-all : goal.returns-clause-all
returns-clause-all c = is_message_of

pub returns-clause-information : goal.returns-clause-information
returns-clause-information c = information_is
