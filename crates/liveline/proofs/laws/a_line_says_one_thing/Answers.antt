use Rattle.liveline.proofs.OneSaying.{one_message, one_reply}
use Rattle.liveline.proofs.laws.a_line_says_one_thing.Goals as goal

pub returns : goal.returns
returns c = record { reply = one_reply; message = one_message }
