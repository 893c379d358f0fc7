use Rattle.std.proofs.Common.{◌∙◌}
use Rattle.liveline.specs.Greetings.{ends}
use Rattle.refusalsbus.proofs.ShortTexts.{no_late_greeting}
use Rattle.refusalsbus.proofs.lines.late_answer_is_no_greeting.Goals as goal

pub returns : goal.returns
returns g c =
    c.is_ok.ensures.value
    ∙ no_late_greeting c.greet.result (ends (g.R.Read.remaining c.args.from) (g.W.Write.contents c.args.to)) c.requires
    c.greet.ensures
