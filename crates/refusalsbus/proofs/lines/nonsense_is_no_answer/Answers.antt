use Rattle.std.proofs.Common.{◌∙◌}
use Rattle.refusalsbus.proofs.ShortTexts.{no_message}
use Rattle.refusalsbus.proofs.lines.nonsense_is_no_answer.Goals as goal

pub returns : goal.returns
returns g c =
    c.is_ok.ensures.value
    ∙ no_message c.hear.result c.args.bus.now c.hear.new.self c.args.text.now c.requires.text c.requires.short
    c.requires.kept c.hear.ensures.asked
