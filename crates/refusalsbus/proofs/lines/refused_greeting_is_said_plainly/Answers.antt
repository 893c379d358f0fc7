use Rattle.std.proofs.Common.{◌≡◌, false}
use Rattle.std.specs.Io.KnownBytes.{Appends}
use Rattle.liveline.specs.Greetings.{GreetedLine, IsGreeted, ends}
use Rattle.refusalsbus.proofs.Logs.{if_ok}
use Rattle.refusalsbus.proofs.ShortTexts.{plain_greetings, said_plainly}
use Rattle.refusalsbus.proofs.lines.refused_greeting_is_said_plainly.Goals as goal

pub returns : goal.returns
returns g c =
    let old = ends (g.R.Read.remaining c.args.from) (g.W.Write.contents c.args.to) in
    if_ok (IsGreeted 7 old)
    (λ (greeted : GreetedLine). greeted.announces ≡ false → Appends old.written greeted.written plain_greetings)
    c.greet.result c.greet.ensures
    (λ greeted is. said_plainly c.args.text.now old greeted c.requires.text c.requires.short is)
