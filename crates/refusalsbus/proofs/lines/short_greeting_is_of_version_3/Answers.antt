use Rattle.std.proofs.Common.{◌≡◌, true}
use Rattle.liveline.specs.Greetings.{GreetedLine, IsGreeted, ends}
use Rattle.refusalsbus.proofs.Logs.{if_ok}
use Rattle.refusalsbus.proofs.ShortTexts.{announces_alone}
use Rattle.refusalsbus.proofs.lines.short_greeting_is_of_version_3.Goals as goal

pub returns : goal.returns
returns g c =
    let old = ends (g.R.Read.remaining c.args.from) (g.W.Write.contents c.args.to) in
    if_ok (IsGreeted 7 old) (λ (greeted : GreetedLine). greeted.announces ≡ true) c.greet.result c.greet.ensures
    (λ greeted is. announces_alone c.args.text.now old greeted c.requires.text c.requires.short is)
