use Rattle.commissioning.proofs.Breaking.{has_asked, not_starved}
use Rattle.commissioning.proofs.serving.serve_ask.Goals as goal

pub returns-clause-served : goal.returns-clause-served
returns-clause-served g c =
    record {
      result = c.ask-asked.result;
      has = has_asked c.args.command c.ask-asked.result (g.B.Bus.log c.args.bus.now) (g.B.Bus.log c.ask-asked.new.bus)
          c.ask-asked.ensures.asked;
      told = c.write_asked.ensures;
    }

pub returns-clause-enough : goal.returns-clause-enough
returns-clause-enough g c =
    λ room. not_starved c.ask-asked.result c.write_asked.result c.write_asked.ensures (c.ask-asked.ensures.enough room)
