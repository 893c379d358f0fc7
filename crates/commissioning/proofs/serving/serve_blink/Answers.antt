use Rattle.commissioning.proofs.Showing.{has_blinked}
use Rattle.commissioning.proofs.serving.serve_blink.Goals as goal

pub returns : goal.returns
returns g c =
    record {
      result = c.blink-shown.result;
      has = has_blinked c.args.address c.blink-shown.result (g.B.Bus.log c.args.bus.now)
          (g.B.Bus.log c.blink-shown.new.bus) c.blink-shown.ensures.shown c.blink-shown.ensures.fault;
      told = c.write_shown.ensures;
    }
