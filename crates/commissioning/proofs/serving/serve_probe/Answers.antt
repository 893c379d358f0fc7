use Rattle.commissioning.proofs.Finding.{has_probed}
use Rattle.commissioning.proofs.serving.serve_probe.Goals as goal

pub returns : goal.returns
returns g c =
    record {
      result = c.probe-probed.result;
      has = (
        has_probed c.probe-probed.result (g.B.Bus.log c.args.bus.now) (g.B.Bus.log c.probe-probed.new.bus)
            c.probe-probed.ensures.probed c.probe-probed.ensures.fault,
        c.write_probed.ensures.printed,
      );
      told = c.write_probed.ensures.served;
    }
