use Rattle.commissioning.proofs.Telling.{ends_told, ends_unprobed}
use Rattle.commissioning.proofs.serving.write_probed.Goals as goal

pub returns-in_ok-write_failure-in-Err-clause-printed : goal.returns-in_ok-write_failure-in-Err-clause-printed
returns-in_ok-write_failure-in-Err-clause-printed g c =
    ends_unprobed g.W.Write.contents c.args.form c.args.probed.now c.in-Err.fault c.write_failure.new.to c.in-Err.is

pub returns-in-Err-2-clause-printed : goal.returns-in-Err-2-clause-printed
returns-in-Err-2-clause-printed g c =
    ends_told g.W.Write.contents c.args.form c.args.probed.now c.in-Err-2.fault c.write_fault.new.to
    c.write_fault.result c.in-Err-2.is
