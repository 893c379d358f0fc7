use Rattle.commissioning.proofs.Telling.{ends_alone, ends_as_json, ends_compared}
use Rattle.commissioning.proofs.serving.write_survey.Goals as goal

pub returns-then-form : goal.returns-then-form
returns-then-form g c =
    ends_as_json g.W.Write.contents c.args.form c.args.probed.now c.write_found.new.to c.write_found.result
    c.if-form.true

pub returns-in-Some : goal.returns-in-Some
returns-in-Some g c =
    ends_compared g.W.Write.contents c.args.form c.args.probed.now c.in-Some.declared c.write_unaddressed.new.to
    c.write_differences.new.to c.write_differences.result c.if-form.false c.in-Some.is c.write_differences.ensures

pub returns-in-None : goal.returns-in-None
returns-in-None g c =
    ends_alone g.W.Write.contents c.args.form c.args.probed.now c.write_unaddressed.new.to c.if-form.false c.in-None.is
