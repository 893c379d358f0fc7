use Rattle.buslink.proofs.AttemptLemmas.{same_report}
use Rattle.buslink.proofs.ReadingLemmas.{report_of_read}
use Rattle.buslink.proofs.reports.Report.of.Goals as goal

pub invariant_of-result : goal.invariant_of-result
invariant_of-result c = record {
  tries = c.requires;
  marks = c.args.marks.now;
  spelled = report_of_read c.args.transaction.now c.copied.result c.args.tries c.args.marks.now
      c.new-attempts.result.items c.read_attempts.new.sent.items c.in_ok-last.last c.of.result
      c.in_ok-last.ensures c.new-attempts.ensures c.copied.ensures c.of.ensures;
}

pub returns-clause-one : goal.returns-clause-one
returns-clause-one c = same_report c.args.transaction.now c.args.tries c.args.marks.now
