use Rattle.std.proofs.Common.{◌≡◌, Err, rules}
use Rattle.livekeep.specs.Faults.{of_line}
use Rattle.livekeep.proofs.ReadFiles.{judged_file, judged_result, line_fault, read_as_one, some_if}
use Rattle.livekeep.proofs.kept.Kept.parse.Goals as goal

pub returns-in_err-read-clause-fault : goal.returns-in_err-read-clause-fault
returns-in_err-read-clause-fault c =
    let bytes = c.args.bytes.now in
    let fault = c.in_err-read.field-0.0 in
    let read : c.read_lines.result ≡ Err fault = cc in
    let own : c.from_residual.result ≡ Err (of_line fault) = search rules in
    rw own
    (line_fault bytes c.read_lines.result fault
    (some_if bytes c.is_empty.result c.is_empty.ensures c.if-is_empty.false) read
    (rw c.nothing.ensures at c.read_lines.ensures.report))

pub returns-in_err-read-clause-one : goal.returns-in_err-read-clause-one
returns-in_err-read-clause-one c = read_as_one c.args.bytes.now

pub returns-clause-fault : goal.returns-clause-fault
returns-clause-fault c =
    let bytes = c.args.bytes.now in
    judged_result bytes c.in_ok-read.read c.kept_of.result
    (some_if bytes c.is_empty.result c.is_empty.ensures c.if-is_empty.false)
    (rw c.nothing.ensures at c.in_ok-read.ensures.report) c.kept_of.ensures

pub returns-clause-kept : goal.returns-clause-kept
returns-clause-kept c =
    judged_file c.args.bytes.now c.in_ok-read.read c.kept_of.result
    (rw c.nothing.ensures at c.in_ok-read.ensures.report) c.kept_of.ensures

pub returns-clause-one : goal.returns-clause-one
returns-clause-one c = read_as_one c.args.bytes.now
