use Rattle.std.proofs.Common.{◌≤◌, length}
use Rattle.limits.specs.Limits.{most_bytes}
use Rattle.iltext.proofs.Sources.{short_of, is_found, is_only, is_fault, is_one, is_one_fault, is_no_fault}
use Rattle.iltext.proofs.parser.parse.Goals as goal

pub parse_tokens-requires-clause-short : goal.parse_tokens-requires-clause-short
parse_tokens-requires-clause-short c =
    short_of c.is_too_long.result most_bytes (length c.args.text.now) c.is_too_long.ensures c.if-is_too_long.false

pub returns-in-Ok-clause-found : goal.returns-in-Ok-clause-found
returns-in-Ok-clause-found c =
    let short : length c.args.text.now ≤ most_bytes = short_of c.is_too_long.result most_bytes
    (length c.args.text.now) c.is_too_long.ensures c.if-is_too_long.false in
    is_found c.args.text.now c.deref.result.now c.parse_tokens.result short
    (rw c.deref.ensures.value c.in-Ok.ensures.cut) c.parse_tokens.ensures

pub returns-in-Ok-clause-only : goal.returns-in-Ok-clause-only
returns-in-Ok-clause-only c =
    is_only c.args.text.now c.deref.result.now c.parse_tokens.result
    (rw c.deref.ensures.value c.in-Ok.ensures.cut) c.parse_tokens.ensures

pub returns-in-Ok-clause-fault : goal.returns-in-Ok-clause-fault
returns-in-Ok-clause-fault c =
    let short : length c.args.text.now ≤ most_bytes = short_of c.is_too_long.result most_bytes
    (length c.args.text.now) c.is_too_long.ensures c.if-is_too_long.false in
    is_fault c.args.text.now c.deref.result.now c.parse_tokens.result short
    (rw c.deref.ensures.value c.in-Ok.ensures.cut) c.parse_tokens.ensures

pub returns-in-Ok-clause-one : goal.returns-in-Ok-clause-one
returns-in-Ok-clause-one c = is_one c.args.text.now

pub returns-in-Err-clause-one : goal.returns-in-Err-clause-one
returns-in-Err-clause-one c = is_one c.args.text.now

pub returns-in-Ok-clause-one_fault : goal.returns-in-Ok-clause-one_fault
returns-in-Ok-clause-one_fault c = is_one_fault c.args.text.now

pub returns-in-Err-clause-one_fault : goal.returns-in-Err-clause-one_fault
returns-in-Err-clause-one_fault c = is_one_fault c.args.text.now

pub returns-in-Ok-clause-apart : goal.returns-in-Ok-clause-apart
returns-in-Ok-clause-apart c = is_no_fault c.args.text.now

pub returns-in-Err-clause-apart : goal.returns-in-Err-clause-apart
returns-in-Err-clause-apart c = is_no_fault c.args.text.now
