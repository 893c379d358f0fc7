use Rattle.iltext.proofs.Sources.{in_place, rest_shorter}
use Rattle.iltext.proofs.parser.parse_tokens.Goals as goal

pub fault_at-requires : goal.fault_at-requires
fault_at-requires c =
    let left = rw c.in-Err-Fault.field-0-is at c.in-Err-Fault.ensures in
    rw c.in-Err-Fault.field-0-is (in_place c.args.text.now c.args.ts.now c.in-Err-Fault.rest.now c.requires.places left)

pub overflow_sub-ts : goal.overflow_sub-ts
overflow_sub-ts c =
    let left = rw c.in-Err-Fault.field-0-is at c.in-Err-Fault.ensures in
    rw c.in-Err-Fault.field-0-is (rest_shorter c.args.ts.now c.in-Err-Fault.rest.now left)
