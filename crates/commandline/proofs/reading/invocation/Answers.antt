use Rattle.std.proofs.Common.{rules, true, inl, inr}
use Rattle.clap.specs.Words.{found_of, rows_of}
use Rattle.commandline.specs.CommandLine.{IsConflicting, IsLacking, WritesOverInput}
use Rattle.commandline.proofs.Named.{fault_is_wrong}
use Rattle.commandline.proofs.reading.invocation.Goals as goal

pub returns-then-is_lacking-clause-refused : goal.returns-then-is_lacking-clause-refused
returns-then-is_lacking-clause-refused c =
    let name = c.args.name.now in
    let found = rows_of (found_of c.args.found.now) in
    let apart : ¬ IsConflicting name found =
    λ two. let bad = c.if-is_conflicting.ensures.1 two in absurd (cc) in
    let lacking : IsLacking name found = c.if-is_lacking.ensures.0 (λ i. true) in
    inr (inr (inl (lacking, apart, c.in_ok-lack.ensures)))

pub returns-then-writes_over_input-clause-refused :
    goal.returns-then-writes_over_input-clause-refused
returns-then-writes_over_input-clause-refused c =
    let name = c.args.name.now in
    let found = rows_of (found_of c.args.found.now) in
    let apart : ¬ IsConflicting name found =
    λ two. let bad = c.if-is_conflicting.ensures.1 two in absurd (cc) in
    let whole : ¬ IsLacking name found =
    λ half. let bad = c.if-is_lacking.ensures.1 half in absurd (cc) in
    let over : WritesOverInput name found = c.if-writes_over_input.ensures.0 (λ i. true) in
    inr (inr (inr (inl over, apart, whole, c.in_ok-overwriting.ensures)))

pub returns-in_err-wrong_word-in-Err-clause-refused : goal.returns-in_err-wrong_word-in-Err-clause-refused
returns-in_err-wrong_word-in-Err-clause-refused c =
    let found = rows_of (found_of c.args.found.now) in
    let wrong = fault_is_wrong c.args.name.now found c.in-Err.fault c.in-Err.ensures in
    search rules

pub returns-in_ok-wrong_word-in-Err-clause-refused : goal.returns-in_ok-wrong_word-in-Err-clause-refused
returns-in_ok-wrong_word-in-Err-clause-refused c =
    let name = c.args.name.now in
    let found = rows_of (found_of c.args.found.now) in
    let wrong = fault_is_wrong name found c.in-Err.fault c.in-Err.ensures in
    let apart : ¬ IsConflicting name found =
    λ two. let bad = c.if-is_conflicting.ensures.1 two in absurd (cc) in
    let whole : ¬ IsLacking name found =
    λ half. let bad = c.if-is_lacking.ensures.1 half in absurd (cc) in
    inr (inr (inr (wrong, apart, whole, c.in_ok-wrong_word-in-Err.ensures)))
