use Rattle.std.proofs.Common.{rules, ◌≡◌, Err, map, string_bytes, inl}
use Rattle.clap.specs.Words.{app_of, found_of, rows_of}
use Rattle.commandline.proofs.Parsed.{answered, its_fault, named, no_fault, spelled}
use Rattle.commandline.proofs.reading.read.Goals as goal

pub returns-clause-taken : goal.returns-clause-taken
returns-clause-taken c =
    let words = map (λ word. string_bytes word) c.args.words.now in
    let app = app_of c.in_ok-command.field-0 in
    let matches = c.in_ok-matches in
    let name = c.in-Some.name.now in
    let found = rows_of (found_of c.in-Some.found) in
    let is = c.in-Some.ensures in
    let free = no_fault words app c.in_ok-command.ensures matches.ensures.kinds in
    let spells =
    named words app c.in_ok-command.ensures matches.matches name found matches.ensures.matches is.name is.rows in
    let made = c.invocation in
    answered words name found spells _ made.result free made.ensures.taken made.ensures.refused

pub returns-in_err-matches-clause-taken : goal.returns-in_err-matches-clause-taken
returns-in_err-matches-clause-taken c =
    let words = map (λ word. string_bytes word) c.args.words.now in
    let command = c.in_ok-command in
    let matches = c.in_err-matches in
    let error = matches.field-0.0 in
    let passed : c.from_residual-in_err-matches.result ≡ Err error = search rules in
    rw passed (inl (its_fault words (app_of command.field-0) command.ensures error matches.ensures.kinds))

pub returns-clause-invocation : goal.returns-clause-invocation
returns-clause-invocation c =
    let words = map (λ word. string_bytes word) c.args.words.now in
    let app = app_of c.in_ok-command.field-0 in
    let matches = c.in_ok-matches in
    let name = c.in-Some.name.now in
    let found = rows_of (found_of c.in-Some.found) in
    let is = c.in-Some.ensures in
    let spells =
    named words app c.in_ok-command.ensures matches.matches name found matches.ensures.matches is.name is.rows in
    spelled words name found spells c.invocation.result c.invocation.ensures.invocation
