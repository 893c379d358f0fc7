use Rattle.std.proofs.Common.{rules, ◌≡◌, None}
use Rattle.wordlines.specs.WordLines.{number_upto}
use Rattle.commandline.proofs.LineParts.{no_bus, no_paths, one_line}
use Rattle.commandline.proofs.line_words.line_of.Goals as goal

pub returns-in_err-digits : goal.returns-in_err-digits
returns-in_err-digits c =
    let passed : c.from_residual.result ≡ None = search rules in
    rw passed (λ line named. one_line c.args.word.now None c.in_err-digits.ensures.cases line named)

pub returns-in_err-bus : goal.returns-in_err-bus
returns-in_err-bus c =
    let passed : c.from_residual-in_err-bus.result ≡ None = search rules in
    let none : number_upto 63 c.in_ok-digits.digits.now ≡ None = search rules in
    rw passed (no_bus c.args.word.now (c.in_ok-digits.digits, c.in_ok-digits.paths) c.in_ok-digits.ensures.cases none)

pub returns-in_err-from : goal.returns-in_err-from
returns-in_err-from c =
    let passed : c.from_residual-in_err-from.result ≡ None = search rules in
    rw passed (no_paths c.args.word.now (c.in_ok-digits.digits, c.in_ok-digits.paths) c.in_ok-digits.ensures.cases c.in_err-from.ensures)
