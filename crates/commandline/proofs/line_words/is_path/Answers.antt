use Rattle.std.proofs.Common.{arith, rules, length, ◌<◌}
use Rattle.commandline.proofs.LineParts.{contains_none}
use Rattle.commandline.specs.LineWords.{comma}
use Rattle.commandline.proofs.line_words.is_path.Goals as goal

pub returns-then-not-is_empty : goal.returns-then-not-is_empty
returns-then-not-is_empty c =
    let none = contains_none comma c.args.text.now c.contains.result c.contains.ensures.cases (omega arith) in
    let some : 0 < length c.args.text.now = search rules in
    (λ yes. (some, none.0 yes), λ is. none.1 is.1)
