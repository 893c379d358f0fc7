use Rattle.std.proofs.Common.{rules, ◌<◌, length}
use Rattle.commandline.proofs.ExpectedParts.{both_parts, no_part, no_sign}
use Rattle.commandline.proofs.expected_words.pair_of.Goals as goal
use Rattle.commandline.proofs.expected_words.pair_of.Goals.{in_default-via-in_default}
use Rattle.commandline.proofs.expected_words.pair_of.Goals.{in_default-via-in-Some+else-not-is_empty}
use Rattle.commandline.proofs.expected_words.pair_of.Goals.{in_default-via-in-Some+then-not-is_empty+else-not-is_empty-2}

pub returns-in-Some : goal.returns-in-Some
returns-in-Some c =
    let name : 0 < length c.in-Some.name.now = search rules in
    let value : 0 < length c.in-Some.value.now = search rules in
    both_parts c.args.word.now (c.in-Some.name, c.in-Some.value) c.in-Some.ensures.cases name value

pub returns-in_default : goal.returns-in_default
returns-in_default c one is =
    let word = c.args.word.now in
    elim c.in_default.branch [
      | in_default-via-in-Some+then-not-is_empty+else-not-is_empty-2 w ↦
          let empty : ¬ (0 < length w.in-Some.value.now) = search rules in
          no_part word (w.in-Some.name, w.in-Some.value) w.in-Some.ensures.cases (λ _ some. empty some) one is
      | in_default-via-in-Some+else-not-is_empty w ↦
          let empty : ¬ (0 < length w.in-Some.name.now) = search rules in
          no_part word (w.in-Some.name, w.in-Some.value) w.in-Some.ensures.cases (λ some _. empty some) one is
      | in_default-via-in_default w ↦ no_sign word w.in_default.ensures.cases one is
    ]
