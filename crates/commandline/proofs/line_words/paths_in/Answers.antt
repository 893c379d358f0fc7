use Rattle.commandline.proofs.LineParts.{no_one, no_two}
use Rattle.commandline.proofs.line_words.paths_in.Goals as goal
use Rattle.commandline.proofs.line_words.paths_in.Goals.{in_default-via-in-None+else-is_path-3}
use Rattle.commandline.proofs.line_words.paths_in.Goals.{in_default-via-in-Some+else-is_path}
use Rattle.commandline.proofs.line_words.paths_in.Goals.{in_default-via-in-Some+then-is_path+else-is_path-2}

pub returns-in_default : goal.returns-in_default
returns-in_default c from to are =
    let text = c.args.text.now in
    elim c.in_default.branch [
      | in_default-via-in-Some+then-is_path+else-is_path-2 w ↦
          let no = w.if-is_path-2.ensures.1 in
          no_two text (w.in-Some.from, w.in-Some.to) w.in-Some.ensures.cases (λ _ is. let bad = no is in absurd (cc)) from to are
      | in_default-via-in-Some+else-is_path w ↦
          let no = w.if-is_path.ensures.1 in
          no_two text (w.in-Some.from, w.in-Some.to) w.in-Some.ensures.cases (λ is _. let bad = no is in absurd (cc)) from to are
      | in_default-via-in-None+else-is_path-3 w ↦
          let no = w.if-is_path-3.ensures.1 in
          no_one text w.in-None.ensures.cases (λ is. let bad = no is in absurd (cc)) from to are
    ]
