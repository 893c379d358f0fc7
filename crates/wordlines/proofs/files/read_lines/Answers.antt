use Rattle.std.proofs.Common.{◌≡◌, true, arith}
use Rattle.wordlines.proofs.LineReading.{led_read, skipped_read}
use Rattle.wordlines.proofs.files.read_lines.Goals as goal
use Rattle.wordlines.proofs.files.read_lines.Goals.{then-not-is_skipped+in_ok-next+in-Some, else-not-is_skipped}

pub lines-preserved : goal.lines-preserved
lines-preserved g c =
    let rules = g.S.LineState.rules in
    let read = c.lines.invariant.read in
    let line = c.first_line.result.0.now in
    let after = c.first_line.result.1.now in
    let first = c.first_line.ensures.line in
    let now = c.if-not-is_skipped.state in
    elim c.if-not-is_skipped.branch [
      | then-not-is_skipped+in_ok-next+in-Some w ↦
          let leads = rw w.in-Some.is at w.in_ok-next.ensures.leads in
          record {
            room = omega arith;
            read = led_read rules c.args.start c.args.bytes.now c.lines.rest.now after c.lines.state w.in-Some.next now
                c.lines.number line read first leads w.state-is;
          }
      | else-not-is_skipped w ↦
          let skipped : c.is_skipped.result ≡ true = w.if-not-is_skipped.false in
          record {
            room = omega arith;
            read = skipped_read rules c.args.start c.args.bytes.now c.lines.rest.now after c.lines.state now
                c.lines.number line read first (c.is_skipped.ensures.0 skipped) w.state-is;
          }
    ]
