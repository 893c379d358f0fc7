use Rattle.std.proofs.Common.{◌≡◌, ◌<◌, ◌↔◌, length, true, false, slice_index_or, refl}
use Rattle.std.specs.Prelude.{IsTrue}
use Rattle.buslink.specs.declared.marks.Mark.TheVariants.{Quiet, Lost}
use Rattle.buslink.specs.ReadingSteps.{HasNoAttempt}
use Rattle.buslink.proofs.ReadingLemmas.{Step, reads_none, step_last, step_none, step_retried, none_left, empty_at}
use Rattle.buslink.proofs.ReadingLemmas.{filled_at}
use Rattle.buslink.proofs.reports.+read_attempts.Goals as goal

pub returns-in_err-end : goal.returns-in_err-end
returns-in_err-end t c =
    let none : HasNoAttempt (length c.frames-frames.result.now) c.args.marks.now = c.in_err-end.ensures in
    rw c.from_residual.ensures (reads_none c.args.transaction.now c.args.retries c.args.marks.now
    (rw c.frames-frames.ensures.value at none))

pub returns-then-is_retried : goal.returns-then-is_retried
returns-then-is_retried t c =
    let step : Step c.args.transaction.now c.args.marks.now c.in_ok-end.end c.frames-frames.result.now
    c.first_priority.result c.split_at.result.0.now c.split_at.result.1.now c.args.sent.now.items
    c.push_attempt.new.sent.items = record {
      frames_are = c.frames-frames.ensures.value;
      first_is = c.first_priority.ensures;
      ends = c.in_ok-end.ensures;
      front_is = c.split_at.ensures.front;
      rest_is = c.split_at.ensures.back;
      sends = c.push_attempt.ensures;
    } in
    let last_lost : IsTrue true ↔
    ((slice_index_or c.args.marks.now c.in_ok-end.end Quiet ≡ Lost) × (0 < c.args.retries)) =
    c.if-is_retried.ensures in
    step_retried c.args.transaction.now c.args.retries c.args.marks.now c.in_ok-end.end c.frames-frames.result.now
    c.first_priority.result c.split_at.result.0.now c.split_at.result.1.now c.args.sent.now.items
    c.push_attempt.new.sent.items c.read_attempts.new.sent.items c.read_attempts.result
    step (last_lost.0 refl).0 (last_lost.0 refl).1 c.read_attempts.ensures

pub returns-then-is_empty : goal.returns-then-is_empty
returns-then-is_empty t c =
    let step : Step c.args.transaction.now c.args.marks.now c.in_ok-end.end c.frames-frames.result.now
    c.first_priority.result c.split_at.result.0.now c.split_at.result.1.now c.args.sent.now.items
    c.push_attempt.new.sent.items = record {
      frames_are = c.frames-frames.ensures.value;
      first_is = c.first_priority.ensures;
      ends = c.in_ok-end.ensures;
      front_is = c.split_at.ensures.front;
      rest_is = c.split_at.ensures.back;
      sends = c.push_attempt.ensures;
    } in
    let last_lost : IsTrue false ↔
    ((slice_index_or c.args.marks.now c.in_ok-end.end Quiet ≡ Lost) × (0 < c.args.retries)) =
    c.if-is_retried.ensures in
    step_last c.args.transaction.now c.args.retries c.args.marks.now c.in_ok-end.end c.frames-frames.result.now
    c.first_priority.result c.split_at.result.0.now c.split_at.result.1.now c.args.sent.now.items
    c.push_attempt.new.sent.items
    step (empty_at _ c.if-is_empty.ensures)
    (none_left c.args.retries (slice_index_or c.args.marks.now c.in_ok-end.end Quiet ≡ Lost) last_lost.1)

pub returns-else-is_empty : goal.returns-else-is_empty
returns-else-is_empty t c =
    let step : Step c.args.transaction.now c.args.marks.now c.in_ok-end.end c.frames-frames.result.now
    c.first_priority.result c.split_at.result.0.now c.split_at.result.1.now c.args.sent.now.items
    c.push_attempt.new.sent.items = record {
      frames_are = c.frames-frames.ensures.value;
      first_is = c.first_priority.ensures;
      ends = c.in_ok-end.ensures;
      front_is = c.split_at.ensures.front;
      rest_is = c.split_at.ensures.back;
      sends = c.push_attempt.ensures;
    } in
    let last_lost : IsTrue false ↔
    ((slice_index_or c.args.marks.now c.in_ok-end.end Quiet ≡ Lost) × (0 < c.args.retries)) =
    c.if-is_retried.ensures in
    step_none c.args.transaction.now c.args.retries c.args.marks.now c.in_ok-end.end c.frames-frames.result.now
    c.first_priority.result c.split_at.result.0.now c.split_at.result.1.now c.args.sent.now.items
    c.push_attempt.new.sent.items
    step (filled_at c.split_at.result.1.now c.if-is_empty.ensures)
    (none_left c.args.retries (slice_index_or c.args.marks.now c.in_ok-end.end Quiet ≡ Lost) last_lost.1)
