use Rattle.std.proofs.Common.{◌≡◌, ◌<◌, ◌↔◌, true, false, refl}
use Rattle.std.specs.Prelude.{IsTrue}
use Rattle.buslink.specs.declared.marks.Mark.TheVariants.{Lost}
use Rattle.buslink.proofs.Trying.{none_left, not_true, tried_last, tried_more}
use Rattle.buslink.proofs.performing.+try_again.Goals as goal

pub returns-then-is_retried : goal.returns-then-is_retried
returns-then-is_retried g t c =
    let told : IsTrue true ↔ ((c.try_once-last.result ≡ Lost) × (0 < c.args.retries)) = c.if-is_retried.ensures in
    tried_more c.args.transaction.now c.frames.result.now c.first_priority.result c.args.retries c.args.marks.now.items
    c.try_once-last.new.marks.items c.try_again.new.marks.items
    (g.B.Bus.log c.args.bus.now) (g.B.Bus.log c.try_once-last.new.bus)
    (g.B.Bus.log c.try_again.new.bus) c.try_once-last.result
    c.frames.ensures.value c.first_priority.ensures c.try_once-last.ensures (told.0 refl).0
    (told.0 refl).1 c.try_again.ensures

pub returns-else-is_retried : goal.returns-else-is_retried
returns-else-is_retried g t c =
    let told : IsTrue false ↔ ((c.try_once-last.result ≡ Lost) × (0 < c.args.retries)) = c.if-is_retried.ensures in
    tried_last c.args.transaction.now c.frames.result.now c.first_priority.result c.args.retries c.args.marks.now.items
    c.try_once-last.new.marks.items
    (g.B.Bus.log c.args.bus.now) (g.B.Bus.log c.try_once-last.new.bus) c.try_once-last.result
    c.frames.ensures.value c.first_priority.ensures c.try_once-last.ensures
    (λ lost. none_left c.args.retries (λ some. not_true (told.1 (lost, some))))
