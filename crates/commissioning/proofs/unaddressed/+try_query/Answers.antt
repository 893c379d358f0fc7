use Rattle.std.proofs.Common.{◌≡◌, ◌<◌, ◌↔◌, true, false, refl}
use Rattle.std.specs.Prelude.{IsTrue}
use Rattle.buslink.specs.declared.marks.Mark.TheVariants.{Lost}
use Rattle.commissioning.proofs.Retrying.{none_left, not_true, tried_last, tried_more}
use Rattle.commissioning.proofs.unaddressed.+try_query.Goals as goal

pub returns-then-is_retried : goal.returns-then-is_retried
returns-then-is_retried g t c =
    let told : IsTrue true ↔ ((c.send_query-mark.result ≡ Lost) × (0 < c.args.retries)) = c.if-is_retried.ensures in
    tried_more c.args.retries c.send_query-mark.result c.try_query.result (g.B.Bus.log c.args.bus.now)
    (g.B.Bus.log c.send_query-mark.new.bus) (g.B.Bus.log c.try_query.new.bus) c.send_query-mark.ensures
    (told.0 refl).0 (told.0 refl).1 c.try_query.ensures

pub returns : goal.returns
returns g t c =
    let told : IsTrue false ↔ ((c.send_query-mark.result ≡ Lost) × (0 < c.args.retries)) = c.if-is_retried.ensures in
    tried_last c.args.retries c.send_query-mark.result (g.B.Bus.log c.args.bus.now)
    (g.B.Bus.log c.send_query-mark.new.bus) c.send_query-mark.ensures
    (λ lost. none_left c.args.retries (λ some. not_true (told.1 (lost, some))))
