use Rattle.std.proofs.Common.{◌≤◌, ◌<◌, arith, sym}
use Rattle.std.proofs.lemmas.Result.{err_from_is_err_and}
use Rattle.commissioning.specs.Surveys.{AreParts, IsQueryPart}
use Rattle.commissioning.proofs.Surveying.{asks_of_more, more_part, more_all, query_asked, query_left}
use Rattle.commissioning.proofs.Breaking.{broken_part}
use Rattle.commissioning.proofs.Completing.{query_unasked, some_query}
use Rattle.commissioning.proofs.surveys.ask_queries.Goals as goal
use Rattle.commissioning.proofs.surveys.ask_queries.Goals.{then-is_surveyed+in_ok-ask_one, else-is_surveyed}

pub returns-in_err-ask_one-clause-fault : goal.returns-in_err-ask_one-clause-fault
returns-in_err-ask_one-clause-fault g c =
    let p = err_from_is_err_and c.from_residual.result c.from_residual.ensures.1 in
    let fewer : c.loop-number.number < 43 = omega arith in
    rw (p.1, p.2) (broken_part (IsQueryPart c.args.address) (some_query c.args.address) c.loop-number.number 43
    c.in_err-ask_one.field-0.0 (g.B.Bus.log c.args.bus.now) (g.B.Bus.log c.loop-number.bus)
    (g.B.Bus.log c.ask_one.new.bus) fewer
    (asks_of_more (AreParts (IsQueryPart c.args.address) c.loop-number.number) c.args.asked.now.items
    c.loop-number.asked.items (g.B.Bus.log c.args.bus.now) (g.B.Bus.log c.loop-number.bus) c.loop-number.invariant)
    (query_unasked c.args.address c.loop-number.number c.query.result c.in_err-ask_one.field-0.0
    (g.B.Bus.log c.loop-number.bus) (g.B.Bus.log c.ask_one.new.bus) c.query.ensures (sym c.if-is_surveyed.ensures)
    c.in_err-ask_one.ensures.fault))

pub loop-number-preserved : goal.loop-number-preserved
loop-number-preserved g c =
    elim c.if-is_surveyed.branch [
      | then-is_surveyed+in_ok-ask_one w ↦ rw w.asked-is (rw w.bus-is
          (more_part (IsQueryPart c.args.address) c.loop-number.number c.args.asked.now.items c.loop-number.asked.items
          w.ask_one.new.asked.items (g.B.Bus.log c.args.bus.now) (g.B.Bus.log c.loop-number.bus)
          (g.B.Bus.log w.ask_one.new.bus) c.loop-number.invariant
          (query_asked c.args.address c.loop-number.number w.in_ok-ask_one.field-0 w.query.result
          c.loop-number.asked.items w.ask_one.new.asked.items (g.B.Bus.log c.loop-number.bus)
          (g.B.Bus.log w.ask_one.new.bus) w.query.ensures (sym w.if-is_surveyed.ensures)
          w.in_ok-ask_one.ensures.more)))
      | else-is_surveyed w ↦ rw w.asked-is (rw w.bus-is
          (more_part (IsQueryPart c.args.address) c.loop-number.number c.args.asked.now.items c.loop-number.asked.items
          c.loop-number.asked.items (g.B.Bus.log c.args.bus.now) (g.B.Bus.log c.loop-number.bus)
          (g.B.Bus.log c.loop-number.bus) c.loop-number.invariant
          (query_left c.args.address c.loop-number.number c.loop-number.asked.items (g.B.Bus.log c.loop-number.bus)
          (sym w.if-is_surveyed.ensures))))
    ]

pub returns-clause-more : goal.returns-clause-more
returns-clause-more g c =
    let most : c.loop-number.number ≤ 43 = omega arith in
    more_all (IsQueryPart c.args.address) c.loop-number.number 43 c.args.asked.now.items c.loop-number.asked.items
    (g.B.Bus.log c.args.bus.now) (g.B.Bus.log c.loop-number.bus) most c.loop-number-test.false c.loop-number.invariant
