use Rattle.plantdriving.proofs.Handed.{may_go_down}
use Rattle.plantdriving.proofs.serving.note_report.Goals as goal

pub unreachable-requires : goal.unreachable-requires
unreachable-requires c = c.in_default-note_report.ensures.stranger c.requires.open

pub unreachable-requires-in_default-down : goal.unreachable-requires-in_default-down
unreachable-requires-in_default-down c =
    may_go_down c.args.bus c.args.number c.args.report c.args.plant.now c.note_report.new.self c.in_default-down.field-0
    c.requires.up c.in-Ok.ensures.grown c.in_default-down.ensures.refused
