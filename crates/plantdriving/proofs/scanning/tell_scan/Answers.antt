use Rattle.std.proofs.Common.{List, [], ◌∷◌, refl}
use Rattle.plantdriving.specs.declared.happened.Happened.TheVariants as what
use Rattle.plantdriving.specs.declared.happened.Told.{Told}
use Rattle.plantdriving.proofs.Tellings.{part_none, these_stopped}
use Rattle.plantdriving.proofs.scanning.tell_scan.Goals as goal

pub returns-in_err-took-clause-told : goal.returns-in_err-took-clause-told
returns-in_err-took-clause-told g c =
    let tellings : List Told =
    record { place = c.args.place; happened = what.Committed 0 c.args.task c.args.steps } ∷ [] in
    let before = g.O.Observer.told c.args.observer.now in
    these_stopped tellings before before c.from_residual.result _ c.from_residual.ensures.1
    (part_none tellings before before refl)
