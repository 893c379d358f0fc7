use Rattle.std.proofs.Common.{ℕ, List, refl}
use Rattle.std.specs.Prelude.{flat_map}
use Rattle.ilsource.specs.Words.{places_in}
use Rattle.ilsource.specs.declared.instruction.Line.{Line}
use Rattle.ilplan.specs.declared.place.Place.{Place}
use Rattle.ilcompile.proofs.TwoPasses.{one_joined}
use Rattle.ilcompile.proofs.lines.push_places.Goals as goal

pub loop-line-preserved : goal.loop-line-preserved
loop-line-preserved c =
    one_joined (λ (lines : List (Line Place ℕ)). flat_map places_in lines) c.args.lines.now c.loop-line.line-index
    c.line-item.result (places_in c.line-item.result) c.loop-line.places.items c.push_places.new.places.items _
    c.loop-line-test.true c.line-item.is refl c.loop-line.invariant c.in_ok-push_places.ensures.ok
