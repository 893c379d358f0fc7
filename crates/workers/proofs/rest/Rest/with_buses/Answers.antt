use Rattle.std.proofs.Common.{◌∙◌, ap, map, refl, sym}
use Rattle.workers.specs.declared.closed.ClosedParts.{ClosedParts}
use Rattle.workers.proofs.Whole.{left_with}
use Rattle.workers.proofs.rest.Rest.with_buses.Goals as goal

pub invariant_of-result : goal.invariant_of-result
invariant_of-result g c =
    let old : ClosedParts g.row.B.Denot g.row.C.Denot =
    record {
      plant = c.self.inside.plant;
      buses = c.self.inside.buses.value;
      clock = c.self.inside.clock;
      ended = c.self.inside.ended;
    }
    in
    let new : ClosedParts g.row.D.Denot g.row.C.Denot =
    record {
      plant = c.self.inside.plant;
      buses = c.args.buses;
      clock = c.self.inside.clock;
      ended = c.self.inside.ended;
    }
    in
    left_with g.B.Bus.log g.D.Bus.log g.C.Clock.log old new refl refl
    (c.requires.logs
    ∙ ap (λ (left : ClosedParts g.row.B.Denot g.row.C.Denot). map g.B.Bus.log left.buses.items) (sym c.self.view_is))
    c.self.invariant
