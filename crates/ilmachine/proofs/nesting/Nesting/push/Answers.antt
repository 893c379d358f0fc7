use Rattle.std.proofs.Common.{length, ap, arith}
use Rattle.std.specs.Prelude.{reverse}
use Rattle.ilmachine.specs.Nestings.{Nested}
use Rattle.ilmachine.proofs.Marks.{room, length_reversed, takes_little}
use Rattle.ilmachine.proofs.nesting.Nesting.push.Goals as goal

pub push-requires : goal.push-requires
push-requires g c =
    let ws = c.self.inside.waiting.items in
    let cs = reverse c.self.inside.calls.items in
    let many = length_reversed c.self.inside.calls.items in (
      takes_little _ c.self.invariant.2,
      room ws cs _ c.self.invariant.0
          (omega (arith, ap (λ (n : Nested). length n.nesting) c.self.view_is, c.requires))
          (omega (arith, many, c.self.invariant.1)),
    )
