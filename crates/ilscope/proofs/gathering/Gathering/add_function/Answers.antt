use Rattle.std.proofs.Common.{◌≡◌, ℕ, ap, arith, length, ◌∙◌}
use Rattle.ildeclared.specs.Kept.{types_in}
use Rattle.ilscope.specs.Declarations.{with_inputs}
use Rattle.ilscope.proofs.OneMore.{function_added}
use Rattle.ilscope.proofs.gathering.Gathering.add_function.Goals as goal

pub returns : goal.returns
returns c front h =
    let old = c.args.self.now in
    let types_above = types_in c.args.lower.now old.types in
    let many : c.len-above.result ≡ length old.functions.items =
    omega (arith, c.len-above.ensures, old.functions.ok.0)
    in
    let its = c.in_ok-tables.tables in
    let says = c.in_ok-tables.ensures in
    rw (
      c.lesser_of-self.ensures,
      c.lesser_of.ensures,
      c.in_ok-push.ensures.items,
      c.in_ok-push-2.ensures.items,
    )
    (function_added c.args.after c.args.lower.now front old.types old.programs.items old.variable_numbers.items
    old.block_numbers.items old.external_numbers.items old.functions.items old.own_numbers.items old.least its.twice
    c.fault_of_function-fault.result c.args.function.now its.scope its.own_numbers h
    (says.scope ∙ ap (λ (n : ℕ). with_inputs types_above n c.args.function.now) many) says.own
    says.twice
    c.fault_of_function-fault.ensures)
