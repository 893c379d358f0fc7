use Rattle.std.proofs.Common.{◌≡◌, ℕ, List, ap, arith, length, subst, ◌∙◌}
use Rattle.ilsource.specs.Programs.{DeclaredNames}
use Rattle.ildeclared.specs.Faults.{IsNextOf, SomeOf, IsFaultIn}
use Rattle.ildeclared.specs.Kept.{types_in}
use Rattle.ilscope.specs.Declarations.{with_declared}
use Rattle.ilscope.proofs.OneMore.{program_added}
use Rattle.ilscope.proofs.gathering.Gathering.add_program.Goals as goal

pub returns : goal.returns
returns c front h =
    let old = c.args.self.now in
    let types_above = types_in c.args.lower.now old.types in
    let many : c.len-above.result ≡ length old.functions.items =
    omega (arith, c.len-above.ensures, old.functions.ok.0)
    in
    let its = c.in_ok-tables.tables in
    let says = c.in_ok-tables.ensures in
    let fault = c.fault_of_all-fault.result in
    rw (
      c.lesser_of-self.ensures,
      c.lesser_of.ensures,
      c.in_ok-push.ensures.items,
      c.in_ok-add_numbers.ensures.variables,
      c.in_ok-add_numbers.ensures.blocks,
      c.in_ok-add_numbers.ensures.externals,
    )
    (program_added c.args.after c.args.lower.now front old.types old.programs.items old.variable_numbers.items
    old.block_numbers.items old.external_numbers.items old.functions.items old.own_numbers.items old.least its.twice
    fault c.args.program.now its.scope
    its.variable_numbers its.block_numbers its.external_numbers h
    (says.scope ∙ ap (λ (n : ℕ). with_declared types_above n c.args.program.now) many)
    says.variables says.blocks says.externals says.twice
    (subst (λ (ds : List DeclaredNames). IsNextOf c.args.after
    (λ place cause. SomeOf (λ d. IsFaultIn types_above d place cause) ds) fault) c.declarations.ensures
    c.fault_of_all-fault.ensures))
