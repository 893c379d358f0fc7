use Rattle.std.proofs.Common.{ap, arith, sym, ◌∙◌}
use Rattle.std.specs.Prelude.{bytes_eq, option_map}
use Rattle.ilsource.specs.Names.{folded}
use Rattle.ildeclared.specs.declared.block.DeclaredBlock.{DeclaredBlock}
use Rattle.ilsyms.proofs.Lists.{first_below}
use Rattle.ilsyms.specs.NumberingSteps.{program_at}
use Rattle.ilsyms.proofs.NumberingBodies.{is_there}
use Rattle.ilsyms.proofs.numbering.Numbering.block.Goals as goal

pub overflow_add-result : goal.overflow_add-result
overflow_add-result c =
    let inside = c.self.inside in
    let tree = inside.scope.now.tree in
    let program = program_at tree inside.body in
    let here = is_there tree inside.body c.self.invariant.there in
    let spelled = folded tree.text in
    let below = first_below (λ (x : DeclaredBlock). bytes_eq (spelled c.args.name) (spelled x.name))
    program.blocks
    c.in-Some.own
    (sym (c.block.ensures.number program here) ∙ ap (option_map (λ b. b.0)) c.in-Some.is)
    in
    omega (arith, below, c.self.invariant.own_blocks)

pub overflow_cast-result : goal.overflow_cast-result
overflow_cast-result c =
    let inside = c.self.inside in
    let tree = inside.scope.now.tree in
    let program = program_at tree inside.body in
    let here = is_there tree inside.body c.self.invariant.there in
    let spelled = folded tree.text in
    let below = first_below (λ (x : DeclaredBlock). bytes_eq (spelled c.args.name) (spelled x.name))
    program.blocks
    c.in-Some.own
    (sym (c.block.ensures.number program here) ∙ ap (option_map (λ b. b.0)) c.in-Some.is)
    in
    omega (arith, below, c.self.invariant.own_blocks)
