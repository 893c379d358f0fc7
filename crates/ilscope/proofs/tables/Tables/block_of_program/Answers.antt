use Rattle.std.proofs.Common.{◌≡◌, ◌∙◌, ◌<◌, ap, length, List, ℕ, sym, subst}
use Rattle.std.specs.Prelude.{Option, Some, None, bytes_eq, option_map, slice_get}
use Rattle.ilblocks.specs.declared.kind.BlockKind.{BlockKind}
use Rattle.ilsource.specs.Names.{folded}
use Rattle.ildeclared.specs.declared.block.DeclaredBlock.{DeclaredBlock}
use Rattle.ildeclared.proofs.Least.{got_at}
use Rattle.ilscope.specs.Declarations.{DeclaredProgram}
use Rattle.ilscope.proofs.Declared.{first_below, none_is, program_is}
use Rattle.ilscope.proofs.tables.Tables.block_of_program.Goals as goal

pub returns-in_err-number-clause-none : goal.returns-in_err-number-clause-none
returns-in_err-number-clause-none c p e =
    let spelled = folded c.args.self.now.text in
    rw c.from_residual.ensures
    (none_is (λ (b : DeclaredBlock). spelled b.name) p.blocks (spelled c.args.name) None
    (sym c.in_err-number.was ∙ c.block_number.ensures p e))

pub returns-in_err-block-clause-number : goal.returns-in_err-block-clause-number
returns-in_err-block-clause-number c p e =
    let inside = c.self.inside in
    let spelled = folded c.args.self.now.text in
    let blocks : c.blocks-2.result.now ≡ p.blocks =
    c.blocks-2.ensures.value
    ∙ ap (λ (q : DeclaredProgram). q.blocks)
    (program_is inside.source.now c.args.self.now inside.programs.items c.args.program p c.index.result.now
    c.self.invariant.declared c.self.view_is e c.index.ensures)
    in
    let below : c.in_ok-number.number < length p.blocks =
    first_below (λ (b : DeclaredBlock). bytes_eq (spelled c.args.name) (spelled b.name)) p.blocks c.in_ok-number.number
    (sym (c.block_number.ensures p e) ∙ c.in_ok-number.was)
    in
    let none = c.in_err-block.ensures.lookup.2
    (subst (λ (bs : List DeclaredBlock). c.in_ok-number.number < length bs) (sym blocks) below) in
    absurd cc

pub returns-in_err-block-clause-none : goal.returns-in_err-block-clause-none
returns-in_err-block-clause-none c p e =
    let spelled = folded c.args.self.now.text in
    rw c.from_residual-in_err-block.ensures
    (none_is (λ (b : DeclaredBlock). spelled b.name) p.blocks (spelled c.args.name) None
    (ap (λ (o : Option (ℕ × BlockKind)). option_map (λ b. b.0) o) (sym c.from_residual-in_err-block.ensures)
    ∙ returns-in_err-block-clause-number c p e))

pub returns-clause-kind : goal.returns-clause-kind
returns-clause-kind c p e =
    let inside = c.self.inside in
    let blocks : c.blocks-2.result.now ≡ p.blocks =
    c.blocks-2.ensures.value
    ∙ ap (λ (q : DeclaredProgram). q.blocks)
    (program_is inside.source.now c.args.self.now inside.programs.items c.args.program p c.index.result.now
    c.self.invariant.declared c.self.view_is e c.index.ensures)
    in
    ap (λ (bs : List DeclaredBlock). option_map (λ d. d.kind) (slice_get bs c.in_ok-number.number)) (sym blocks)
    ∙ ap (λ (o : Option DeclaredBlock). option_map (λ d. d.kind) o)
    (got_at c.blocks-2.result.now c.in_ok-number.number c.in_ok-block.block.now c.in_ok-block.ensures.lookup.3.0
    c.in_ok-block.ensures.lookup.1)

pub returns-clause-none : goal.returns-clause-none
returns-clause-none c p e =
    let spelled = folded c.args.self.now.text in
    none_is (λ (b : DeclaredBlock). spelled b.name) p.blocks (spelled c.args.name) (Some c.in_ok-number.number)
    (sym c.in_ok-number.was ∙ c.block_number.ensures p e)
