use Rattle.std.proofs.Common.{◌≡◌, ◌∙◌, ◌++◌, ℕ, List, ap, sym, subst, length, take, drop, arith}
use Rattle.std.specs.Arc.{arc_value}
use Rattle.std.specs.List.{AllZip}
use Rattle.iltypes.specs.declared.value.Value.{Value}
use Rattle.iltypes.specs.Values.{AreOf}
use Rattle.ilblocks.specs.Calls.{IsBlockOf}
use Rattle.ilblocks.proofs.Blocks.{as_long}
use Rattle.ilverify.specs.Listings.{lasting_types}
use Rattle.ilmachine.specs.TaskRows.{TaskRow, task_row_of}
use Rattle.ilmachine.specs.RowSteps.{kept_task}
use Rattle.ilmachine.proofs.RowKinds.{same_kinds, joined_typed}
use Rattle.ilmachine.proofs.task_row.TaskRow.keep.Goals as goal

pub copy_end-requires : goal.copy_end-requires
copy_end-requires c =
    let f = c.self.inside in
    let row = c.args.row.now in
    let slots = lasting_types (arc_value f.prepared).code in
    let typed = subst (λ (t : TaskRow). AreOf row (lasting_types t.layout.verified.code)) (sym c.self.view_is)
    c.requires.values in
    let old = as_long f.row slots c.self.invariant.0.values in
    let new = as_long row slots typed in
    let view = ap (λ (t : TaskRow). length t.layout.externals) c.self.view_is in
    let h = c.requires.externals in
    record {
      kinds = same_kinds f.row row slots c.self.invariant.0.values typed;
      there = omega (arith, old, new, view, h, c.len.ensures, f.externals.ok.0);
    }

pub invariant_of-self : goal.invariant_of-self
invariant_of-self c =
    let f = c.self.inside in
    let row = c.args.row.now in
    let slots = lasting_types (arc_value f.prepared).code in
    let typed = subst (λ (t : TaskRow). AreOf row (lasting_types t.layout.verified.code)) (sym c.self.view_is)
    c.requires.values in (
      record {
        values = subst (λ (r : List Value). AreOf r slots) (sym c.copy_end.ensures)
            (joined_typed c.len.result f.row row slots c.self.invariant.0.values typed);
        blocks = subst (λ (t : TaskRow). AllZip (IsBlockOf t.layout.verified.code.buses) c.args.blocks.items
            t.layout.verified.code.kinds) (sym c.self.view_is) c.requires.blocks;
      },
      c.self.invariant.1,
    )

pub returns : goal.returns
returns c =
    let f = c.self.inside in
    let row = c.args.row.now in
    let blocks = c.args.blocks.items in
    let n : c.len.result ≡ length f.externals.items = omega (arith, c.len.ensures, f.externals.ok.0) in
    ap (λ (r : List Value). task_row_of (arc_value f.prepared) f.externals.items r blocks)
    (c.copy_end.ensures ∙ ap (λ (k : ℕ). take k f.row ++ drop k row) n)
    ∙ ap (λ (t : TaskRow). kept_task t row blocks) c.self.view_is
