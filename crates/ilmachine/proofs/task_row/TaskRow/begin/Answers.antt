use Rattle.std.proofs.Common.{◌∙◌, List, ap, sym, subst}
use Rattle.std.specs.List.{AllZip}
use Rattle.iltypes.specs.Values.{AreOf}
use Rattle.ilblocks.specs.Calls.{Block, IsBlockOf}
use Rattle.ilverify.specs.Listings.{lasting_types}
use Rattle.ilverify.specs.Verdicts.{Accepted}
use Rattle.ilmachine.specs.TaskRows.{TaskRow, IsTaskRow}
use Rattle.ilmachine.specs.Snapshots.{start_of}
use Rattle.ilmachine.proofs.task_row.TaskRow.begin.Goals as goal

pub of-requires : goal.of-requires
of-requires c =
    let t = c.args.self.now in
    let whole = subst IsTaskRow c.self.view_is c.self.invariant.0 in
    let code = c.in_ok-prepared.ensures.cases ∙ ap (λ (t : TaskRow). t.layout.verified) c.self.view_is in
    let blocks = c.in_ok-blocks.blocks.items in
    record {
      values = subst (λ (v : Accepted). AreOf c.args.row (lasting_types v.code)) (sym code) c.requires;
      blocks = subst (λ (v : Accepted). AllZip (IsBlockOf v.code.buses) blocks v.code.kinds) (sym code)
          (subst (λ (bs : List Block). AllZip (IsBlockOf t.layout.verified.code.buses) bs t.layout.verified.code.kinds)
          (sym c.in_ok-blocks.ensures) whole.blocks);
    }

pub returns : goal.returns
returns c =
    let t = c.args.self.now in
    let code = c.in_ok-prepared.ensures.cases ∙ ap (λ (t : TaskRow). t.layout.verified) c.self.view_is in
    c.of.ensures
    ∙ ap (λ (v : Accepted). start_of v (record {
      slots = c.args.row;
      blocks = c.in_ok-blocks.blocks.items;
    }) c.args.moment) code
    ∙ ap (λ (bs : List Block). start_of t.layout.verified (record { slots = c.args.row; blocks = bs }) c.args.moment)
    c.in_ok-blocks.ensures
