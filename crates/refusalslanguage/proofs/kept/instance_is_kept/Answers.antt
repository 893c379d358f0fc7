use Rattle.std.proofs.Common.{◌≡◌, ◌∙◌, [], ◌∷◌, ap, length, sym}
use Rattle.livekeep.specs.KeptBlocks.{block_entries}
use Rattle.livekeep.specs.KeptStates.{entries_of}
use Rattle.refusalslanguage.proofs.KeptVariables.{one_zip, instance_kept}
use Rattle.refusalslanguage.proofs.Results.{if_ok}
use Rattle.refusalslanguage.proofs.kept.instance_is_kept.Goals as goal

pub kept_values-requires : goal.kept_values-requires
kept_values-requires c = record {
  globals = ap length c.requires.globals.1 ∙ sym (ap length c.requires.globals.0);
  tasks = one_zip c.args.plan.now.tasks c.args.tasks.now c.args.task.now
      (record { slots = []; blocks = c.args.state.now ∷ [] }) c.requires.tasks c.requires.states (record {
        values = sym (ap length c.requires.own);
        blocks = sym (ap length c.requires.blocks);
      });
}

pub returns : goal.returns
returns c =
    let plan = c.args.plan.now in
    let globals = c.args.globals.now in
    let states = c.args.tasks.now in
    if_ok (λ kept. kept.items ≡ entries_of plan globals states)
    (λ kept. kept.items ≡ block_entries plan.text c.args.block c.args.state.now) c.kept_values.result
    c.kept_values.ensures (λ kept is.
    is ∙ instance_kept plan c.args.task.now c.args.block c.args.state.now globals states c.requires.globals.0
    c.requires.tasks c.requires.own c.requires.blocks c.requires.states)
