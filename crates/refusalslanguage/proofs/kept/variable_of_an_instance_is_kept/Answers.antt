use Rattle.std.proofs.Common.{◌≡◌, ◌∙◌, [], ◌∷◌, ap, length, sym}
use Rattle.livekeep.specs.KeptFiles.{entry_of}
use Rattle.livekeep.specs.KeptStates.{entries_of}
use Rattle.livekeep.specs.KeptValues.{own_name}
use Rattle.refusalslanguage.proofs.KeptVariables.{one_zip, own_kept}
use Rattle.refusalslanguage.proofs.Results.{if_ok}
use Rattle.refusalslanguage.proofs.kept.variable_of_an_instance_is_kept.Goals as goal

pub kept_values-requires : goal.kept_values-requires
kept_values-requires c = record {
  globals = ap length c.requires.globals.1 ∙ sym (ap length c.requires.globals.0);
  tasks = one_zip c.args.plan.now.tasks c.args.tasks.now c.args.task.now
      (record { slots = c.args.value ∷ []; blocks = [] }) c.requires.tasks c.requires.states (record {
        values = sym (ap length c.requires.own);
        blocks = sym (ap length c.requires.blocks);
      });
}

pub returns : goal.returns
returns c =
    let plan = c.args.plan.now in
    let globals = c.args.globals.now in
    let states = c.args.tasks.now in
    if_ok (λ kept. kept.items ≡ entries_of plan globals states)
    (λ kept. kept.items ≡ entry_of (own_name plan.text c.args.instance c.args.name) c.args.value ∷ []) c.kept_values.result
    c.kept_values.ensures (λ kept is.
    is ∙ own_kept plan c.args.task.now c.args.slot c.args.instance c.args.name c.args.value globals states
    c.requires.globals.0 c.requires.tasks c.requires.own c.requires.blocks c.requires.variable c.requires.states)
