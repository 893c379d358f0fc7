use Rattle.std.proofs.Common.{◌≡◌, ◌∙◌, [], ◌∷◌, ap, length, sym}
use Rattle.livekeep.specs.KeptFiles.{entry_of}
use Rattle.livekeep.specs.KeptStates.{entries_of}
use Rattle.livekeep.specs.KeptValues.{global_name}
use Rattle.refusalslanguage.proofs.KeptVariables.{count_kept, none_zip}
use Rattle.refusalslanguage.proofs.Results.{if_ok}
use Rattle.refusalslanguage.proofs.kept.count_is_kept.Goals as goal

pub kept_values-requires : goal.kept_values-requires
kept_values-requires c = record {
  globals = ap length c.requires.values ∙ sym (ap length c.requires.globals);
  tasks = none_zip c.args.plan.now.tasks c.args.tasks.now c.requires.tasks c.requires.states;
}

pub returns : goal.returns
returns c =
    let plan = c.args.plan.now in
    let globals = c.args.globals.now in
    let states = c.args.tasks.now in
    if_ok (λ kept. kept.items ≡ entries_of plan globals states)
    (λ kept. kept.items ≡ entry_of (global_name plan.text c.args.count) c.args.value ∷ []) c.kept_values.result
    c.kept_values.ensures (λ kept is.
    is ∙ count_kept plan c.args.count c.args.value globals states c.requires.globals c.requires.tasks
    c.requires.location c.requires.values)
