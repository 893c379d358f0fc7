use Rattle.std.proofs.Common.{◌∙◌, ◌++◌, List, ap, sym, subst, arith, below_more}
use Rattle.std.specs.Prelude.{All, option_map, option_to_list, slice_index_or}
use Rattle.ilmachine.specs.declared.overriding.Override.{Override}
use Rattle.plant.specs.TakingSteps.{event_at, given_to, IsInType}
use Rattle.plant.proofs.Overriding.{HasEither, HasEvent, all_given, either_still, event_here, event_still, typed_more}
use Rattle.plant.proofs.overrides.overrides.Goals as goal

pub loop-i-preserved : goal.loop-i-preserved
loop-i-preserved c =
    let plan = c.args.plan.now in let bus = c.args.bus in let number = c.args.number in let event = c.args.event in
    let items = c.loop-i.given.items in let i = c.loop-i.i in let k = slice_index_or c.args.inputs.now i 0 in
    let before = c.loop-i.invariant in
    let pushed = c.in_ok-push_some.ensures ∙ ap (λ o. items ++ option_to_list o) c.override_of.ensures.value in
    let here = event_here plan bus number event items k (before.either k) in record {
      either = λ g. subst (λ (xs : List Override). HasEither plan bus number event xs g) (sym pushed)
          (either_still plan bus number event items k g here (before.either g));
      done = λ j lt. subst (λ (xs : List Override). HasEvent plan bus number event xs
          (slice_index_or c.args.inputs.now j 0)) (sym pushed)
          (below_more (λ j. HasEvent plan bus number event
          (items ++ option_to_list (option_map (given_to k) (event_at plan bus number event k)))
          (slice_index_or c.args.inputs.now j 0)) i
          (λ j lt. event_still plan bus number event items k (slice_index_or c.args.inputs.now j 0) here
          (before.done j lt)) here j lt);
      typed = subst (All (IsInType plan)) (sym c.in_ok-push_some.ensures)
          (typed_more plan items c.override_of.result before.typed c.override_of.ensures.in_type);
    }

pub returns-clause-values : goal.returns-clause-values
returns-clause-values c =
    let after = c.loop-i.invariant in
    all_given c.args.plan.now c.args.bus c.args.number c.args.event c.loop-i.given.items c.args.inputs.now c.loop-i.i
    c.requires.inputs (omega arith) after.either after.done
