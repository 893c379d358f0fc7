use Rattle.std.proofs.Common.{◌≡◌, true, false, Option, sym, ap, ◌∙◌}
use Rattle.std.specs.Prelude.{option_map, unwrap_or}
use Rattle.ilplan.specs.declared.global.Global.{Global as GlobalVariable}
use Rattle.plantevents.specs.Plants.{count_in, is_count_at}
use Rattle.plant.proofs.FirstCounts.{found_here, found_later}
use Rattle.plant.proofs.first_counts.first_count.Goals as goal

pub returns-then-is_count_at : goal.returns-then-is_count_at
returns-then-is_count_at c =
    let globals = c.args.plan.now.globals in
    let g = c.global-variable.result.now in
    let test = λ (x : GlobalVariable). is_count_at c.args.bus c.args.number x.location in
    let passes : test g ≡ true = sym c.is_count_at.ensures ∙ c.if-is_count_at.true in
    let found = sym c.loop-global.invariant
    ∙ found_here test globals c.loop-global.global g c.global-variable.ensures.value passes in
    c.count_in.ensures
    ∙ sym (ap (λ (o : Option GlobalVariable).
    unwrap_or (option_map (λ (x : GlobalVariable). count_in x.initial) o) 0) found)

pub loop-global-preserved : goal.loop-global-preserved
loop-global-preserved c =
    let globals = c.args.plan.now.globals in
    let g = c.global-variable.result.now in
    let test = λ (x : GlobalVariable). is_count_at c.args.bus c.args.number x.location in
    let fails : test g ≡ false = sym c.is_count_at.ensures ∙ c.if-is_count_at.false in
    found_later test globals c.loop-global.global g c.global-variable.ensures.value fails ∙ c.loop-global.invariant
