use Rattle.std.proofs.Common.{◌≡◌, ◌≤◌, ◌∙◌, [], ap, sym, subst, length}
use Rattle.std.specs.List.{AllByRecursion}
use Rattle.limits.specs.Limits.{most_bytes}
use Rattle.wordlines.specs.Wirings.{Wiring, IsWithinLimits}
use Rattle.ilsource.specs.SourceTrees.{Tree}
use Rattle.ilplan.specs.Plans.{AreFunctions, IsLawful, KeepsLimits, Planned, plan_of}
use Rattle.ilsyms.specs.Resolved.{plan_of_tree, planned_functions}
use Rattle.ilsyms.proofs.PlanLawful.{lawful}
use Rattle.ilsyms.proofs.plans.plan_of.Goals as goal

-- the parts are those of the plan
parts : (c : goal.In_ok-tries)
    → plan_of c.in_ok-text.text.items c.buses-buses.result c.in_ok-sources.sources.items c.in_ok-tries.tries.items
    c.in_ok-globals.globals.items c.in_ok-functions.functions.items c.in_ok-tasks.tasks.items
    ≡ plan_of_tree c.args.scope.now.tree c.args.scope.now.wiring
parts c =
    let text = c.in_ok-text.ensures.items ∙ c.text.ensures.value ∙ ap (λ (t : Tree). t.text) c.source.ensures.value in
    let buses = c.buses-buses.ensures.buses ∙ ap (λ (w : Wiring). w.buses) c.requires.wiring in
    let sources = c.in_ok-sources.ensures.items ∙ c.sources.ensures.value
    ∙ ap (λ (w : Wiring). w.sources) c.requires.wiring in
    let tries = c.in_ok-tries.ensures.items ∙ c.tries.ensures.value
    ∙ ap (λ (w : Wiring). w.tries) c.requires.wiring in
    λ i. plan_of (text i) (buses i) (sources i) (tries i) (c.in_ok-globals.ensures i)
    (c.in_ok-functions.ensures.functions i) (c.in_ok-tasks.ensures.tasks i)

pub new-requires : goal.new-requires
new-requires c =
    let limits = subst (λ (w : Wiring). IsWithinLimits w) c.requires.wiring c.buses-buses.ensures.limits in
    let short = subst (λ (t : Tree). length t.text ≤ most_bytes) c.source.ensures.value c.text.ensures.short in
    let tree = c.args.scope.now.tree in
    let keep = subst (AllByRecursion (KeepsLimits (planned_functions tree))) c.in_ok-tasks.ensures.tasks
    c.in_ok-tasks.ensures.limits in
    let functions = subst (AreFunctions []) c.in_ok-functions.ensures.functions c.in_ok-functions.ensures.lawful in
    subst (λ (p : Planned). IsLawful p) (sym (parts c))
    (lawful tree c.args.scope.now.wiring short limits c.requires.named keep functions)

pub returns : goal.returns
returns c = c.new.ensures ∙ parts c.before
