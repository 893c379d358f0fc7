use Rattle.std.proofs.Common.{◌≡◌, ℕ, ◌+◌, ◌<◌, ◌≤◌, [], ◌∷◌, ◌++◌, List, length, map, get_or, sym, ap, ◌∙◌, subst}
use Rattle.std.proofs.Common.{arith}
use Rattle.std.specs.Prelude.{All}
use Rattle.std.proofs.Math.ListN.{length-map}
use Rattle.std.proofs.lemmas.List.{take_all}
use Rattle.std.proofs.lemmas.List.Elements.{All-push, All-weaker}
use Rattle.ilscope.specs.Declarations.{declared_functions}
use Rattle.ilplan.specs.Functions.{PlannedFunction, depth_in, depths_from, greatest}
use Rattle.ilsyms.specs.FunctionSteps.{Needs, needs_of}
use Rattle.ilsyms.specs.Resolved.{planned_function, planned_functions}
use Rattle.ilsyms.proofs.FunctionsUsed.{not_deeper, one_deeper}
use Rattle.ilsyms.proofs.usage.depths.Goals as goal

pub loop-one-preserved : goal.loop-one-preserved
loop-one-preserved c =
    let tree = c.args.scope.now.tree in
    let i = c.loop-one.one-index in
    let known = c.loop-one.depths.items in
    let size = ap (λ (ns : List Needs). length ns) c.requires in
    let all = length-map (declared_functions tree) (needs_of tree) in
    let below : i < length (declared_functions tree) = omega (arith, size, all, c.loop-one-test.true) in
    let one = c.one-item.result in
    let deep : c.depth_of-depth.result ≡ greatest (map (depth_in known) one.calls) + 1 =
    c.depth_of-depth.ensures
    ∙ (λ j. greatest (map (depth_in (c.deref.ensures.value j)) (c.calls.ensures.value j)) + 1) in
    let low = not_deeper known i c.loop-one.invariant.low one.calls in
    record {
      depths =
          c.in_ok-push.ensures.items ∙ ap (λ d. known ++ d ∷ []) deep
          ∙ one_deeper tree i one known below
          (c.one-item.is ∙ ap (λ (ns : List Needs). get_or ns i one) c.requires) c.loop-one.invariant.depths;
      low =
          subst (λ (ds : List ℕ). All (λ d. d ≤ i + 1) ds) (sym c.in_ok-push.ensures.items)
          (All-push (λ d. d ≤ i + 1) known c.depth_of-depth.result
          (All-weaker (λ d. d ≤ i) (λ d. d ≤ i + 1) (λ d le. omega (arith, le)) known c.loop-one.invariant.low)
          (omega (arith, deep, low)));
    }

pub returns : goal.returns
returns c =
    let tree = c.args.scope.now.tree in
    let size = ap (λ (ns : List Needs). length ns) c.requires in
    let all = length-map (declared_functions tree) (needs_of tree) in
    let other = length-map (declared_functions tree) (planned_function tree) in
    let last = c.loop-one-test.false in
    c.loop-one.invariant.depths
    ∙ ap (λ (fs : List PlannedFunction). depths_from [] fs)
    (take_all c.loop-one.one-index (planned_functions tree) (omega (arith, size, all, other, last)))
