use Rattle.std.proofs.Common.{ℕ, ◌≡◌, ◌≤◌, List, length, refl, take, get_or, map, ap, ◌∙◌, arith}
use Rattle.std.specs.Option.{option_map_or}
use Rattle.std.specs.Prelude.{Option}
use Rattle.std.proofs.lemmas.Bool.Decides.{nat_tests}
use Rattle.std.proofs.lemmas.Option.{slice_get_past, slice_get_read}
use Rattle.std.proofs.lemmas.List.{take_more}
use Rattle.ilplan.specs.Functions.{depth_in, greatest}
use Rattle.ilsyms.proofs.FunctionsUsed.{deepest_more, greater_is, not_deeper}
use Rattle.ilsyms.proofs.usage.depth_of.Goals as goal
use Rattle.ilsyms.proofs.usage.depth_of.Goals.{in-Some, in_default}

pub loop-number-preserved : goal.loop-number-preserved
loop-number-preserved c =
    let depths = c.args.depths.now in
    let calls = c.args.calls.now in
    let i = c.loop-number.number-index in
    let all = ap (λ (ns : List ℕ). greatest (map (depth_in depths) ns))
    (take_more calls i 0 c.loop-number-test.true) ∙ deepest_more depths (take i calls) (get_or calls i 0) in
    let n = get_or calls i 0 in
    elim c.match-get.branch [
      | in-Some w ↦
          let found = slice_get_read depths (length depths) n w.in-Some.depth.now refl w.in-Some.ensures.lookup.3.0
          w.in-Some.ensures.lookup.1 in
          let is : depth_in depths n ≡ w.in-Some.depth.now = ap (λ (o : Option ℕ). option_map_or (λ d. d) o 0) found in
          let it = w.deepest-is ∙ w.max-deepest.ensures ∙ greater_is c.loop-number.deepest w.in-Some.depth.now in
          let before = c.loop-number.invariant in
          omega (arith, all, is, it, before)
      | in_default w ↦
          let none = c.get.ensures.lookup in
          let miss = w.in_default.is in
          let high : length depths ≤ n = grind (arith, nat_tests, none, miss) in
          let is : depth_in depths n ≡ 0 = ap (λ (o : Option ℕ). option_map_or (λ d. d) o 0)
          (slice_get_past depths n high) in
          let it = w.deepest-is in
          let before = c.loop-number.invariant in
          omega (arith, all, is, it, before)
    ]

pub overflow_add-result : goal.overflow_add-result
overflow_add-result c =
    let low = not_deeper c.args.depths.now 18446744073709551614
    (λ k d below. let lt = c.requires k d below in omega (arith, lt))
    (take c.loop-number.number-index c.args.calls.now) in
    let is = c.loop-number.invariant in
    omega (arith, low, is)
