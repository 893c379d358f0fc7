use Rattle.std.proofs.Common.{◌≡◌, ◌<◌, ℕ, length, refl, sym, ap, ◌∙◌, subst, arith}
use Rattle.std.proofs.lemmas.Bool.Decides.{nat_tests}
use Rattle.std.proofs.lemmas.List.{length_push}
use Rattle.std.proofs.lemmas.Option.{slice_get_read}
use Rattle.std.proofs.lemmas.Slice.Zip.{zip_end, zip_turn}
use Rattle.limits.specs.Limits.{most_calls}
use Rattle.ilsource.specs.Programs.{WrittenFunction}
use Rattle.ilsource.specs.declared.name.Name.{Name}
use Rattle.ildeclared.specs.Faults.{IsNextOf, OfCause}
use Rattle.ildeclared.specs.Order.{lesser_of_two}
use Rattle.ildeclared.specs.declared.fault.NameCause.TheVariants.{TooMany}
use Rattle.ilsyms.proofs.DeepFunctions.{AreTooDeepBefore, all_deep, one_more_deep}
use Rattle.ilsyms.proofs.FaultParts.{of_same}
use Rattle.ilsyms.proofs.excess.too_deep.Goals as goal

pub loop-function-preserved : goal.loop-function-preserved
loop-function-preserved c =
    let functions = c.args.functions.now in
    let depths = c.args.depths.now in
    let k = length c.loop-function.yielded in
    let f = c.in-Some.function.now in
    let d = c.in-Some.depth.now in
    let t = zip_turn functions depths c.loop-function.yielded _ _ c.next.new.self _ (cc) (cc) c.loop-function.yielded_by
    (c.in-Some.function, c.in-Some.depth) c.in-Some.is c.next.ensures.steps in
    let at_name : c.name-place.result.from ≡ f.function.name.from =
    ap (λ (n : Name). n.from)
    (c.name-place.ensures ∙ ap (λ (g : WrittenFunction). g.name) c.function.ensures.value) in
    let fault = of_same c.args.after TooMany _ (λ place. (most_calls < d) × (place ≡ f.function.name.from))
    c.found_where-fault.result
    (λ at h. (grind (arith, nat_tests, h.0), h.1 ∙ at_name))
    (λ at h. (grind (arith, nat_tests, h.0), h.1 ∙ sym at_name))
    c.found_where-fault.ensures in
    rw c.lesser_of-least.ensures
    (subst (λ (n : ℕ). IsNextOf c.args.after (OfCause TooMany (AreTooDeepBefore functions depths n))
    (lesser_of_two c.loop-function.least c.found_where-fault.result))
    (sym (length_push c.loop-function.yielded (c.in-Some.function, c.in-Some.depth)))
    (one_more_deep functions depths k f d (slice_get_read functions (length functions) k f refl t.0 (t.2 f))
    (slice_get_read depths (length depths) k d refl t.1 (t.3 d)) c.args.after c.loop-function.least
    c.found_where-fault.result
    c.loop-function.invariant fault))

pub returns : goal.returns
returns c =
    let functions = c.args.functions.now in
    let depths = c.args.depths.now in
    all_deep functions depths c.args.after (length c.loop-function.yielded) c.loop-function.least
    (zip_end functions depths c.loop-function.yielded _ _ c.next.new.self _ (cc) (cc) c.loop-function.yielded_by
    c.in-None.is c.next.ensures.steps)
    c.loop-function.invariant
