use Rattle.std.proofs.Common.{◌≡◌, ℕ, List, ap, map, ◌∙◌, subst}
use Rattle.std.proofs.lemmas.List.{take_all}
use Rattle.std.specs.Prelude.{Option, Some, slice_get}
use Rattle.limits.specs.Limits.{most_inputs}
use Rattle.ildeclared.specs.Faults.{IsNextOf, OfCause, SomeOf}
use Rattle.ildeclared.specs.declared.fault.NameCause.TheVariants.{TooMany}
use Rattle.ildeclared.specs.declared.variable.DeclaredVariable.{DeclaredVariable}
use Rattle.ildeclared.proofs.Least.{next_of_more, of_one_cause}
use Rattle.ilscope.specs.Declarations.{DeclaredFunction}
use Rattle.ilsyms.proofs.excess.too_many_inputs.Goals as goal

-- the place of the input that exceeds the greatest number of a function
abbrev past : DeclaredFunction → Option ℕ
past f = slice_get (map (λ v. v.name.from) f.inputs) most_inputs

pub loop-function-preserved : goal.loop-function-preserved
loop-function-preserved c =
    let f = c.function-item.result in
    let its = c.input_past.ensures
    ∙ ap (λ (vs : List DeclaredVariable). slice_get (map (λ v. v.name.from) vs) most_inputs) c.inputs.ensures.value in
    rw c.lesser_of-least.ensures
    (next_of_more c.args.after (λ (g : DeclaredFunction). OfCause TooMany (λ at. past g ≡ Some at)) c.args.functions.now
    c.loop-function.function-index f c.loop-function.least c.exceeding.result c.loop-function-test.true
    c.function-item.is c.loop-function.invariant
    (subst (λ (o : Option ℕ). IsNextOf c.args.after (OfCause TooMany (λ at. o ≡ Some at)) c.exceeding.result) its
    c.exceeding.ensures))

pub returns : goal.returns
returns c =
    of_one_cause c.args.after TooMany (λ (g : DeclaredFunction) place. past g ≡ Some place) c.args.functions.now
    c.loop-function.least
    (subst (λ (fs : List DeclaredFunction). IsNextOf c.args.after (λ place cause. SomeOf
    (λ g. OfCause TooMany (λ at. past g ≡ Some at) place cause) fs) c.loop-function.least)
    (take_all c.loop-function.function-index c.args.functions.now c.loop-function-test.false) c.loop-function.invariant)
