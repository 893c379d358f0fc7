use Rattle.std.proofs.Common.{◌≡◌, List, [], ◌∷◌, length, sym, ap, ◌∙◌, subst, arith, length-append}
use Rattle.std.specs.Prelude.{reverse}
use Rattle.ilmachine.specs.declared.open_function.OpenFunction.{OpenFunction}
use Rattle.ilmachine.specs.Nestings.{Nested, own_of, calls_of, AreMarks}
use Rattle.ilmachine.proofs.Marks.{reverse_last, marks_left, calls_left}
use Rattle.ilmachine.proofs.nesting.Nesting.leave.Goals as goal

pub invariant_of-self-2 : goal.invariant_of-self-2
invariant_of-self-2 g c =
    let ws = c.self.inside.waiting.items in
    let rest = reverse c.pop.new.self.items in
    let call = c.in_ok-call.call in
    let h : reverse c.self.inside.calls.items ≡ call ∷ rest =
    ap reverse c.in_ok-call.ensures.items ∙ reverse_last c.pop.new.self.items call in
    let own : own_of ws (call ∷ rest) ≡ [] =
    ap (own_of ws) (sym h) ∙ ap (λ (n : Nested). n.nesting) c.self.view_is ∙ c.requires.closed in
    let long = ap (λ (cs : List OpenFunction). length cs) c.in_ok-call.ensures.items in
    let more = length-append c.pop.new.self.items (call ∷ []) in (
      marks_left ws rest call own (subst (AreMarks ws) h c.self.invariant.0),
      omega (arith, long, more, c.self.invariant.1),
      c.self.invariant.2,
    )

pub returns-clause-some : goal.returns-clause-some
returns-clause-some g c =
    let ws = c.self.inside.waiting.items in
    let rest = reverse c.pop.new.self.items in
    let call = c.in_ok-call.call in
    let h : reverse c.self.inside.calls.items ≡ call ∷ rest =
    ap reverse c.in_ok-call.ensures.items ∙ reverse_last c.pop.new.self.items call in
    let own : own_of ws (call ∷ rest) ≡ [] =
    ap (own_of ws) (sym h) ∙ ap (λ (n : Nested). n.nesting) c.self.view_is ∙ c.requires.closed in
    sym (ap (λ (n : Nested). n.calls) c.self.view_is) ∙ ap (calls_of ws) h ∙ calls_left ws rest call own
