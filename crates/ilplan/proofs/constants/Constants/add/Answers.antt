use Rattle.std.proofs.Common.{◌≡◌, ◌∙◌, ℕ, List, [], ◌∷◌, ◌++◌, length, cond, Some, refl, ap, sym, subst}
use Rattle.std.specs.HashMap.{get}
use Rattle.std.specs.List.{position}
use Rattle.iltypes.specs.contracts.value.ValuePartialEq.TheImpl.{eq-value}
use Rattle.iltypes.specs.declared.value.Value.{Value}
use Rattle.ilplan.specs.Constants.{same_value, with_constant}
use Rattle.ilplan.proofs.Keys.{known_by, no_number, one_more}
use Rattle.ilplan.proofs.constants.Constants.add.Goals as goal

pub returns-then-contains_key-clause-ok : goal.returns-then-contains_key-clause-ok
returns-then-contains_key-clause-ok c =
    let there = sym (known_by c.self.inside.values.items c.args.value (get eq-value.it c.self.inside.numbers)
    c.self.invariant) ∙ (sym c.contains_key.ensures ∙ c.if-contains_key.true) in
    subst (λ (known : List Value). known ≡ with_constant known c.args.value) c.self.view_is (rw there refl)

pub invariant_of-self-2 : goal.invariant_of-self-2
invariant_of-self-2 c value =
    let before = c.self.inside.values.items in
    let number_of = get eq-value.it c.self.inside.numbers in
    let items = c.push_reserved.ensures.items
    ∙ ap (λ (known : List Value). known ++ c.args.value ∷ []) c.reserve.ensures.items in
    let number = c.len.ensures ∙ c.reserve.new.self.ok.0 ∙ ap (λ (known : List Value). length known) c.reserve.ensures.items in
    one_more before c.args.value number_of (get eq-value.it c.insert.new.self) c.self.invariant
    (no_number (number_of c.args.value) (sym c.contains_key.ensures ∙ c.if-contains_key.false))
    (λ other. c.in_ok-insert.ensures.updates.0 other
    ∙ ap (λ (n : ℕ). cond (eq-value.it c.args.value other) (Some n) (number_of other)) number)
    value
    ∙ ap (λ (known : List Value). position (same_value value) known) (sym items)

pub returns-clause-ok : goal.returns-clause-ok
returns-clause-ok c =
    let known = c.self.inside.values.items in
    let new = sym (known_by known c.args.value (get eq-value.it c.self.inside.numbers) c.self.invariant)
    ∙ (sym c.contains_key.ensures ∙ c.if-contains_key.false) in
    c.push_reserved.ensures.items ∙ (ap (λ (all : List Value). all ++ c.args.value ∷ []) c.reserve.ensures.items
    ∙ subst (λ (all : List Value). known ++ c.args.value ∷ [] ≡ with_constant all c.args.value) c.self.view_is
    (rw new refl))
