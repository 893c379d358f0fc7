use Rattle.std.proofs.Common.{◌≡◌, ◌∙◌, ◌+◌, ◌<◌, ◌++◌, ◌∷◌, [], ℕ, List, ap, get_or, length, sym, take}
use Rattle.std.proofs.lemmas.List.{take_all, take_more}
use Rattle.iltypes.specs.declared.value.Value.{Value}
use Rattle.ilcells.proofs.lists.cells_of.Goals as goal

-- one value more
one_more : (before after values : List Value) (i : ℕ) (x y : Value) → i < length values → before ≡ take i values
    → after ≡ before ++ x ∷ [] → x ≡ get_or values i y → after ≡ take (i + 1) values
one_more before after values i x y below seen pushed is =
    let so_far = take i values in
    pushed
    ∙ (ap (λ xs. xs ++ x ∷ []) seen ∙ (ap (λ z. so_far ++ z ∷ []) is ∙ sym (take_more values i y below)))

pub loop-value-preserved : goal.loop-value-preserved
loop-value-preserved c =
    one_more c.loop-value.cells.items c.push.new.self.items c.args.values.now c.loop-value.value-index c.of.result _
    c.loop-value-test.true c.loop-value.invariant c.in_ok-push.ensures.items c.of.ensures

pub returns : goal.returns
returns c = c.loop-value.invariant ∙ take_all c.loop-value.value-index c.args.values.now c.loop-value-test.false
