use Rattle.std.proofs.Common.{◌≡◌, ◌∙◌, ◌++◌, ◌∷◌, [], ℕ, List, ap, replicate, arith, Vec, Global}
use Rattle.std.proofs.lemmas.List.{map-append, replicate_more}
use Rattle.ilmachine.specs.declared.slots.TaskSlot.{TaskSlot}
use Rattle.ilmachine.specs.RowSteps.{lists_of}
use Rattle.ilmachine.proofs.index.empty_index.Goals as goal

pub loop-global-preserved : goal.loop-global-preserved
loop-global-preserved c =
    let l = c.loop-global in
    let items = λ (v : Vec TaskSlot Global). v.items in
    let none : List TaskSlot = [] in
    ap (lists_of items) c.in_ok-push.ensures.items ∙ map-append items l.index.items (c.new.result ∷ [])
    ∙ ap (λ (ls : List (List TaskSlot)). ls ++ items c.new.result ∷ []) l.invariant
    ∙ ap (λ (ss : List TaskSlot). replicate l._global none ++ ss ∷ []) c.new.ensures.items
    ∙ replicate_more l._global none

pub returns : goal.returns
returns c =
    let l = c.loop-global in
    let none : List TaskSlot = [] in
    let done : l._global ≡ c.args.globals = omega arith in
    l.invariant ∙ ap (λ (n : ℕ). replicate n none) done
