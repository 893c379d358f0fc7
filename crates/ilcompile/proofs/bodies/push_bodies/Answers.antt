use Rattle.std.proofs.Common.{◌+◌, ◌++◌, length, subst, sym, ap, ◌∙◌, Vec, Global}
use Rattle.std.specs.List.{AllByRecursion}
use Rattle.ilplan.specs.Functions.{those_in}
use Rattle.ilcode.specs.declared.word.Word.{Word}
use Rattle.ilcode.specs.Words.{HasWord}
use Rattle.ilcompile.specs.Layout.{Numbers, words_of_bodies, words_of_body}
use Rattle.ilcompile.specs.LayoutSteps.{picked}
use Rattle.ilcompile.proofs.Picked.{BodiesLeft, body_near, fewer_bodies, left_from, unused_left, used_left}
use Rattle.ilcompile.proofs.bodies.push_bodies.Goals as goal
use Rattle.ilcompile.proofs.bodies.push_bodies.Goals.{then-used-index+in_ok-push_body, else-used-index}

pub push_body-requires-clause-near : goal.push_body-requires-clause-near
push_body-requires-clause-near c =
    let fs = c.args.functions.now in
    let used = c.args.used.now in
    let constants = c.args.constants.now in
    let stand = c.args.placed.now in
    let i = c.loop-index.index in
    let ws = c.loop-index.words.items in
    let f = c.index-functions-index.result in
    let all = c.args.words.now.items ++ words_of_bodies constants stand (length c.args.words.now.items) c.args.first
    (those_in (picked fs used)) in
    let left = subst (BodiesLeft constants stand all ws c.loop-index.next)
    (used_left fs used i f c.loop-index-test.true c.requires.flags c.index-functions-index.is c.if-used-index.true)
    c.loop-index.invariant in
    subst (λ (n : Numbers). AllByRecursion HasWord (words_of_body n (length ws) f)) (sym c.new-numbers.ensures)
    (body_near constants stand all ws c.loop-index.next f (left_from fs used (i + 1)) left)

pub loop-index-preserved : goal.loop-index-preserved
loop-index-preserved c =
    let fs = c.args.functions.now in
    let used = c.args.used.now in
    let constants = c.args.constants.now in
    let stand = c.args.placed.now in
    let i = c.loop-index.index in
    let ws = c.loop-index.words.items in
    let f = c.index-functions-index.result in
    let all = c.args.words.now.items ++ words_of_bodies constants stand (length c.args.words.now.items) c.args.first
    (those_in (picked fs used)) in
    elim c.if-used-index.branch [
      | then-used-index+in_ok-push_body w ↦
          let left = subst (BodiesLeft constants stand all ws c.loop-index.next)
          (used_left fs used i f c.loop-index-test.true c.requires.flags c.index-functions-index.is
          w.if-used-index.true)
          c.loop-index.invariant in
          let is = ap (λ (v : Vec Word Global). v.items) w.words-is ∙ w.in_ok-push_body.ensures.words
          ∙ ap (λ (n : Numbers). ws ++ words_of_body n (length ws) f) w.new-numbers.ensures in
          fewer_bodies constants stand all ws c.if-used-index.words.items c.loop-index.next c.if-used-index.next f
          (left_from fs used (i + 1)) left is (w.next-is ∙ ap (λ n. c.loop-index.next + n) w.slots.ensures)
      | else-used-index w ↦
          let old = subst (BodiesLeft constants stand all ws c.loop-index.next)
          (unused_left fs used i c.loop-index-test.true c.requires.flags w.if-used-index.false)
          c.loop-index.invariant in
          let left : BodiesLeft constants stand all ws c.loop-index.next (left_from fs used (i + 1)) =
          record { items = old.items; near = old.near; slots = old.slots; words = old.words } in
          subst (λ (v : Vec Word Global). BodiesLeft constants stand all v.items c.if-used-index.next
          (left_from fs used (i + 1))) (sym w.words-is)
          (subst (λ n. BodiesLeft constants stand all ws n (left_from fs used (i + 1))) (sym w.next-is) left)
    ]
