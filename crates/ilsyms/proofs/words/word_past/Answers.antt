use Rattle.std.proofs.Common.{ℕ, List, take, sym, ◌∙◌, subst}
use Rattle.std.proofs.lemmas.List.{take_all}
use Rattle.limits.specs.Limits.{most_words}
use Rattle.ilsyms.specs.FunctionSteps.{IsPast}
use Rattle.ilsyms.specs.declared.tasks.TaskInstance.{TaskInstance}
use Rattle.ilsyms.proofs.WordPast.{places_more, words_in}
use Rattle.ilsyms.proofs.words.word_past.Goals as goal

pub loop-instance-preserved : goal.loop-instance-preserved
loop-instance-preserved c =
    let words = c.args.words.now in
    let given = c.args.instances.now in
    let i = c.loop-instance.instance-index in
    subst (λ (ps : List ℕ). IsPast ps most_words c.further-past.result)
    (sym (places_more words given i _ c.as_slice.result.now _ c.loop-instance-test.true
    (c.requires i _ c.loop-instance-test.true) (c.as_slice.ensures.value ∙ c.index-words-instance.is)))
    (c.further-past.ensures (words_in words (take i given)) most_words c.loop-instance.invariant)

pub returns : goal.returns
returns c =
    subst (λ (is : List TaskInstance). IsPast (words_in c.args.words.now is) most_words c.loop-instance.past)
    (take_all c.loop-instance.instance-index c.args.instances.now c.loop-instance-test.false) c.loop-instance.invariant
