use Rattle.std.proofs.Common.{◌≡◌, Some, slice_get, inl, inr}
use Rattle.limits.specs.Limits.{most_words}
use Rattle.ildeclared.specs.declared.fault.NameCause.TheVariants.{TooMany}
use Rattle.ilsyms.specs.Faults.{IsTooManyIn, IsWellNamed, all_word_places}
use Rattle.ilsyms.specs.Tasks.{SourceTask, tasks_of}
use Rattle.refusalslanguage.proofs.Results.{if_ok}
use Rattle.refusalslanguage.proofs.Somewhere.{some_has}
use Rattle.refusalslanguage.proofs.names.task_with_too_many_words_is_refused.Goals as goal

pub returns : goal.returns
returns c =
    let tree = c.args.source.now in
    let place = c.args.place in
    let words = λ (task : SourceTask). slice_get (all_word_places tree task.instances) most_words ≡ Some place in
    let many = λ (task : SourceTask). IsTooManyIn tree place task.instances in
    let some = some_has words many (tasks_of tree) c.requires (λ task is. inr (inr (inl is))) in
    if_ok (λ _. IsWellNamed tree c.args.binding.now) (λ _. ⊥) c.resolve.result c.resolve.ensures.named
    (λ _ named. named place TooMany (inr (inr (inr (inl some)))))
