use Rattle.std.proofs.Common.{◌≡◌, ◌≢◌, ◌+◌, ◌*◌, ◌/◌, ◌%◌, ℕ, Bool, true, false, List, [], ◌∷◌, IfSome, slice_get, refl, subst}
use Rattle.iltypes.specs.declared.condition.Condition.TheVariants.{Always}
use Rattle.iltypes.specs.declared.operator.Operator.TheVariants as operators
use Rattle.iltypes.specs.declared.value.IlType.{IlType}
use Rattle.ilcode.specs.declared.word.Word.{Word}
use Rattle.ilcode.specs.declared.word.Word.TheVariants as words
use Rattle.ilcode.specs.declared.word.WordOperand.TheVariants as operands
use Rattle.ilcells.specs.Banks.{kinds_of_types}
use Rattle.ilcells.specs.declared.choice.Choice.{Choice}
use Rattle.ilcells.specs.declared.choice.Choice.TheVariants as choices
use Rattle.ilcells.specs.declared.ready_word.ReadyWord.{ReadyWord}
use Rattle.ilcells.specs.ReadyWords.{AreReadyFor, meant}
use Rattle.refusalscode.proofs.ReadyWords.{one_ready}
use Rattle.refusalscode.proofs.Results.{if_ok}
use Rattle.refusalscode.proofs.ready.number_is_given_as_a_number.Goals as goal

abbrev kinds : List Bool
kinds = true ∷ true ∷ []

abbrev given : Word
given = words.Give (operands.Slot 0) 1

abbrev Holds : ReadyWord → Type 0
Holds word = word.choice ≢ choices.GiveTruth

pub returns : goal.returns
returns c =
    if_ok (λ ready. AreReadyFor (kinds_of_types c.args.types.now) c.args.words.now ready.items)
    (λ ready. IfSome (slice_get ready.items 0) Holds) c.ready_words.result c.ready_words.ensures (λ ready are.
    let by_types =
    subst (λ (types : List IlType). AreReadyFor (kinds_of_types types) c.args.words.now ready.items)
    c.requires.types are in
    let by_words = subst (λ (all : List Word). AreReadyFor kinds all ready.items) c.requires.words by_types in
    one_ready kinds given ready.items Holds by_words (refl, refl) (λ (made : ReadyWord) is same.
    let by_choice = subst (λ (c : Choice). meant kinds c made.extra made.number ≡ given) same is in cc))
