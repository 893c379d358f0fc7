use Rattle.std.proofs.Common.{◌≡◌, ◌+◌, ◌*◌, ◌/◌, ◌<◌, ℕ, zero, suc, Bool, true, List, [], ◌∷◌, IfSome, slice_get, refl, ap, arith}
use Rattle.std.proofs.Common.{lit<, subst}
use Rattle.std.specs.Prelude.{replicate}
use Rattle.iltypes.specs.declared.value.IlType.{IlType}
use Rattle.ilcode.specs.declared.word.Word.{Word}
use Rattle.ilcode.specs.declared.word.Word.TheVariants as words
use Rattle.ilcode.specs.declared.word.WordOperand.TheVariants as operands
use Rattle.ilcells.specs.Banks.{kinds_of_types}
use Rattle.ilcells.specs.declared.place.BankPlace.TheVariants.{Number}
use Rattle.ilcells.specs.declared.choice.Choice.{Choice}
use Rattle.ilcells.specs.declared.choice.Choice.TheVariants as choices
use Rattle.ilcells.specs.declared.ready_word.ReadyWord.{ReadyWord}
use Rattle.ilcells.specs.ReadyWords.{AreReadyFor, given_number, given_place, meant, slot_of}
use Rattle.refusalscode.proofs.ReadyWords.{one_ready}
use Rattle.refusalscode.proofs.Results.{if_ok}
use Rattle.refusalscode.proofs.ready.place_of_a_given_slot_is_kept.Goals as goal

abbrev kinds : List Bool
kinds = replicate 17 true

abbrev given : Word
given = words.Give (operands.Slot 0) 16

abbrev Holds : ReadyWord → Type 0
Holds word = word.choice ≡ choices.GiveNumber → 16 * word.extra + word.number / 4096 ≡ 16

-- of numbers alone each slot stands at its own number
place_of : (n p k : ℕ) → k < n → slot_of (replicate n true) (Number p) ≡ k → p ≡ k
place_of zero p k low is = absurd (omega (arith, low))
place_of (suc n) zero k low is = is
place_of (suc n) (suc p) zero low is = absurd cc
place_of (suc n) (suc p) (suc k) low is = ap suc (place_of n p k (omega (arith, low)) cc)

pub returns : goal.returns
returns c =
    if_ok (λ ready. AreReadyFor (kinds_of_types c.args.types.now) c.args.words.now ready.items)
    (λ ready. IfSome (slice_get ready.items 0) Holds) c.ready_words.result c.ready_words.ensures (λ ready are.
    let by_types =
    subst (λ (types : List IlType). AreReadyFor (kinds_of_types types) c.args.words.now ready.items)
    c.requires.types are in
    let by_words = subst (λ (all : List Word). AreReadyFor kinds all ready.items) c.requires.words by_types in
    one_ready kinds given ready.items Holds by_words (refl, refl) (λ (made : ReadyWord) is same.
    let by_choice = subst (λ (c : Choice). meant kinds c made.extra made.number ≡ given) same is in
    let slot : given_number kinds made.extra made.number ≡ 16 = cc in
    place_of 17 (given_place made.extra made.number) 16 (lit< tt) slot))
