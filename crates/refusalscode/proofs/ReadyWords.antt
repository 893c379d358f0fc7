-- The ready word of a code of one word.
use Rattle.std.proofs.Common.{◌≡◌, ℕ, List, [], ◌∷◌, Bool, IfSome, slice_get}
use Rattle.ilcode.specs.declared.word.Word.{Word}
use Rattle.ilcells.specs.declared.ready_word.ReadyWord.{ReadyWord}
use Rattle.ilcells.specs.ReadyWords.{AreReadyFor, Fits, stands_for}

pub one_ready : (kinds : List Bool) (word : Word) (ready : List ReadyWord) (P : ReadyWord → Type 0)
    → AreReadyFor kinds (word ∷ []) ready → Fits kinds word
    → ((made : ReadyWord) → stands_for kinds made ≡ word → P made) → IfSome (slice_get ready 0) P
one_ready kinds word [] P are fits each = absurd are
one_ready kinds word (made ∷ more) P are fits each = each made (are.0 fits)
