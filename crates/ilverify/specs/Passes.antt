-- What becomes of a pass at a word of its code.
use Rattle.std.specs.Prelude.{◌≡◌, ◌+◌, ◌<◌, length}
use Rattle.ilverify.specs.BeforeWords.{BeforeWord}
use Rattle.ilverify.specs.Certificates.{Certificate, IsConsistentBelow, IsCertified, IsRangeRefusal}
use Rattle.ilverify.specs.declared.passed.Passed.{Passed}
use Rattle.ilverify.specs.declared.passed.Passed.TheVariants.{On, Refused, Past}
use Rattle.ilverify.specs.declared.refusal.Refusal.{Refusal}

-- the pass comes to the next word of the same code: some certificate goes on over this one
pub record IsOn (before next : BeforeWord) : Type 0 where
  pub code : next.code ≡ before.code
  pub place : next.place ≡ before.place + 1
  pub within : before.place < length before.code.instructions
  pub certificate : Certificate
  pub consistent : IsConsistentBelow before.code certificate next.place

-- the word is refused: it is the least at which no certificate goes on
pub record IsRefusedAt (before : BeforeWord) (refusal : Refusal) : Type 0 where
  pub word : refusal.word ≡ before.place
  pub refused : IsRangeRefusal before.code refusal

-- there is no word any more: some certificate is consistent at all words
pub record IsPast (before : BeforeWord) : Type 0 where
  pub end : before.place ≡ length before.code.instructions
  pub certified : IsCertified before.code

abbrev pub IsPassed : BeforeWord → Passed → Type 0
IsPassed before (On next) = IsOn before next
IsPassed before (Refused refusal) = IsRefusedAt before refusal
IsPassed before Past = IsPast before
