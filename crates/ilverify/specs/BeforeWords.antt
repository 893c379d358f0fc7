-- Before a word of a code: what one pass forward over the words knows there.
use Rattle.std.specs.Prelude.{◌≡◌, ℕ, Option, Some, slice_get}
use Rattle.ilcode.specs.Listings.{Listing}
use Rattle.ilverify.specs.declared.entry.Entry.{Entry}
use Rattle.ilverify.specs.Certificates.{Certificate, IsClosest}

-- a pass before a word of a code, with what is known there, or nothing, where no scan reaches it
pub record BeforeWord : Type 0 where
  pub code : Listing
  pub place : ℕ
  pub entry : Option Entry

-- what is known before the word is its entry in the certificate that says most, of those that are consistent at the words
-- before it
pub record IsKnownBefore (before : BeforeWord) : Type 0 where
  pub certificate : Certificate
  pub closest : IsClosest before.code certificate before.place
  pub is : slice_get certificate before.place ≡ Some before.entry
