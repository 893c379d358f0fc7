-- Known bytes that grow by nothing, and by one after the other.
use Rattle.std.proofs.Common.{ℕ, List, [], ◌++◌, Option, Some, None, sym}
use Rattle.std.proofs.Common.{append_assoc}
use Rattle.std.proofs.lemmas.List.{append-nil}
use Rattle.std.specs.Prelude.{Result, Ok, Err, IsErrAnd, OnOk}
use Rattle.std.specs.Io.KnownBytes.{Appends}

pub appends_nothing : (bytes : Option (List ℕ)) → Appends bytes bytes []
appends_nothing None = tt
appends_nothing (Some xs) = sym (append-nil xs)

pub appends_both : (a b c : Option (List ℕ)) (xs ys : List ℕ) → Appends a b xs → Appends b c ys → Appends a c (xs ++ ys)
appends_both None b c xs ys first second = tt
appends_both (Some a) None c xs ys first second = absurd first
appends_both (Some a) (Some b) None xs ys first second = absurd second
appends_both (Some a) (Some b) (Some c) xs ys first second = rw (second, first) (append_assoc a xs ys)

-- where a writer failed, nothing is said
pub refused : {A E : Type 0} (r : Result A E) (Q : E → Type 0) (P : Type 0) → IsErrAnd r Q → OnOk r P
refused (Ok x) Q P is = absurd is
refused (Err e) Q P is = tt
