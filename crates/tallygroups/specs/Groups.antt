-- A thread's tally of a group is seen as its place and its amount.
use Rattle.std.specs.Prelude.{◌≡◌, ℕ}
use Rattle.tallygroups.specs.declared.group.TallyByPlace.{TallyByPlace}
use Rattle.tallygroups.specs.declared.group.TallyByPlace.TheVariants.{H0, H1, H2, H3, H4, H5, H6, H7, H8}

abbrev pub place_of : {N : Type 0} {G : ℕ} → TallyByPlace N G → ℕ
place_of (H0 s) = 0
place_of (H1 s) = 1
place_of (H2 s) = 2
place_of (H3 s) = 3
place_of (H4 s) = 4
place_of (H5 s) = 5
place_of (H6 s) = 6
place_of (H7 s) = 7
place_of (H8 s) = 8

abbrev pub amount_of : {N : Type 0} {G : ℕ} → TallyByPlace N G → ℕ
amount_of (H0 s) = s.amount
amount_of (H1 s) = s.amount
amount_of (H2 s) = s.amount
amount_of (H3 s) = s.amount
amount_of (H4 s) = s.amount
amount_of (H5 s) = s.amount
amount_of (H6 s) = s.amount
amount_of (H7 s) = s.amount
amount_of (H8 s) = s.amount

-- it has the one part of its ledger
abbrev pub IsWhole : {N : Type 0} {G : ℕ} → TallyByPlace N G → Type 0
IsWhole (H0 s) = s.parts ≡ 1
IsWhole (H1 s) = s.parts ≡ 1
IsWhole (H2 s) = s.parts ≡ 1
IsWhole (H3 s) = s.parts ≡ 1
IsWhole (H4 s) = s.parts ≡ 1
IsWhole (H5 s) = s.parts ≡ 1
IsWhole (H6 s) = s.parts ≡ 1
IsWhole (H7 s) = s.parts ≡ 1
IsWhole (H8 s) = s.parts ≡ 1
