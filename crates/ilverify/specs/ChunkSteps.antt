-- A list in parts of 64.
use Rattle.std.specs.Prelude.{◌≡◌, ◌<◌, ◌≤◌, List, [], ◌∷◌, ◌++◌, length, ⊤}
use Rattle.ilverify.specs.declared.known.Known.{Known}

-- the parts, one after another
abbrev pub whole : List (List Known) → List Known
whole [] = []
whole (c ∷ cs) = c ++ whole cs

-- a part before these others is full, and the last one is not empty
abbrev pub IsChunk : List Known → List (List Known) → Type 0
IsChunk c [] = (0 < length c) × (length c ≤ 64)
IsChunk c (d ∷ cs) = length c ≡ 64

abbrev pub AreChunks : List (List Known) → Type 0
AreChunks [] = ⊤
AreChunks (c ∷ cs) = IsChunk c cs × AreChunks cs
