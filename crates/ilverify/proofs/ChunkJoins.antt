-- In parts of 64: the joins of the parts are those of all, and what may be joined may be in its parts.
use Rattle.std.proofs.Common.{List, [], ◌∷◌, refl, arith}
use Rattle.std.specs.List.{AllZip}
use Rattle.ilverify.specs.declared.known.Known.{Known}
use Rattle.ilverify.specs.ChunkSteps.{whole}
use Rattle.ilverify.specs.Joins.{IsJoin, IsHeld, Each, AreJoins}
use Rattle.ilverify.proofs.ChunkPlaces.{SameLengths}
use Rattle.ilverify.proofs.JoinRows.{each_tail, each_append, each_nil}
use Rattle.ilverify.proofs.RangeLists.{zip_split}

-- ---- in parts

pub parts_held : (cs ds : List (List Known)) → SameLengths cs ds → AllZip IsHeld (whole cs) (whole ds)
    → AllZip (AllZip IsHeld) cs ds
parts_held [] [] s h = tt
parts_held [] (d ∷ ds) s h = absurd s
parts_held (c ∷ cs) [] s h = absurd s
parts_held (c ∷ cs) (d ∷ ds) s h =
    let i = zip_split IsHeld c d (whole cs) (whole ds) s.0 h in
    (i.0, parts_held cs ds s.1 i.1)

-- the joins of the parts are those of all
pub joins_whole : (cs ds es : List (List Known)) → Each AreJoins cs ds es → AreJoins (whole cs) (whole ds) (whole es)
joins_whole [] [] [] h = each_nil IsJoin
joins_whole [] [] (e ∷ es) h = let f = h.first in absurd (omega arith)
joins_whole [] (d ∷ ds) [] h = let f = h.second in absurd (omega arith)
joins_whole [] (d ∷ ds) (e ∷ es) h = let f = h.first in absurd (omega arith)
joins_whole (c ∷ cs) ds [] h = let f = h.first in absurd (omega arith)
joins_whole (c ∷ cs) [] (e ∷ es) h = let f = h.second in absurd (omega arith)
joins_whole (c ∷ cs) (d ∷ ds) (e ∷ es) h =
    each_append IsJoin c d e (whole cs) (whole ds) (whole es) (h.each 0 c d e refl refl refl)
    (joins_whole cs ds es (each_tail AreJoins c d e cs ds es h))

pub joins_alike : (cs ds es : List (List Known)) → Each AreJoins cs ds es → SameLengths cs es
joins_alike [] ds [] h = tt
joins_alike [] ds (e ∷ es) h = let f = h.first in absurd (omega arith)
joins_alike (c ∷ cs) ds [] h = let f = h.first in absurd (omega arith)
joins_alike (c ∷ cs) [] (e ∷ es) h = let f = h.second in absurd (omega arith)
joins_alike (c ∷ cs) (d ∷ ds) (e ∷ es) h =
    ((h.each 0 c d e refl refl refl).first, joins_alike cs ds es (each_tail AreJoins c d e cs ds es h))
