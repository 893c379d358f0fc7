use Rattle.std.proofs.Common.{◌≡◌, ◌∙◌, ◌+◌, ◌++◌, ◌∷◌, [], ℕ, ap, arith, length, length-append, map, sym}
use Rattle.std.specs.Prelude.{min}
use Rattle.std.proofs.lemmas.List.{length-map}
use Rattle.ilsource.specs.Trees.{Tree, pieces_of}
use Rattle.ilsource.specs.Words.{place_of, words_of}
use Rattle.ilsource.proofs.instruction.Instruction.words.Goals as goal

-- a word for each piece, and one at either end
deferred_words : {N : Type 0} (t : Tree N) (at close : ℕ)
    → length (pieces_of t) + 2 ≡ length (at ∷ (map place_of (pieces_of t) ++ close ∷ []))
deferred_words t at close =
    omega (arith, length-append (map place_of (pieces_of t)) (close ∷ []), length-map (pieces_of t) place_of)

-- as many words by another count, up to the most that are counted
same_count : (result n k most : ℕ) → result ≡ min n most → n ≡ k → result ≡ min k most
same_count result n k most counted e = counted ∙ ap (λ x. min x most) e

pub returns-in-Deferred : goal.returns-in-Deferred
returns-in-Deferred g c =
    same_count c.saturating_add.result _ _ _ c.saturating_add.ensures
    (ap (λ ps. length ps + 2) c.pieces.ensures
    ∙ (deferred_words c.in-Deferred.nested 0 c.in-Deferred.close ∙ ap (λ i. words_of i) (sym c.in-Deferred.is)))

pub returns-in-Limit : goal.returns-in-Limit
returns-in-Limit g c = ap (λ i. min (words_of i) _) (sym c.in-Limit.is)
