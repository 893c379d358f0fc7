-- The threads' tallies of a group in order.
use Rattle.std.specs.Prelude.{ℕ, List, [], ◌∷◌}
use Rattle.tallygroups.specs.declared.opening.GroupThreadTallies.{GroupThreadTallies}

abbrev pub tallies_of : {N : Type 0} {G : ℕ} → GroupThreadTallies N G → List (ℕ × ℕ)
tallies_of g = g.t0 ∷ g.t1 ∷ g.t2 ∷ g.t3 ∷ g.t4 ∷ g.t5 ∷ g.t6 ∷ g.t7 ∷ g.t8 ∷ []
