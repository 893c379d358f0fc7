-- What a setup's scans mean, whichever values its variables begin with.
use Rattle.std.proofs.Common.{◌≡◌, ℕ, List, Option, Some, None}
use Rattle.wordlines.specs.Wirings.{Wiring}
use Rattle.ilcompile.specs.Loaded.{Loaded}
use Rattle.livekeep.specs.KeptFiles.{KeptEntry, KeptState}
use Rattle.plantevents.specs.declared.event.Event.{Event}
use Rattle.plantevents.specs.Plants.{Plant}
use Rattle.plantevents.specs.Legal.{AreLegal}
use Rattle.textanswers.specs.Loading.{IsSetup}
use Rattle.textanswers.specs.KeptLoading.{IsKeptSetup}
use Rattle.textanswers.specs.MeantScans.{AreAsMeant}
use Rattle.commandfiles.specs.Beginnings.{IsBegunWith, tree_of}

-- the law of the scans of a text
abbrev pub ScansAreAsMeant : Type 0
ScansAreAsMeant =
    (wiring : Wiring) (bytes : List ℕ) (setup : Loaded) (loaded : IsSetup wiring bytes setup) (p : Plant)
    (h : List Event) → p.plan ≡ setup.plan → AreLegal p h → AreAsMeant loaded.plan.tree wiring.buses h

-- what it says of a setup that begins with kept values
abbrev pub KeptScansAreAsMeant : Type 0
KeptScansAreAsMeant =
    (wiring : Wiring) (bytes : List ℕ) (kept : List KeptEntry) (setup : Loaded)
    (loaded : IsKeptSetup wiring bytes kept setup) (p : Plant) (h : List Event) → p.plan ≡ setup.plan → AreLegal p h
    → AreAsMeant loaded.plan.tree wiring.buses h

pub meant_of : (wiring : Wiring) (text : List ℕ) (kept : Option KeptState) (setup : Loaded)
    (begun : IsBegunWith wiring text kept setup) (p : Plant) (h : List Event) → ScansAreAsMeant → KeptScansAreAsMeant
    → p.plan ≡ setup.plan → AreLegal p h → AreAsMeant (tree_of wiring text kept setup begun) wiring.buses h
meant_of wiring text None setup begun p h law kept_law plan legal = law wiring text setup begun p h plan legal
meant_of wiring text (Some kept) setup begun p h law kept_law plan legal =
    kept_law wiring text kept.values setup begun p h plan legal
