-- A text with what the controller is connected to, in which the addresses of located variables are looked up.
use Rattle.wordlines.specs.Wirings.{Wiring}
use Rattle.ilsource.specs.SourceTrees.{Tree}

pub record Scoped : Type 0 where
  pub tree : Tree
  pub wiring : Wiring
