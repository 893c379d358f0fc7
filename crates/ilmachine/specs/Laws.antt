-- The law of the process image.
use Rattle.std.specs.Prelude.{◌≡◌, ℕ}
use Rattle.ilmachine.specs.Images.{ProcessImage, ImageVariable, layout_of, value_of, blocks_of}

-- two images of one layout with the same value under each variable and the same block instances
pub record AreAlike (image other : ProcessImage) : Type 0 where
  pub layout : layout_of image ≡ layout_of other
  pub values : (variable : ImageVariable) → value_of image variable ≡ value_of other variable
  pub blocks : (task : ℕ) → blocks_of image task ≡ blocks_of other task
