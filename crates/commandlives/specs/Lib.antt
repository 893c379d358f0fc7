pub mod Buildings
