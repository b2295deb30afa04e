-- The limits of a layer (this product's own): its records' numbers.
pub use Rattle.geo_exact.specs.Layers.{NumbersRise}
