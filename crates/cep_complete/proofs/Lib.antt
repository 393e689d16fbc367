pub mod Applying
pub mod Extended
pub mod Finite
pub mod OffersThere
