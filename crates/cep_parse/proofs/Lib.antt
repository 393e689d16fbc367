pub mod BackAtoms
pub mod BackItems
pub mod Within
pub mod ParsedOnce
