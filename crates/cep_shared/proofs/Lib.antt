pub mod SizeOrder
pub mod Unset
pub mod InOrder
pub mod Joined
