pub mod Complete
pub mod Counting
pub mod Firsts
