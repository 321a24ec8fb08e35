pub mod Ref
pub mod Placed
pub mod Worked
