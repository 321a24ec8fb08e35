pub mod Dressing
pub mod Fronts
pub mod Laws
pub mod Links
pub mod Passing
pub mod Refusing
