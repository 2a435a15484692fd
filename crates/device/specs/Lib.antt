pub mod Alike
pub mod Cap
pub mod Meaning
pub mod Pair
pub mod Panel
pub mod Text
pub mod Wheel
