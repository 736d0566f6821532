pub mod Yes
pub mod Bits
pub mod Words
pub mod Every
pub mod Lowest
