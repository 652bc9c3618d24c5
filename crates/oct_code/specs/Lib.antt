pub mod Code
pub mod CodeOrder
pub mod CodeText
pub mod DigitFaults
pub mod Fields
pub mod Laws
pub mod Tests
pub mod TextFaults
