pub mod Text
pub mod Decimals
pub mod Whole
pub mod Table
pub mod Answered
pub mod Refusals
pub mod Exactness
