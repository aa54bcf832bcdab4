pub mod Lawful
pub mod Months
pub mod Places
pub mod SameSide
pub mod SlotLaws
pub mod SlotPlaces
pub mod Sums
