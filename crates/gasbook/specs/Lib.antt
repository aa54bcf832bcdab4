pub mod Desk
pub mod Orders
