mod Columns
mod Added
