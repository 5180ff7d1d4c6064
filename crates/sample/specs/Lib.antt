pub mod Sample
pub mod Fronts
pub mod Made
pub mod Written
pub mod Summary
pub mod Playing
