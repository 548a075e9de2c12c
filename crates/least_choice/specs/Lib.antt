pub mod Fewest
pub mod Totals
