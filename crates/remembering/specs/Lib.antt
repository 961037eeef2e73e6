-- Ticket 12 over histories: the row of the departed is what the removals say, and what it is for.
pub mod Removals
pub mod Entering
pub mod Rows
pub mod Above
pub mod Counted
pub mod Order
pub mod Standing
pub mod Unasked
pub mod Sane
