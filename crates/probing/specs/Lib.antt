-- Among any 2n - 1 pings in a row each of n peers is picked; a pick ends within 3 looks for each one wanted, or 5.
pub mod Probed
pub mod Looks
pub mod Still
pub mod Stretch
pub mod Pinged
pub mod Sent
pub mod Met
