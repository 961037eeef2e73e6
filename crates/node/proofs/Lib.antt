pub mod Creating
pub mod Adding
