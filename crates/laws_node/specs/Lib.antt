pub mod Good
