pub mod Relief
