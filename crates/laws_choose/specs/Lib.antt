pub mod LimitLaws
pub mod GoodHeap
pub mod ChooseLaws
pub mod Collecting
