pub mod HeapSwaps
pub mod HeapSteps
pub mod HeapOrder
pub mod HeapKeeps
pub mod HeapLaws
pub mod HeapTests
pub mod HeapFrames
pub mod HeapSifted
