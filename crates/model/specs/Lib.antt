-- What must be believed, and nothing else: the scope's rules, for any type of address, in its order:
-- numbers, refusals, sizes, heap, choosing, collecting, list and order, the departed, lamps, handler, detector, soundness, calls.
pub mod Rows
pub mod Bounds
pub mod Answers
pub mod Words
pub mod Limit
pub mod Size
pub mod Heap
pub mod Choose
pub mod Collect
pub mod Members
pub mod Departed
pub mod Lamps
pub mod Node
pub mod Handler
pub mod Detector
pub mod Sound
pub mod Calls
