pub mod HeapCounts
