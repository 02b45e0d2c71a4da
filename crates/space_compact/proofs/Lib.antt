pub mod ObjectUpdates
pub mod Costs
pub mod FieldPins
pub mod FieldFixes
pub mod Movable
pub mod Visiting
pub mod PinMarks
