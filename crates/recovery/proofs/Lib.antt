pub mod Covering
pub mod RowSteps
pub mod RowWalks
pub mod OrderWalks
pub mod PlanParts
pub mod Folding
