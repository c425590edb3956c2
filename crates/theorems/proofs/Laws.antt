-- What is proved on the way; a reader of the theorems may pass these modules over.
pub mod Sizes
pub mod Slots
pub mod Making
pub mod Budgets
pub mod Calls
