mod Examples
pub mod Again
pub mod Alternatives
pub mod Ascending
pub mod Checked
pub mod Diagnoses
pub mod DoSaid
pub mod Elements
pub mod Joined
pub mod Lines
pub mod Named
pub mod OperationsAgain
pub mod Signs
pub mod Spelled
pub mod SplitSaid
pub mod Reported
pub mod WordsLeft
pub mod WrongPlaces
