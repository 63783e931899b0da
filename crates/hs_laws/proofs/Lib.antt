mod TermTrees
pub mod Lists
pub mod Marks
pub mod Held
mod Owes
mod Steps
pub mod Ends
pub mod Changes
pub mod States
pub mod RunParts
pub mod Stranding
pub mod WaitsBegan
pub mod CellSteps
pub mod CellRuns
pub mod CellHistories
pub mod NothingLegal
pub mod Growing
pub mod Ticking
pub mod HowItEnds
pub mod Expanded
pub mod SameCases
pub mod Later
pub mod cases_lemmas
