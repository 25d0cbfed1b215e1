mod EndLemmas
mod PassLists
mod ClosingLemmas
mod NumberLemmas
mod ServedLists
mod Simulated
mod KeptByTurns
mod SimulatedTurns
mod Retries
mod Fillings
mod LoggedLaws
mod LogLaws
mod ReadLaws
mod ReadLemmas
mod TurnLemmas
mod ArrivalLemmas
mod ServingLemmas
mod HeldReplies
mod StepLemmas
mod WaitingLemmas
pub mod FinishedLists
pub mod KeptAlong
pub mod PassLaws
pub mod Seats
pub mod ShownAgain
pub mod WorkedLists
