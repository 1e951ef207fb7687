pub mod LinksBelow
pub mod OwnSteps
pub mod BegunUnderWay
pub mod Endings
pub mod NeverSent
pub mod FrameCounts
pub mod AnswerAlone
