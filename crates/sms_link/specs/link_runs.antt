pub mod FramesSent
pub mod UnderWay
pub mod AnswersTaken
