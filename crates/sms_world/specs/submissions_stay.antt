pub mod SubmittedLaws
