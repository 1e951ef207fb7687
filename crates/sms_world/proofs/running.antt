pub mod Beginning
pub mod Fronts
pub mod Judging
pub mod Written
pub mod HeadlineWritten
