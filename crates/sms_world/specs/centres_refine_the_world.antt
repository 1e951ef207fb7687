pub mod FramesOut
pub mod RefinesLinks
pub mod RefinesReports
pub mod RefinesGiven
pub mod CentreRefinement
pub mod CentreLaws
