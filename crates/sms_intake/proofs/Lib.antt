pub mod Delivers
pub mod Entities
pub mod FrontFirst
pub mod Judgements
pub mod LatinTexts
pub mod ReportOctets
pub mod SmppMoments
pub mod Texts
