pub mod CauseLaws
pub mod FieldLaws
pub mod FrontLaws
pub mod FaultLaws
pub mod Rows
pub mod TypeLaws
pub mod UnitLaws
pub mod UnitLengths
