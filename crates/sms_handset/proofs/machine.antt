pub mod BeforeOrAfter
