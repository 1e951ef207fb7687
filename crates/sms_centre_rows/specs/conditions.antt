pub mod AddressTest
pub mod MessageTest
pub mod Differing
pub mod AllocationTest
pub mod ReportTest
pub mod WaitingTest
pub mod SplitTest
