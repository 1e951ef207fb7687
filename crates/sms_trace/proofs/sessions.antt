pub mod WritablePdus
