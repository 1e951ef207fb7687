mod Adopted
mod Settled
