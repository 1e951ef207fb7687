mod Marked
mod Octets
mod OwnFrames
mod WrittenBack
