pub mod Chosen
pub mod Decimals
pub mod Decoded
pub mod Encoded
pub mod LinesParted
pub mod Pairs
