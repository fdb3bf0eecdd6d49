pub mod Letters
pub mod Chains
