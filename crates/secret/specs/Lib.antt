pub mod Owner
pub mod Accepted
pub mod Fitness
