pub mod Filing
pub mod Numbers
pub mod Opening
pub mod Printing
pub mod Registry
pub mod Secrets
