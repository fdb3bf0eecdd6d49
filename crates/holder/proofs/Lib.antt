pub mod Spelled
pub mod ByteFacts
pub mod CheckFacts
pub mod BitFacts
pub mod RoundTrips
pub mod ThinningFacts
