pub mod FilingFacts
pub mod FitFacts
pub mod LineFacts
pub mod RegistryFacts
