pub mod LawFacts
pub mod LineFacts
pub mod PrintFacts
