pub mod DeedFacts
pub mod LawFacts
