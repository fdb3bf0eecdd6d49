pub mod AcceptFacts
pub mod FillFacts
pub mod FitnessFacts
