pub mod LastFacts
pub mod GapFacts
pub mod SeenFacts
pub mod RowFacts
pub mod PathFacts
