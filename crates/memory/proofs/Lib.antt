pub mod Lists
pub mod SameNames
pub mod PlaceFacts
pub mod SoundFacts
pub mod NameBytes
