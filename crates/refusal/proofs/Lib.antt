pub mod ChainFacts
