pub mod JudgedFacts
