pub mod Decimal
pub mod Hex
pub mod Lines
pub mod Put
pub mod RefusalLine
