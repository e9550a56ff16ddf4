pub mod Decimal
pub mod Text
pub mod Committed
