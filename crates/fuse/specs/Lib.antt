pub mod Asked
pub mod Printed
