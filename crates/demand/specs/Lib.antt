pub mod OnStores
pub mod Xored
