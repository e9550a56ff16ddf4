pub mod Laying
pub mod Once
