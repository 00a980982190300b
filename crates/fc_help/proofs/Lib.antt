pub mod Known
pub mod Laid
pub mod Places
