pub mod Places
pub mod Recovery
