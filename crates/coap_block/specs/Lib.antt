pub mod Cuts
pub mod Uploads
pub mod Views
pub mod Places
pub mod Transfers
pub mod UnderWay
pub mod Pieces
pub mod Causes
