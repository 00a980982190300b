pub mod Within1024
