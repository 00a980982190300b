pub mod Rules
pub mod Program
pub mod Shapes
pub mod OpcodeFields
pub mod Encoding
pub mod Flow
pub mod Writes
