pub mod ProgramRequests
pub mod Recording
pub mod Reports
