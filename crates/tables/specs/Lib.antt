pub mod Sheets
pub mod Lent
pub mod Admitted
pub mod Answers
