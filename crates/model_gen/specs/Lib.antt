pub mod Fixed
pub mod Made
