-- The laws behind the survey.
pub mod Finding
