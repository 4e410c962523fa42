pub mod Fair
