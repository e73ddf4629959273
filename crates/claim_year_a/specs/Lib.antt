-- Year A as the bytes of its records.
pub mod YearA
