-- The definitions and laws of the calendar.
pub mod Calendar
