-- Question 20's "this seller's retest already", read off the accepted records.
pub mod Retried
