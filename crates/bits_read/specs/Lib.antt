-- What the cursor's fields leave in the list that takes them.
pub mod Fields
