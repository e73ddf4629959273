pub mod Bits
pub mod BitLaws
pub mod Table
pub mod TableLaws
pub mod ItemLaws
pub mod Pack
pub mod PackLaws
pub mod Shifts
