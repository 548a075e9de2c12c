pub mod SumLaws
pub mod RowLaws
pub mod PathLaws
pub mod OneAnswer
