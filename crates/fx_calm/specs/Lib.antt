pub mod MagnitudeOf
pub mod SumOf
pub mod TermOf
pub mod LimitOf
pub mod NumbersOf
pub mod Summands
pub mod BoundOf
