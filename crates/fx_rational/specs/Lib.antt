pub mod Gcd
pub mod Rational
pub mod Dyadic
pub mod Interval
pub mod Decimal
pub mod Laws
pub mod LowestLaw
pub mod DyadicLaws
