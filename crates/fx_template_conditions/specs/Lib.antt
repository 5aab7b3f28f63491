pub mod Coefficients
pub mod Boxes
pub mod CertificateSide
pub mod KeptTemplates
pub mod ShortTimes
