pub mod BundleView
pub mod Printing
pub mod CountsView
pub mod FieldReading
pub mod LineReading
pub mod CertificateReading
pub mod BundleReading
pub mod Laws
