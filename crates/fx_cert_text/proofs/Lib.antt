pub mod Printed
pub mod PrintedTexts
mod Written
mod Worked
pub mod Shares
pub mod ShareLaws
pub mod PathLaws
pub mod CertificateLines
pub mod NodeLines
pub mod TemplateLaws
pub mod CertificateLaws
pub mod BundleLaws
