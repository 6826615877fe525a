pub mod CertificateText
pub mod CheckText
pub mod CheckExtension
pub mod CheckedExtension
pub mod Laws
