pub mod Certificates
pub mod Play
pub mod Certs
pub mod Checks
pub mod Advances
pub mod Lending
pub mod Players
