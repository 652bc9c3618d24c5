pub mod Bfile
pub mod BfileLaws
