mod BitsLaws
pub mod WriteLaws
pub mod Trips
pub mod Once
