pub mod PlacesLaws
pub mod PlaceBytesLaws
pub mod ReadsLaws
pub mod SeekLaws
pub mod Once
