pub mod EncodedLaws
pub mod LengthLaws
pub mod SizeLaws
pub mod StoredLaws
pub mod ItemsLaws
pub mod WrittenLaws
pub mod Once
