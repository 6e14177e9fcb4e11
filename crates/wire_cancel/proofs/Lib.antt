pub mod RecordLaws
pub mod StoredLaws
pub mod TakenLaws
pub mod Once
