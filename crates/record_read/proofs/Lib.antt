mod FieldReads
pub mod TestOrder
pub mod Items
pub mod Once
