pub mod WithLaws
pub mod GlanceLaws
pub mod Once
