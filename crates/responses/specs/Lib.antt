pub mod Response
pub mod ResponseSize
pub mod ResponseRead
pub mod ResponsePromises
pub mod ResponseSamples
