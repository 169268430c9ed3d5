pub mod NoValue
