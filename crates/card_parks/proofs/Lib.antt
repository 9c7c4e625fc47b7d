pub mod Parks
