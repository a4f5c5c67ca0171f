pub mod Map
